-- What an operation knows among seats that keep the rules, and how its Begin, its End and its items that change nothing keep them.
use Rattle.std.proofs.Common.{◌≡◌, inl, Bool, true, false, ◌&&◌, List, [], ◌∷◌, fold, Option, Some, refl, sym, ap, ◌∙◌, subst, append-nil}
use Rattle.std.proofs.lemmas.List.Sums.{fold-append}
use Rattle.cache_types.specs.declared.answer.Answer.{Answer}
use Rattle.cache_types.specs.declared.answer.Answer.TheVariants.{NoMemory}
use Rattle.cache_types.specs.declared.request.Request.{Request}
use Rattle.cache_types.specs.declared.seat.Who.{Who}
use Rattle.file_log.specs.declared.call.Call.{Call}
use Rattle.file_log.specs.declared.item.LogItem.{LogItem}
use Rattle.file_log.specs.declared.item.LogItem.TheVariants as items
use Rattle.file_log.specs.declared.reply.Reply.{Reply}
use Rattle.file_log.specs.Along.{All, Keeps}
use Rattle.file_log.specs.Disk.{Start}
use Rattle.file_log.specs.Effect.{applied}
use Rattle.file_log.specs.Legal.{IsLegal, Legal}
use Rattle.file_log.specs.Log.{History, is_own, own, NoStop}
use Rattle.file_log.specs.Operation.{IsStill}
use Rattle.file_log.specs.Seat.{Seen, IsIdle, Course, course_after, course_of}
use Rattle.file_log.specs.State.{State, first, after, state_of, disk_of}
use Rattle.file_log.specs.Told.{IsToldBy}
use Rattle.file_log.proofs.All.{seat_self}
use Rattle.files_api.specs.declared.machine.Step.{Step}
use Rattle.files_api.specs.declared.machine.Step.TheVariants.{Done}
use Rattle.files_api.proofs.Weave.{Inductive, Outer, weave_operation}
use Rattle.seat_rules.specs.Changes.{with_item}
use Rattle.seat_rules.specs.Operations.{is_bound, IsInside}
use Rattle.seat_rules.specs.Places.{past}
use Rattle.layout_rules.specs.Places.{Cooperating}
use Rattle.layout_rules.specs.Rules.{AnswersAreEarned, KeepsRules}
use Rattle.seat_rules.proofs.Along.{all_from}
use Rattle.seat_rules.proofs.Histories.{goes_by}
use Rattle.folder_changes.specs.Course.{IsWithin}
use Rattle.folder_changes.specs.Order.{InOrder}
use Rattle.folder_changes.proofs.Earning.{meets, earns, idle_may_begin}
use Rattle.folder_changes.proofs.Keeping.{still_keeps}
use Rattle.folder_changes.proofs.Ordering.{stays_in_order}
use Rattle.folder_store.specs.Keeping.{HasKept, KeepsRulesAmong}
use Rattle.folder_store.proofs.Calls.{not_ask}

-- ---- histories that go on by items that can come

-- the item can come after the history
abbrev pub CanFollow : History → LogItem → Type 0
CanFollow h x = IsLegal (state_of h) x

pub follow : (h : History) (news : List LogItem) → Legal (state_of h) news → All with_item CanFollow h news
follow h [] legal = tt
follow h (x ∷ news) legal = (legal.0, follow (with_item h x) news (subst (λ (s : State). Legal s news) (sym (fold-append after (first h.start) h.log (x ∷ []))) legal.1))

order_along : (h : History) (news : List LogItem) → InOrder h → All with_item CanFollow h news → All with_item KeepsRules h news → InOrder (fold with_item h news)
order_along h [] o legal keeps = o
order_along h (x ∷ news) o legal keeps = order_along (with_item h x) news (stays_in_order.1 h x o legal.0 keeps.0) legal.1 keeps.1

order_from : (start : Start) (log : List LogItem) → start ≡ [] → Legal (first start) log → Cooperating log → InOrder (record { start = start; log = log })
order_from start log empty legal keeps =
    let begun : Legal (state_of (past [])) log = subst (λ (s : Start). Legal (first s) log) empty legal in
    let along = all_from KeepsRules log [] log [] (sym (append-nil log)) keeps in
    let ordered = subst InOrder (goes_by (past []) log) (order_along (past []) log stays_in_order.0 (follow (past []) log begun) along) in
    subst (λ (s : Start). InOrder (record { start = s; log = log })) (sym empty) ordered

-- in a log that keeps the rules all is in order
pub order_of : (h : History) → HasKept h → InOrder h
order_of h k = order_from h.start h.log k.empty k.legal k.cooperating

-- ---- an own item that changes nothing

pub still_rules : (h : History) (x : LogItem) → InOrder h → AnswersAreEarned h x → IsStill (disk_of h) (applied (disk_of h) x) → KeepsRules h x
still_rules h x o earned still who seat = still_keeps h x who o earned still

-- ---- outside of operations

-- where the history is told, the seat knows of no open operation
abbrev pub IsIdleIn : Who → Option History → Type 0
IsIdleIn me old = (h : History) → old ≡ Some h → (course_of me h.log).inside ≡ false

pub idle_in : (me : Who) (seen : Seen) (old : Option History) → IsIdle seen → IsToldBy me seen old → IsIdleIn me old
idle_in me seen old idle told h e = sym (subst (IsToldBy me seen) e told).inside ∙ idle.outside

module _ (me : Who) where
  -- all is in order, and the seat knows of no open operation
  pub record IsOut (h : History) : Type 0 where
    pub order : InOrder h
    pub idle : (course_of me h.log).inside ≡ false

  pub course_then : (h : History) (x : LogItem) → course_of me (with_item h x).log ≡ course_after me (course_of me h.log) x
  course_then h x = fold-append (course_after me) (record { inside = false; hurt = false }) h.log (x ∷ [])

  pub out_other : (h : History) (x : LogItem) → IsOut h → is_own me x ≡ false → CanFollow h x → KeepsRules h x → IsOut (with_item h x)
  out_other h x out other legal keeps = record {
    order = stays_in_order.1 h x out.order legal keeps;
    idle = ap (λ (c : Course). c.inside) (course_then h x) ∙ rw other out.idle;
  }

  pub out_ended : (h : History) (answer : Answer) → InOrder h → CanFollow h (items.End me answer) → KeepsRules h (items.End me answer) → IsOut (with_item h (items.End me answer))
  out_ended h answer o legal keeps = record {
    order = stays_in_order.1 h (items.End me answer) o legal keeps;
    idle = ap (λ (c : Course). c.inside) (course_then h (items.End me answer)) ∙ rw (seat_self me) refl;
  }

  -- ---- within one

  abbrev pub Within : LogItem → Type 0
  Within x = IsWithin me x

  and_none : (b : Bool) → (b && false) ≡ false
  and_none true = refl
  and_none false = refl

  pub within_inner : (x : LogItem) → is_bound x ≡ false → Within x
  within_inner x inner = ap (λ (b : Bool). is_own me x && b) inner ∙ and_none (is_own me x)

  pub within_other : (x : LogItem) → is_own me x ≡ false → Within x
  within_other x other = ap (λ (b : Bool). b && is_bound x) other

  -- all is in order, and the seat is in the operation that was asked for
  pub record IsIn (request : Request) (h : History) : Type 0 where
    pub order : InOrder h
    pub inside : IsInside h.log me request

  pub in_then : (request : Request) (h : History) (x : LogItem) → IsIn request h → Within x → CanFollow h x → KeepsRules h x → IsIn request (with_item h x)
  in_then request h x i within legal keeps = record { order = stays_in_order.1 h x i.order legal keeps; inside = (meets h x me request within).stays_inside i.inside }

  -- its Begin
  pub begin_rules : (request : Request) (h : History) → IsOut h → KeepsRules h (items.Begin me request)
  begin_rules request h out = still_rules h (items.Begin me request) out.order (idle_may_begin h me request out.idle) (record { names = λ name. refl; files = λ file. refl })

  pub begun : (request : Request) (h : History) → IsOut h → CanFollow h (items.Begin me request) → IsIn request (with_item h (items.Begin me request))
  begun request h out legal = record {
    order = stays_in_order.1 h (items.Begin me request) out.order legal (begin_rules request h out);
    inside = record { before = h.log; since = []; log_is = refl; goes_on = tt };
  }

  -- its End
  pub end_rules : (h : History) (answer : Answer) → InOrder h → AnswersAreEarned h (items.End me answer) → KeepsRules h (items.End me answer)
  end_rules h answer o earned = still_rules h (items.End me answer) o earned (record { names = λ name. refl; files = λ file. refl })

  -- ---- an operation without a call

  gives : Answer → Unit {0} → Step
  gives answer m = Done answer

  -- an answer that each operation of the request has earned
  abbrev EarnedByAny : Request → Answer → Type 0
  EarnedByAny request answer = (h : History) → IsInside h.log me request → AnswersAreEarned h (items.End me answer)

  abbrev Knows : Request → Unit {0} → History → Type 0
  Knows request m h = IsIn request h

  abbrev Asks : Unit {0} → Call → Reply → List LogItem → History → Type 0
  Asks m call reply made h = ⊥

  inductive : (request : Request) (answer : Answer) → Inductive (gives answer) (λ m. m) (λ m reply n. Unit {0}) me with_item CanFollow KeepsRules (Knows request) Asks
  unfolding gives
  inductive request answer = record {
    enters = λ m call reply made h i e a makes. not_ask call answer e;
    steps = λ m call reply x made h d legal. absurd d;
    others = λ m call reply made x h d other goes legal rules. absurd d;
    between = λ m x h i other goes legal rules. in_then request h x i (within_other x other) legal rules;
    leaves = λ m n call reply h d fed. absurd d;
  }

  outer : (request : Request) (answer : Answer) → EarnedByAny request answer → Outer (gives answer) me with_item CanFollow KeepsRules (Knows request) IsOut tt request answer
  outer request answer earned = record {
    begins = λ h out legal. (begin_rules request h out, begun request h out legal);
    ends = λ m given h i e is legal.
        let rules = end_rules h answer i.order (earned h i.inside) in
        (rules, out_ended h answer i.order legal rules);
    outside = λ x h out other goes legal rules. out_other h x out other legal rules;
  }

  pub no_calls_keep : (request : Request) (answer : Answer) (h : History) (news : List LogItem) → EarnedByAny request answer → own me news ≡ items.Begin me request ∷ (items.End me answer ∷ []) → Legal (state_of h) news → NoStop me.process news → IsOut h
      → Keeps with_item KeepsRules me h news
  unfolding gives
  no_calls_keep request answer h news earned e legal goes out =
      (weave_operation (gives answer) (λ m. m) (λ m reply n. Unit {0}) me with_item CanFollow KeepsRules (Knows request) Asks (inductive request answer) IsOut tt request answer (outer request answer earned) news h [] [] answer tt out (refl, refl) (inl refl)
      (append-nil (own me news) ∙ e) (follow h news legal) goes).0

  -- of an operation for which there was no memory
  pub unmade_keeps : (request : Request) (h : History) (news : List LogItem) → own me news ≡ items.Begin me request ∷ (items.End me NoMemory ∷ []) → Legal (state_of h) news → NoStop me.process news → (course_of me h.log).inside ≡ false → KeepsRulesAmong me h news
  unmade_keeps request h news e legal goes idle kept =
      no_calls_keep request NoMemory h news (λ h' i. (earns h' me).no_memory request i) e legal goes (record { order = order_of h kept; idle = idle })
