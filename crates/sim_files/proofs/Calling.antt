-- A call of the seat, item by item, while others have items of their own.
use Rattle.std.proofs.Common.{◌≡◌, ◌<◌, ◌+◌, ◌-◌, ◌^◌, ◌⊎◌, ◌||◌, inl, inr, ℕ, cond, nat_eq, Bool, true, false, List, [], ◌∷◌, ◌++◌, fold, length, get_or, Some, refl, sym, ap, ◌∙◌, subst, arith}
use mathlib.Core.Path.{fun_ext}
use Rattle.std.proofs.lemmas.Bool.{false≢true, eq-eqb, ne_eqb}
use Rattle.std.proofs.lemmas.List.{append-nil}
use Rattle.std.proofs.lemmas.List.Sums.{fold-append}
use Rattle.cache_types.specs.declared.seat.Who.{Who}
use Rattle.file_log.specs.declared.call.Call.{Call}
use Rattle.file_log.specs.declared.call.Call.TheVariants as calls
use Rattle.file_log.specs.declared.note.Note.TheVariants as notes
use Rattle.file_log.specs.declared.reply.Reply.{Reply}
use Rattle.file_log.specs.declared.reply.Reply.TheVariants as replies
use Rattle.file_log.specs.declared.item.LogItem.{LogItem}
use Rattle.file_log.specs.declared.item.LogItem.TheVariants as items
use Rattle.file_log.specs.Exchange.{Answers, Makes, items_before, items_refused}
use Rattle.file_log.specs.Legal.{Legal}
use Rattle.file_log.specs.Log.{History, with_items, own, is_own, is_stop, NoStop, EndsOwn}
use Rattle.file_log.specs.Seat.{Seen, IsSeen, MayCall, course_of}
use Rattle.file_log.specs.State.{State, first, after, halted_after, state_of}
use Rattle.file_log.specs.Told.{Grows, Owns, OwnsToEnd, IsSomeItem}
use Rattle.file_log.proofs.Logs.{grows_then, grows_to_end, but_the_end, nothing_yet}
use Rattle.file_model.specs.declared.step.Progress.{Progress}
use Rattle.file_model.specs.declared.step.Progress.TheVariants as progresses
use Rattle.file_model.specs.Held.{Held}
use Rattle.file_model.specs.Seeing.{seen_of}
use Rattle.file_model.specs.Steps.{byte_item, done_items, step_items, is_inside, IsEarlier, IsPlace, Stepped}
use Rattle.seat_order.proofs.Orderly.{AreMine}
use Rattle.seat_order.proofs.Mine.{step_mine}
use Rattle.sim_files.specs.Seats.{GoesOn, Tells, bytes_in}
use Rattle.sim_world.specs.declared.stage.Stage.{Stage}
use Rattle.seat_order.proofs.Making.{none_before, place_at_first, place_then, more_made, made_all, answers_so}
use Rattle.sim_files.proofs.Seeing.{seen_by_step, others_leave, step_leaves}

-- ---- what is seen

seen_same : (a b : Seen) → IsSeen a b → a ≡ b
seen_same a b s =
    ap (λ (f : ℕ → Bool). record { filled = f; inside = a.inside; hurt = a.hurt }) (fun_ext s.filled)
    ∙ ap (λ (x : Bool). record { filled = b.filled; inside = x; hurt = a.hurt }) s.inside
    ∙ ap (λ (x : Bool). record { filled = b.filled; inside = b.inside; hurt = x }) s.hurt

-- ---- processes that go on

stop_flip : (p q : ℕ) → nat_eq p q ≡ false → nat_eq q p ≡ false
stop_flip p q e = ne_eqb q p (λ same. false≢true (sym e ∙ eq-eqb p q (sym same)))

halts_none : (halted : ℕ → Bool) (x : LogItem) (p : ℕ) → halted p ≡ false → is_stop p x ≡ false → halted_after halted x p ≡ false
halts_none halted (items.Stop q) p goes other = ap (λ (b : Bool). b || halted p) (stop_flip p q other) ∙ goes
halts_none halted x p goes other = goes

alive_then : (s : State) (p : ℕ) (news : List LogItem) → s.halted p ≡ false → NoStop p news → (fold after s news).halted p ≡ false
alive_then s p [] goes none = goes
alive_then s p (x ∷ news) goes none = alive_then (after s x) p news (halts_none s.halted x p goes none.0) none.1

pub goes_further : (me : Who) (h : History) (news : List LogItem) → GoesOn me h → NoStop me.process news → GoesOn me (with_items h news)
goes_further me h news goes none = ap (λ (s : State). s.halted me.process) (fold-append after (first h.start) h.log news) ∙ alive_then (state_of h) me.process news goes none

-- ---- items of one seat

all_own : (me : Who) (news : List LogItem) → AreMine me news → own me news ≡ news
all_own me [] mine = refl
all_own me (x ∷ news) mine = ap (λ (b : Bool). cond b (x ∷ own me news) (own me news)) mine.0 ∙ ap (λ (l : List LogItem). x ∷ l) (all_own me news mine.1)

stops_none : (me : Who) (x : LogItem) (p : ℕ) → is_own me x ≡ true → is_stop p x ≡ false
stops_none me (items.Stop q) p mine = absurd cc
stops_none me x p mine = refl

none_stops : (me : Who) (news : List LogItem) (p : ℕ) → AreMine me news → NoStop p news
none_stops me [] p mine = tt
none_stops me (x ∷ news) p mine = (stops_none me x p mine.0, none_stops me news p mine.1)

ends_own : (me : Who) (x : LogItem) (news : List LogItem) → is_own me x ≡ true → AreMine me news → EndsOwn me (x ∷ news)
ends_own me x [] first rest = ([], x, refl, first)
ends_own me x (y ∷ news) first rest = let later = ends_own me y news rest.0 rest.1 in (x ∷ later.0, later.1, ap (λ (l : List LogItem). x ∷ l) later.2, later.3)

ends_some : (me : Who) (news : List LogItem) → AreMine me news → IsSomeItem news → EndsOwn me news
ends_some me [] mine some = absurd some
ends_some me (x ∷ news) mine some = ends_own me x news mine.0 mine.1

-- own items come
own_grows : (me : Who) (h new : History) (news : List LogItem) → AreMine me news → Legal (state_of h) news → new ≡ with_items h news → Grows (Some h) (Some new) (OwnsToEnd me news)
own_grows me h new news mine legal e = (news, ap (λ (x : History). Some x) e, record { owns = record { own_items = all_own me news mine; legal = legal; goes_on = none_stops me news me.process mine }; ends = ends_some me news mine })

-- and after others they stand at the end
joins : (me : Who) (old mid new : History) (before news : List LogItem) → Grows (Some old) (Some mid) (Owns me before) → (news ≡ [] → Grows (Some old) (Some mid) (OwnsToEnd me before)) → AreMine me news → Legal (state_of mid) news → new ≡ with_items mid news
    → Grows (Some old) (Some new) (OwnsToEnd me (before ++ news))
joins me old mid new before [] p q mine legal e =
    let same : mid ≡ new = ap (λ (l : List LogItem). record { start = mid.start; log = l }) (sym (append-nil mid.log)) ∙ sym e in
    subst (λ (l : List LogItem). Grows (Some old) (Some new) (OwnsToEnd me l)) (sym (append-nil before)) (subst (λ (h : History). Grows (Some old) (Some h) (OwnsToEnd me before)) same (q refl))
joins me old mid new before (x ∷ news) p q mine legal e = grows_to_end me (Some old) (Some mid) (Some new) before (x ∷ news) tt p (own_grows me mid new (x ∷ news) mine legal e)

-- ---- which steps make no item

some_done : (me : Who) (call : Call) (done : ℕ) → done_items me call done ≡ [] → ⊥
some_done me (calls.WriteAt slot at bytes) done e = by_test (nat_eq (length bytes) 0) e
  where
    by_test : (b : Bool) → cond b (items.Did me (calls.WriteAt slot at bytes) replies.Done ∷ []) (items.Byte me slot (at + done) (get_or bytes done 0) ∷ []) ≡ [] → ⊥
    by_test true e = absurd cc
    by_test false e = absurd cc
some_done me (calls.Tell (notes.Begin request)) done e = absurd cc
some_done me (calls.Tell (notes.Evict store driver key)) done e = absurd cc
some_done me (calls.Tell (notes.End answer)) done e = absurd cc
some_done me call done e = absurd cc

refused_by : (me : Who) (inside : Bool) → cond inside (items.Failed me true ∷ []) [] ≡ [] → inside ≡ false
refused_by me true e = absurd cc
refused_by me false e = refl

refused_none : (me : Who) (inside : Bool) (call : Call) (done : ℕ) → items_refused me inside call ≡ [] → (inside ≡ false) ⊎ (items_before me call done ≡ [])
refused_none me inside (calls.Tell note) done e = inr refl
refused_none me inside call done e = inl (refused_by me inside e)

one_item : (x : LogItem) → x ∷ [] ≡ [] → ⊥
one_item x e = absurd cc

none_made : (me : Who) (inside : Bool) (call : Call) (done : ℕ) (reply : Reply) → step_items (progresses.Reply reply) me inside call done ≡ [] → (inside ≡ false) ⊎ (items_before me call done ≡ [])
none_made me inside call done replies.Done e = absurd (some_done me call done e)
none_made me inside call done replies.Failed e = absurd (one_item (items.Failed me false) e)
none_made me inside call done replies.NoMemory e = refused_none me inside call done e
none_made me inside call done reply e = absurd (one_item (items.Did me call reply) e)

some_byte : (me : Who) (call : Call) (done : ℕ) → IsEarlier call done → byte_item me call done ≡ [] → ⊥
some_byte me (calls.WriteAt slot at bytes) done earlier e = absurd cc
some_byte me call done earlier e = absurd earlier

-- ---- how far a call came

-- So many items of a call are made, and others may have had theirs between them. Outside of an operation none stands after the last of them.
pub record IsMade (me : Who) (call : Call) (done : ℕ) (old now : History) : Type 0 where
  pub place : IsPlace call done
  pub seen : IsSeen (seen_of me now) (seen_of me old)
  pub goes_on : GoesOn me now
  pub grows : Grows (Some old) (Some now) (Owns me (items_before me call done))
  pub ends : (seen_of me old).inside ≡ false → Grows (Some old) (Some now) (OwnsToEnd me (items_before me call done))

-- the bytes that are left
abbrev pub left_of : Call → ℕ → ℕ
left_of call done = bytes_in call - done

-- the next number of a byte is a number
pub next_fits : (call : Call) (done : ℕ) → bytes_in call < 2 ^ 64 → IsEarlier call done → done + 1 < 2 ^ 64
next_fits (calls.WriteAt slot at bytes) done small earlier = omega (arith, small, earlier)
next_fits call done small earlier = absurd earlier

pub left_less : (call : Call) (done : ℕ) → IsEarlier call done → left_of call (done + 1) < left_of call done
left_less (calls.WriteAt slot at bytes) done earlier = omega (arith, earlier)
left_less call done earlier = absurd earlier

no_more : (me : Who) (old now : History) (made : List LogItem) → made ≡ [] → Grows (Some old) (Some now) (Owns me made) → Grows (Some old) (Some now) (OwnsToEnd me made)
no_more me old now made none g = (g.0, g.1, record { owns = g.2; ends = λ some. absurd (subst IsSomeItem none some) })

pub made_first : (me : Who) (call : Call) (old : History) → GoesOn me old → IsMade me call 0 old old
made_first me call old goes =
    let none : items_before me call 0 ≡ [] = none_before me call in
    let g : Grows (Some old) (Some old) (Owns me (items_before me call 0)) = subst (λ (l : List LogItem). Grows (Some old) (Some old) (Owns me l)) (sym none) (nothing_yet me (Some old)) in
    record {
      place = place_at_first me call;
      seen = record { filled = λ at. refl; inside = refl; hurt = refl };
      goes_on = goes;
      grows = g;
      ends = λ out. no_more me old old (items_before me call 0) none g;
    }

seen_after_others : (me : Who) (now mid : History) → Grows (Some now) (Some mid) (Owns me []) → IsSeen (seen_of me mid) (seen_of me now)
seen_after_others me now mid g =
    let some_is : (a b : History) → Some a ≡ Some b → a ≡ b = λ a b e. cc in
    subst (λ (h : History). IsSeen (seen_of me h) (seen_of me now)) (sym (some_is mid (with_items now g.0) g.1)) (others_leave me now g.0 g.2.own_items g.2.goes_on)

goes_after_others : (me : Who) (now mid : History) → Grows (Some now) (Some mid) (Owns me []) → GoesOn me now → GoesOn me mid
goes_after_others me now mid g goes =
    let some_is : (a b : History) → Some a ≡ Some b → a ≡ b = λ a b e. cc in
    subst (λ (h : History). GoesOn me h) (sym (some_is mid (with_items now g.0) g.1)) (goes_further me now g.0 goes g.2.goes_on)

seen_trans : (a b c : Seen) → IsSeen a b → IsSeen b c → IsSeen a c
seen_trans a b c p q = record { filled = λ at. p.filled at ∙ q.filled at; inside = p.inside ∙ q.inside; hurt = p.hurt ∙ q.hurt }

-- the others' turns were played, where they are due
pub made_others : (me : Who) (call : Call) (done : ℕ) (old now mid : History) (due : Bool) → IsMade me call done old now → Grows (Some now) (Some mid) (Owns me []) → (due ≡ false → mid ≡ now) → (due ≡ true → ((seen_of me old).inside ≡ true) ⊎ (done ≡ 0)) → IsMade me call done old mid
made_others me call done old now mid due m g still when =
    let before : List LogItem = items_before me call done in
    let grows : Grows (Some old) (Some mid) (Owns me before) = subst (λ (l : List LogItem). Grows (Some old) (Some mid) (Owns me l)) (append-nil before) (grows_then me (Some old) (Some now) (Some mid) before [] m.grows g) in
    record {
      place = m.place;
      seen = seen_trans (seen_of me mid) (seen_of me now) (seen_of me old) (seen_after_others me now mid g) m.seen;
      goes_on = goes_after_others me now mid g m.goes_on;
      grows = grows;
      ends = λ out. by_due due refl out grows;
    }
  where
    by_due : (b : Bool) → due ≡ b → (seen_of me old).inside ≡ false → Grows (Some old) (Some mid) (Owns me (items_before me call done)) → Grows (Some old) (Some mid) (OwnsToEnd me (items_before me call done))
    by_due false e out grows = subst (λ (h : History). Grows (Some old) (Some h) (OwnsToEnd me (items_before me call done))) (sym (still e)) (m.ends out)
    by_due true e out grows = elim (when e) [
      | inl inside ↦ absurd (false≢true (sym out ∙ inside))
      | inr first ↦ no_more me old mid (items_before me call done) (ap (items_before me call) first ∙ none_before me call) grows
    ]

pub may_still : (me : Who) (call : Call) (done : ℕ) (old now : History) → IsMade me call done old now → MayCall (seen_of me old) call → MayCall (seen_of me now) call
may_still me call done old now m may = subst (λ (s : Seen). MayCall s call) (sym (seen_same (seen_of me now) (seen_of me old) m.seen)) may

-- ---- an own item

module _ (me : Who) (call : Call) (done : ℕ) (old : History) (mid new : Held) (m : IsMade me call done old mid.past) (may : MayCall (seen_of me old) call) where
  abbrev news : Progress → List LogItem
  news progress = step_items progress me (is_inside me mid) call done

  past_then : (progress : Progress) → Stepped me call done progress mid new → new.past ≡ with_items mid.past (news progress)
  past_then progress s = ap (λ (w : Held). w.past) s.items

  seen_step : (progress : Progress) → Stepped me call done progress mid new → IsSeen (seen_of me new.past) (seen_by_step me (seen_of me old) call progress)
  seen_step progress s =
      let leaves = step_leaves me mid.past call done progress (may_still me call done old mid.past m may) s.fits s.legal in
      subst (λ (x : Seen). IsSeen (seen_of me new.past) (seen_by_step me x call progress)) (seen_same (seen_of me mid.past) (seen_of me old) m.seen)
      (subst (λ (h : History). IsSeen (seen_of me h) (seen_by_step me (seen_of me mid.past) call progress)) (sym (past_then progress s)) leaves)

  goes_step : (progress : Progress) → Stepped me call done progress mid new → GoesOn me new.past
  goes_step progress s = subst (GoesOn me) (sym (past_then progress s)) (goes_further me mid.past (news progress) m.goes_on (none_stops me (news progress) me.process (step_mine me progress (is_inside me mid) call done)))

  to_end : (progress : Progress) → (news progress ≡ [] → Grows (Some old) (Some mid.past) (OwnsToEnd me (items_before me call done))) → Stepped me call done progress mid new → Grows (Some old) (Some new.past) (OwnsToEnd me (items_before me call done ++ news progress))
  to_end progress none s = joins me old mid.past new.past (items_before me call done) (news progress) m.grows none (step_mine me progress (is_inside me mid) call done) s.legal (past_then progress s)

  -- a byte, after which others are left
  pub made_more : Stepped me call done progresses.More mid new → IsMade me call (done + 1) old new.past
  made_more s =
      let g : Grows (Some old) (Some new.past) (OwnsToEnd me (items_before me call (done + 1))) =
      subst (λ (l : List LogItem). Grows (Some old) (Some new.past) (OwnsToEnd me l)) (more_made me call done s.fits) (to_end progresses.More (λ none. absurd (some_byte me call done s.fits none)) s) in
      record { place = place_then me call done s.fits; seen = seen_step progresses.More s; goes_on = goes_step progresses.More s; grows = but_the_end me (Some old) (Some new.past) (items_before me call (done + 1)) g; ends = λ out. g }

  ends_when : (reply : Reply) → news (progresses.Reply reply) ≡ [] → Grows (Some old) (Some mid.past) (OwnsToEnd me (items_before me call done))
  ends_when reply none = elim (none_made me (is_inside me mid) call done reply none) [
    | inl out ↦ m.ends (sym m.seen.inside ∙ out)
    | inr nothing ↦ no_more me old mid.past (items_before me call done) nothing m.grows
  ]

  -- the call is answered
  pub made_reply : (reply : Reply) → Stepped me call done (progresses.Reply reply) mid new → Tells me call reply old new.past
  made_reply reply s =
      let inside : is_inside me mid ≡ (seen_of me old).inside = m.seen.inside in
      record {
        fits = subst (λ (b : Bool). Answers b call reply) inside (answers_so me (is_inside me mid) call done reply s.fits);
        seen = seen_step (progresses.Reply reply) s;
        called = record {
          items = items_before me call done ++ news (progresses.Reply reply);
          makes = subst (λ (b : Bool). Makes me b call reply (items_before me call done ++ news (progresses.Reply reply))) inside (made_all me (is_inside me mid) call done reply s.fits);
          told = to_end (progresses.Reply reply) (ends_when reply) s;
        };
        goes_on = goes_step (progresses.Reply reply) s;
      }

-- the others' turns were played before an item, where a test says that they are due
pub made_due : (me : Who) (call : Call) (done : ℕ) (old : History) (now mid : Stage) (inside due : Bool) → IsMade me call done old now.world.past → now.outsider ≡ Some me → ((who : Who) → now.outsider ≡ Some who → Grows (Some now.world.past) (Some mid.world.past) (Owns who [])) → (due ≡ false → mid ≡ now)
    → inside ≡ (course_of me old.log).inside → (due ≡ true → (inside ≡ true) ⊎ (done ≡ 0)) → IsMade me call done old mid.world.past
made_due me call done old now mid inside due m out g still is when =
    made_others me call done old now.world.past mid.world.past due m (g me out) (λ e. ap (λ (s : Stage). s.world.past) (still e)) (λ e. elim (when e) [ inl within ↦ inl (sym is ∙ within) | inr first ↦ inr first ])
