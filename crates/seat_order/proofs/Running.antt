-- The calls by which the machine of a request has come to another, and what it gives at the end.
use Rattle.std.proofs.Common.{◌≡◌, ◌≤◌, ◌+◌, ℕ, true, List, [], ◌∷◌, ◌++◌, length, Option, Some, None, refl, sym, ap, ◌∙◌, subst, arith, append-nil}
use Rattle.std.proofs.lemmas.Bool.{le-ltb}
use Rattle.std.proofs.lemmas.List.Concat.{flat_map-append}
use Rattle.cache_types.specs.declared.answer.Answer.{Answer}
use Rattle.cache_types.specs.declared.answer.Answer.TheVariants as answers
use Rattle.cache_types.specs.declared.request.Request.{Request}
use Rattle.cache_types.specs.declared.request.Request.TheVariants as requests
use Rattle.cache_types.specs.declared.limits.TheConstants.{MAX_BLOB}
use Rattle.cache_types.specs.declared.key.Key.{Key}
use Rattle.cache_types.specs.declared.seat.Who.{Who}
use Rattle.file_log.specs.declared.call.Call.{Call}
use Rattle.file_log.specs.declared.item.LogItem.{LogItem}
use Rattle.file_log.specs.Exchange.{Answers, Makes, Exchange, items_before}
use Rattle.files_api.specs.declared.machine.Step.{Step}
use Rattle.files_api.specs.declared.machine.Step.TheVariants.{Ask, Done}
use Rattle.files_api.specs.Drive.{IsWithin, Runs, items_of_all}
use Rattle.seat_rules.specs.Answers.{root_of}
use Rattle.folder_store.specs.declared.put_phase.Look.TheVariants.{First, Second}
use Rattle.folder_store.specs.declared.put_phase.PutPhase.{PutPhase}
use Rattle.folder_store.specs.declared.put_phase.PutPhase.TheVariants as puts
use Rattle.folder_store.specs.PutPhases.{asks_put_in, put_left_in}
use Rattle.folder_store.proofs.Calls.{IsInRoot, looks, looking_within, looks_within, same_root, looks_spend, has_call, new_root, new_left, not_ask}
use Rattle.folder_store.proofs.Items.{AsksWithin, Lasts, Spends}
use Rattle.folder_store.proofs.PutCalls.{put_within, same_put_root, put_spends}
use Rattle.op_machine.specs.declared.op.Op.{Op}
use Rattle.op_machine.specs.declared.op.Op.TheVariants as ops
use Rattle.op_machine.specs.Given.{given_step}
use Rattle.op_machine.specs.Machine.{asks, asked, Fed, left}
use Rattle.op_machine.specs.Requests.{IsOpOf}
use Rattle.seat_order.specs.Doing.{RunsTo, HasCome}
use Rattle.seat_order.specs.Operating.{AreFew, most_calls}
use Rattle.seat_order.proofs.Tallying.{weights, weights_append, each_append, CallsWithin, AreExchanges, exchanges_count, exchanges_within, under_way, under_way_items, under_way_is}

-- ---- any machine: how many calls are left, and where they are

pub no_ask : {P : Type 0} (answer : Option Answer) (call : Call) → given_step answer ≡ Ask call → P
no_ask None call e = not_ask call answers.NoMemory e
no_ask (Some answer) call e = not_ask call answer e

op_spends : Spends asks asked Fed left
op_spends (ops.Get m) (ops.Get n) call reply e fits fed = looks_spend m n call reply e fits fed
op_spends (ops.Put m) (ops.Put n) call reply e fits fed = put_spends m n call reply e fits fed
op_spends (ops.Refuse m) n call reply e fits fed = no_ask m.answer call e
op_spends m n call reply e fits fed = absurd fed

-- a machine of this root
abbrev IsIn : ℕ → Op → Type 0
IsIn root (ops.Get m) = IsInRoot root m
IsIn root (ops.Put m) = m.root ≡ root
IsIn root (ops.Refuse m) = Unit {0}

op_within : (root : ℕ) → AsksWithin asks asked Fed root (IsIn root)
op_within root (ops.Get m) call here e = looks_within root m call here e
op_within root (ops.Put m) call here e = put_within root m call here e
op_within root (ops.Refuse m) call here e = no_ask m.answer call e

-- what it asks stands within an operation
pub asks_inside : (m : Op) (call : Call) → asks m ≡ Ask call → IsWithin call
asks_inside (ops.Get m) call e = looking_within call (looks m call e)
asks_inside (ops.Put m) call e = (put_within m.root m call refl e).0
asks_inside (ops.Refuse m) call e = no_ask m.answer call e

op_stays : (root : ℕ) → Lasts asks asked Fed (IsIn root)
op_stays root (ops.Get m) (ops.Get n) reply here fed = same_root root m n reply here fed
op_stays root (ops.Put m) (ops.Put n) reply here fed = same_put_root root m n reply here fed
op_stays root (ops.Refuse m) (ops.Refuse n) reply here fed = tt
op_stays root m n reply here fed = absurd fed

-- a machine that asks has a call left
abbrev HasLeft : Step → ℕ → Type 0
HasLeft (Ask call) k = 1 ≤ k
HasLeft (Done answer) k = Unit {0}

put_has_left : (root : ℕ) (key : Key) (item : List ℕ) (p : PutPhase) → HasLeft (asks_put_in root key item p) (put_left_in p)
put_has_left root key item (puts.Opening First) = omega arith
put_has_left root key item (puts.Opening Second) = omega arith
put_has_left root key item (puts.Measuring First) = omega arith
put_has_left root key item (puts.Measuring Second) = omega arith
put_has_left root key item (puts.Reading First length) = omega arith
put_has_left root key item (puts.Reading Second length) = omega arith
put_has_left root key item puts.ReadingFront = omega arith
put_has_left root key item puts.Leaving = omega arith
put_has_left root key item puts.OpeningLock = omega arith
put_has_left root key item (puts.Locking again) = omega arith
put_has_left root key item (puts.Pausing again) = omega arith
put_has_left root key item (puts.Evicting driver) = omega arith
put_has_left root key item (puts.Making entry) = omega arith
put_has_left root key item (puts.Cutting entry) = omega arith
put_has_left root key item (puts.Writing entry) = omega arith
put_has_left root key item (puts.Renaming entry) = omega arith
put_has_left root key item (puts.ClosingEntry answer besides) = omega arith
put_has_left root key item (puts.ClosingTemp answer) = omega arith
put_has_left root key item (puts.ClosingLock answer) = omega arith
put_has_left root key item p = tt

has_left : (m : Op) (call : Call) → asks m ≡ Ask call → 1 ≤ left m
has_left (ops.Get m) call e = has_call m call e
has_left (ops.Put m) call e = subst (λ (s : Step). HasLeft s (put_left_in m.phase)) e (put_has_left m.root m.key m.item m.phase)
has_left (ops.Refuse m) call e = no_ask m.answer call e

-- ---- along a run

module _ (me : Who) where
  -- one call more
  pub runs_more : (first m : Op) (xs : List Exchange) (x : Exchange) (next : Op) → RunsTo me first xs m → asks m ≡ Ask x.call → Answers true x.call x.reply → Makes me true x.call x.reply x.items → Fed (asked m) x.reply next → RunsTo me first (xs ++ x ∷ []) next
  runs_more first m [] x next runs e fits makes fed = rw runs (e, fits, makes, (next, fed, refl))
  runs_more first m (y ∷ xs) x next runs e fits makes fed = (runs.0, runs.1, runs.2, (runs.3.0, runs.3.1, runs_more runs.3.0 m xs x next runs.3.2 e fits makes fed))

  -- the whole run, where it gives its answer
  pub runs_out : (first m : Op) (xs : List Exchange) (given : Answer) → RunsTo me first xs m → asks m ≡ Done given → Runs asks asked Fed me first xs given (asked m)
  runs_out first m [] given runs e = rw runs (e, refl)
  runs_out first m (x ∷ xs) given runs e = (runs.0, runs.1, runs.2, (runs.3.0, runs.3.1, runs_out runs.3.0 m xs given runs.3.2 e))

  runs_fit : (first m : Op) (xs : List Exchange) → RunsTo me first xs m → AreExchanges me xs
  runs_fit first m [] runs = tt
  runs_fit first m (x ∷ xs) runs = ((runs.1, runs.2), runs_fit runs.3.0 m xs runs.3.2)

  runs_spend : (first m : Op) (xs : List Exchange) → RunsTo me first xs m → weights xs + left m ≤ left first
  runs_spend first m [] runs = rw runs (omega arith)
  runs_spend first m (x ∷ xs) runs = omega (arith, op_spends first runs.3.0 x.call x.reply runs.0 runs.1 runs.3.1, runs_spend runs.3.0 m xs runs.3.2)

  runs_within : (root : ℕ) (first m : Op) (xs : List Exchange) → IsIn root first → RunsTo me first xs m → CallsWithin root xs
  runs_within root first m [] here runs = tt
  runs_within root first m (x ∷ xs) here runs = (op_within root first x.call here runs.0, runs_within root runs.3.0 m xs (op_stays root first runs.3.0 x.reply here runs.3.1) runs.3.2)

-- ---- the request's machine

-- it has no more calls than the request may make
first_left : (request : Request) (m : Op) → IsOpOf request m → left m ≤ most_calls request
first_left (requests.Get store driver key ro) (ops.Get m) new = omega (arith, new_left store.root driver key m new)
first_left (requests.Put store driver key meta blob limit) (ops.Put m) new = rw new.1.opening (rw (le-ltb MAX_BLOB (length blob) new.0) (omega arith))
first_left request (ops.Refuse m) new = omega arith
first_left request m new = absurd new

-- and is in its root
first_in : (request : Request) (m : Op) → IsOpOf request m → IsIn (root_of request) m
first_in (requests.Get store driver key ro) (ops.Get m) new = new_root store.root driver key m new
first_in (requests.Put store driver key meta blob limit) (ops.Put m) new = new.1.root_is
first_in request (ops.Refuse m) new = tt
first_in request m new = absurd new

module _ (me : Who) (request : Request) (m : Op) (made : List LogItem) (c : HasCome me request m made) where
  -- the calls so far, and a part of one for which a call is left, are few
  few_with : (ys : List Exchange) → AreExchanges me ys → weights ys ≤ left m → ((root : ℕ) → CallsWithin root ys) → (all : List LogItem) → all ≡ made ++ items_of_all ys → AreFew request all
  few_with ys fit less within all e =
      let xs = c.exchanges in
      let whole : all ≡ items_of_all (xs ++ ys) = e ∙ (ap (λ (l : List LogItem). l ++ items_of_all ys) c.made_are ∙ sym (flat_map-append (λ (x : Exchange). x.items) xs ys)) in
      let fits : AreExchanges me (xs ++ ys) = each_append _ xs ys (runs_fit me c.first m xs c.runs) fit in
      let root = root_of request in
      record {
        few = rw whole (omega (arith, exchanges_count me (xs ++ ys) fits, weights_append xs ys, less, runs_spend me c.first m xs c.runs, first_left request c.first c.is_of));
        within = rw whole (exchanges_within me root (xs ++ ys) fits (each_append _ xs ys (runs_within me root c.first m xs (first_in request c.first c.is_of) c.runs) (within root)));
      }

  pub come_few : AreFew request made
  come_few = few_with [] tt (omega arith) (λ root. tt) made (sym (append-nil made))

  -- also with a call that is under way
  pub amid_few : (call : Call) (done : ℕ) (all : List LogItem) → asks m ≡ Ask call → all ≡ made ++ items_before me call done → AreFew request all
  amid_few call done all e whole =
      let part = under_way_is me call done in
      few_with (under_way me call done) part.exchanges (omega (arith, part.one, has_left m call e)) part.within all (whole ∙ ap (λ (l : List LogItem). made ++ l) (sym (under_way_items me call done)))
