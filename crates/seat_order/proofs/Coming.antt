-- A log in which some seats are set apart, and how it goes on by each kind of item.
use Rattle.std.proofs.Common.{◌≡◌, ◌||◌, ℕ, Bool, true, false, List, [], ◌∷◌, ◌++◌, None, refl, sym, ap, ◌∙◌, subst, append_assoc}
use Rattle.std.proofs.lemmas.Bool.{false≢true}
use Rattle.std.proofs.lemmas.List.{append-nil}
use Rattle.cache_types.specs.Seats.{same_seat}
use Rattle.cache_types.specs.declared.answer.Answer.{Answer}
use Rattle.cache_types.specs.declared.request.Request.{Request}
use Rattle.cache_types.specs.declared.seat.Who.{Who}
use Rattle.file_log.specs.declared.call.Call.{Call}
use Rattle.file_log.specs.declared.item.LogItem.{LogItem}
use Rattle.file_log.specs.declared.item.LogItem.TheVariants as items
use Rattle.file_log.specs.declared.ticket.Ticket.{Ticket}
use Rattle.file_log.specs.Along.{All}
use Rattle.file_log.specs.Legal.{Legal}
use Rattle.file_log.specs.Log.{History, seat_of, is_seat, is_own}
use Rattle.file_log.specs.Disk.{Start}
use Rattle.file_log.specs.State.{state_of}
use Rattle.file_log.specs.Seat.{course_of}
use Rattle.file_log.proofs.All.{seat_self}
use Rattle.file_model.specs.declared.step.Progress.{Progress}
use Rattle.file_model.specs.Held.{Held, told}
use Rattle.file_model.specs.Steps.{step_items, StepFits, Stepped}
use Rattle.files_api.specs.Drive.{IsEndOf}
use Rattle.item_frame.proofs.Numbers.{or_false}
use Rattle.seat_rules.specs.Changes.{with_item}
use Rattle.seat_rules.specs.Places.{past}
use Rattle.layout_rules.specs.Places.{Cooperating, KeepsBy}
use Rattle.layout_rules.proofs.Placing.{kept_by_each}
use Rattle.folder_changes.proofs.Ordering.{stays_in_order}
use Rattle.folder_store.proofs.Keeping.{CanFollow, follow}
use Rattle.op_machine.specs.declared.op.Op.{Op}
use Rattle.seat_order.specs.Places.{Where, Leads}
use Rattle.world_tables.proofs.Finds.{same_seat-true}
use Rattle.seat_order.proofs.Orderly.{IsOrderly, AreMine, OnlyMoves}
use Rattle.seat_order.specs.Apart.{GoesOn, IsAt, IsOrderlyBut}
use Rattle.seat_order.specs.Laws.{AllOperate}
use Rattle.seat_order.specs.Operating.{Operates}
use Rattle.seat_order.proofs.Readying.{ready_inside}
use Rattle.seat_order.proofs.Parting.{goes_on_before, cooperating_before, last_keeps, keeps_by_own, keeps_by_other}
use Rattle.seat_order.proofs.Mine.{not_others, step_mine}
use Rattle.seat_order.proofs.Placed.{operates_at_first, operates_by_other}
use Rattle.seat_order.proofs.Moving.{LeadsTo, at_first, at_stays, at_begins, at_steps, at_ends, at_takes}

-- ---- before any item

pub apart_at_first : (apart : Who → Bool) → IsOrderlyBut apart (λ who. Where.Outside) []
apart_at_first apart = record {
  keep = λ who known n item e. absurd cc;
  operate = λ who known. operates_at_first who;
  there = λ who known goes. at_first who;
  order = λ keeps. stays_in_order.0;
}

-- ---- items of none of the others

-- no seat but those that are set apart made it
abbrev pub IsNoOthers : (Who → Bool) → LogItem → Type 0
IsNoOthers apart x = (who : Who) → apart who ≡ false → is_own who x ≡ false

-- any item that can come, of a seat that is set apart or of no seat
pub passes : (apart : Who → Bool) (seats : Who → Where) (log : List LogItem) (x : LogItem) → IsOrderlyBut apart seats log → CanFollow (past log) x → IsNoOthers apart x → IsOrderlyBut apart seats (log ++ x ∷ [])
passes apart seats log x o legal others = record {
  keep = λ who known. keeps_by_other who log x (o.keep who known) (others who known);
  operate = λ who known. operates_by_other who log x (o.operate who known) (others who known);
  there = λ who known goes. let before = goes_on_before log x who goes in at_stays who (seats who) log x (o.there who known before.0) (others who known) before.1 legal;
  order = λ keeps. stays_in_order.1 (past log) x (o.order (cooperating_before log (x ∷ []) keeps)) legal (last_keeps log x keeps);
}

pub unseated_passes : (apart : Who → Bool) (seats : Who → Where) (log : List LogItem) (x : LogItem) → IsOrderlyBut apart seats log → seat_of x ≡ None → CanFollow (past log) x → IsOrderlyBut apart seats (log ++ x ∷ [])
unseated_passes apart seats log x o none legal = passes apart seats log x o legal (λ who known. ap (is_seat who) none)

-- an item of a seat that is set apart
pub apart_passes : (apart : Who → Bool) (me : Who) (seats : Who → Where) (log : List LogItem) (x : LogItem) → IsOrderlyBut apart seats log → apart me ≡ true → is_own me x ≡ true → CanFollow (past log) x → IsOrderlyBut apart seats (log ++ x ∷ [])
apart_passes apart me seats log x o set mine legal = passes apart seats log x o legal (λ who known. by_test who known (same_seat me who) refl)
  where
    by_test : (who : Who) → apart who ≡ false → (b : Bool) → same_seat me who ≡ b → is_own who x ≡ false
    by_test who known true e = absurd (false≢true (sym known ∙ (ap apart (sym (same_seat-true me who e)) ∙ set)))
    by_test who known false e = not_others me who x mine e

-- its items, one after another
pub all_apart_pass : (apart : Who → Bool) (me : Who) (seats : Who → Where) (log news : List LogItem) → IsOrderlyBut apart seats log → apart me ≡ true → AreMine me news → All with_item CanFollow (past log) news → IsOrderlyBut apart seats (log ++ news)
all_apart_pass apart me seats log [] o set mine legal = subst (IsOrderlyBut apart seats) (sym (append-nil log)) o
all_apart_pass apart me seats log (x ∷ news) o set mine legal =
    subst (IsOrderlyBut apart seats) (append_assoc log (x ∷ []) news)
    (all_apart_pass apart me seats (log ++ x ∷ []) news (apart_passes apart me seats log x o set mine.0 legal.0) set mine.1 legal.1)

-- ---- one seat more is set apart, and comes back

abbrev besides : (Who → Bool) → Who → Who → Bool
besides apart me who = apart who || same_seat me who

steps_aside : (apart : Who → Bool) (me : Who) (seats : Who → Where) (log : List LogItem) → IsOrderlyBut apart seats log → IsOrderlyBut (besides apart me) seats log
steps_aside apart me seats log o = record {
  keep = λ who known. o.keep who (or_false (apart who) (same_seat me who) known).0;
  operate = λ who known. o.operate who (or_false (apart who) (same_seat me who) known).0;
  there = λ who known goes. o.there who (or_false (apart who) (same_seat me who) known).0 goes;
  order = o.order;
}

or_known : (a b : Bool) → a ≡ false → b ≡ false → (a || b) ≡ false
or_known false b p q = q
or_known true b p q = absurd (false≢true (sym p))

or_true : (a b : Bool) → b ≡ true → (a || b) ≡ true
or_true true b e = refl
or_true false b e = e

comes_back : (apart : Who → Bool) (me : Who) (seats seats' : Who → Where) (log : List LogItem) → IsOrderlyBut (besides apart me) seats log → OnlyMoves me seats seats' → IsAt me (seats' me) log → KeepsBy me log → Operates me log → IsOrderlyBut apart seats' log
comes_back apart me seats seats' log o others s k does = record {
  keep = λ who known. keep_by who known (same_seat me who) refl;
  operate = λ who known. operate_by who known (same_seat me who) refl;
  there = λ who known goes. there_by who known goes (same_seat me who) refl;
  order = o.order;
}
  where
    keep_by : (who : Who) → apart who ≡ false → (b : Bool) → same_seat me who ≡ b → KeepsBy who log
    keep_by who known true e = subst (λ (w : Who). KeepsBy w log) (same_seat-true me who e) k
    keep_by who known false e = o.keep who (or_known (apart who) (same_seat me who) known e)

    operate_by : (who : Who) → apart who ≡ false → (b : Bool) → same_seat me who ≡ b → Operates who log
    operate_by who known true e = subst (λ (w : Who). Operates w log) (same_seat-true me who e) does
    operate_by who known false e = o.operate who (or_known (apart who) (same_seat me who) known e)

    there_by : (who : Who) → apart who ≡ false → GoesOn log who → (b : Bool) → same_seat me who ≡ b → IsAt who (seats' who) log
    there_by who known goes true e = subst (λ (w : Who). IsAt w (seats' w) log) (same_seat-true me who e) s
    there_by who known goes false e = subst (λ (place : Where). IsAt who place log) (sym (others who e)) (o.there who (or_known (apart who) (same_seat me who) known e) goes)

-- ---- a seat's own items

-- Items of one seat come, keep the rules as long as no place before breaks one, and lead to where it is then.
pub own_items_pass : (apart : Who → Bool) (me : Who) (seats seats' : Who → Where) (log news : List LogItem) → IsOrderlyBut apart seats log → apart me ≡ false → AreMine me news → Legal (state_of (past log)) news → LeadsTo me log news (seats' me) → OnlyMoves me seats seats'
    → IsOrderlyBut apart seats' (log ++ news)
own_items_pass apart me seats seats' log news o known mine legal leads others =
    let set : besides apart me me ≡ true = or_true (apart me) (same_seat me me) (seat_self me) in
    let aside = all_apart_pass (besides apart me) me seats log news (steps_aside apart me seats log o) set mine (follow (past log) news legal) in
    comes_back apart me seats seats' (log ++ news) aside others leads.1 (keeps_by_own me log news (o.keep me known) leads.0) (leads.2 (o.operate me known))

-- it is at another place without an item: a machine was made, or has said what comes next
pub seat_moves : (apart : Who → Bool) (me : Who) (seats seats' : Who → Where) (log : List LogItem) → IsOrderlyBut apart seats log → apart me ≡ false → IsAt me (seats' me) log → OnlyMoves me seats seats' → IsOrderlyBut apart seats' log
seat_moves apart me seats seats' log o known s others = comes_back apart me seats seats' log (steps_aside apart me seats log o) others s (o.keep me known) (o.operate me known)

-- seats of a process that was stopped are anywhere
pub stopped_move : (apart : Who → Bool) (seats seats' : Who → Where) (log : List LogItem) → ((who : Who) → GoesOn log who → seats' who ≡ seats who) → IsOrderlyBut apart seats log → IsOrderlyBut apart seats' log
stopped_move apart seats seats' log same o = record {
  keep = o.keep;
  operate = o.operate;
  there = λ who known goes. subst (λ (place : Where). IsAt who place log) (sym (same who goes)) (o.there who known goes);
  order = o.order;
}

-- ---- its Begin, its calls, its End, a job that it takes

module _ (apart : Who → Bool) (me : Who) (seats seats' : Who → Where) (log : List LogItem) (o : IsOrderlyBut apart seats log) (known : apart me ≡ false) (goes : GoesOn log me) (others : OnlyMoves me seats seats') where
  here : (place : Where) → seats me ≡ place → IsAt me place log
  here place at = subst (λ (p : Where). IsAt me p log) at (o.there me known goes)

  -- one item that leads to a place
  one_passes : (x : LogItem) (place : Where) → is_own me x ≡ true → CanFollow (past log) x → LeadsTo me log (x ∷ []) place → seats' me ≡ place → IsOrderlyBut apart seats' (log ++ x ∷ [])
  one_passes x place mine legal leads at' =
      own_items_pass apart me seats seats' log (x ∷ []) o known (mine, tt) (legal, tt) (subst (LeadsTo me log (x ∷ [])) (sym at') leads) others

  pub begin_passes : (request : Request) → seats me ≡ Where.Outside → CanFollow (past log) (items.Begin me request) → seats' me ≡ Where.Begun request → IsOrderlyBut apart seats' (log ++ items.Begin me request ∷ [])
  begin_passes request at legal at' = one_passes (items.Begin me request) (Where.Begun request) (seat_self me) legal (at_begins me log request (here Where.Outside at) legal) at'

  pub step_passes : (n : Op) (call : Call) (done : ℕ) (progress : Progress) → seats me ≡ Where.Within n call done → StepFits progress true call done → Legal (state_of (past log)) (step_items progress me true call done) → Leads n call done progress (seats' me)
      → IsOrderlyBut apart seats' (log ++ step_items progress me true call done)
  step_passes n call done progress at fits legal leads =
      own_items_pass apart me seats seats' log (step_items progress me true call done) o known (step_mine me progress true call done) legal
      (at_steps me log n call done progress (seats' me) (here (Where.Within n call done) at) fits legal leads) others

  pub end_passes : (given answer : Answer) → seats me ≡ Where.Ending given → IsEndOf given answer → CanFollow (past log) (items.End me answer) → seats' me ≡ Where.Outside → IsOrderlyBut apart seats' (log ++ items.End me answer ∷ [])
  end_passes given answer at is legal at' = one_passes (items.End me answer) Where.Outside (seat_self me) legal (at_ends me log given answer (here (Where.Ending given) at) is legal) at'

  pub taken_passes : (ticket : Ticket) → seats me ≡ Where.Outside → CanFollow (past log) (items.Taken me ticket) → seats' me ≡ Where.Outside → IsOrderlyBut apart seats' (log ++ items.Taken me ticket ∷ [])
  taken_passes ticket at legal at' = one_passes (items.Taken me ticket) Where.Outside (seat_self me) legal (at_takes me log ticket (here Where.Outside at) legal) at'

-- The same of a world's step, whose log began on an empty disk.
pub stepped_passes : (apart : Who → Bool) (me : Who) (seats seats' : Who → Where) (old new : Held) (n : Op) (call : Call) (done : ℕ) (progress : Progress) → old.past.start ≡ [] → IsOrderlyBut apart seats old.past.log → apart me ≡ false → (state_of old.past).halted me.process ≡ false
    → seats me ≡ Where.Within n call done → Stepped me call done progress old new → Leads n call done progress (seats' me) → OnlyMoves me seats seats' → (new.past.start ≡ []) × IsOrderlyBut apart seats' new.past.log
stepped_passes apart me seats seats' old new n call done progress empty o known goes at s leads others =
    let log : List LogItem = old.past.log in
    let same : old.past ≡ past log = ap (λ (start : Start). record { start = start; log = log }) empty in
    let goes' : GoesOn log me = subst (λ (h : History). (state_of h).halted me.process ≡ false) same goes in
    let inside : (course_of me log).inside ≡ true = ready_inside me n call done (past log) (subst (λ (place : Where). IsAt me place log) at (o.there me known goes')).ready in
    let items : new ≡ told old (step_items progress me true call done) = subst (λ (b : Bool). new ≡ told old (step_items progress me b call done)) inside s.items in
    let legal : Legal (state_of (past log)) (step_items progress me true call done) = subst (λ (h : History). Legal (state_of h) (step_items progress me true call done)) same (subst (λ (b : Bool). Legal (state_of old.past) (step_items progress me b call done)) inside s.legal) in
    let fits : StepFits progress true call done = subst (λ (b : Bool). StepFits progress b call done) inside s.fits in
    let comes = step_passes apart me seats seats' log o known goes' others n call done progress at fits legal leads in
    (ap (λ (w : Held). w.past.start) items ∙ empty, subst (IsOrderlyBut apart seats') (sym (ap (λ (w : Held). w.past.log) items)) comes)

-- ---- who keeps the rules

-- where those that are set apart are never the first to break a rule either, no place breaks one
pub all_cooperate : (apart : Who → Bool) (seats : Who → Where) (log : List LogItem) → IsOrderlyBut apart seats log → ((who : Who) → apart who ≡ true → KeepsBy who log) → Cooperating log
all_cooperate apart seats log o keep = (kept_by_each log).1 (λ who. by_test who (apart who) refl)
  where
    by_test : (who : Who) (b : Bool) → apart who ≡ b → KeepsBy who log
    by_test who true e = keep who e
    by_test who false e = o.keep who e

-- where no seat is set apart all stand
pub none_is_apart : (seats : Who → Where) (log : List LogItem) → IsOrderlyBut (λ who. false) seats log → IsOrderly seats log
none_is_apart seats log o =
    let keeps : Cooperating log = all_cooperate (λ who. false) seats log o (λ who set. absurd (false≢true set)) in
    record { cooperating = keeps; order = o.order keeps; stand = λ who goes. (o.there who refl goes).stand keeps }

-- each seat that isn't set apart does what its requests ask for
pub all_operate : AllOperate
all_operate apart seats log o who known = o.operate who known
