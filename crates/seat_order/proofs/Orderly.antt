-- A log of all seats in which no place breaks a rule, and where each seat stands at its end.
use Rattle.std.proofs.Common.{◌≡◌, ◌+◌, inl, inr, ℕ, cond, length, get_or, Bool, true, false, nat_eq, ◌&&◌, List, [], ◌∷◌, ◌++◌, Option, Some, None, refl, sym, ap, ◌∙◌, subst, append_assoc}
use Rattle.std.specs.List.{AllByRecursion}
use Rattle.std.proofs.lemmas.Bool.{false≢true, eqb-true, eq-eqb, ne_eqb}
use Rattle.std.proofs.lemmas.List.{append-nil}
use Rattle.std.proofs.lemmas.List.Sums.{fold-append}
use Rattle.cache_types.specs.Seats.{same_seat}
use Rattle.cache_types.specs.declared.answer.Answer.{Answer}
use Rattle.cache_types.specs.declared.request.Request.{Request}
use Rattle.cache_types.specs.declared.seat.Who.{Who}
use Rattle.file_log.specs.declared.call.Call.{Call}
use Rattle.file_log.specs.declared.call.Call.TheVariants as calls
use Rattle.file_log.specs.declared.note.Note.TheVariants as notes
use Rattle.file_log.specs.declared.reply.Reply.TheVariants as replies
use Rattle.file_log.specs.declared.item.LogItem.{LogItem}
use Rattle.file_log.specs.declared.item.LogItem.TheVariants as items
use Rattle.file_log.specs.declared.ticket.Ticket.{Ticket}
use Rattle.file_log.specs.Along.{All}
use Rattle.file_log.specs.Exchange.{items_refused}
use Rattle.file_log.specs.Legal.{Legal}
use Rattle.file_log.specs.Log.{History, seat_of, is_seat, is_own, is_stop}
use Rattle.file_log.specs.Disk.{Start}
use Rattle.file_log.specs.Seat.{course_of}
use Rattle.file_log.specs.State.{State, first, after, halted_after, state_of}
use Rattle.file_log.proofs.All.{seat_self}
use Rattle.file_model.specs.declared.step.Progress.{Progress}
use Rattle.file_model.specs.declared.step.Progress.TheVariants as progresses
use Rattle.file_model.specs.Steps.{byte_item, done_items, step_items, StepFits, Stepped}
use Rattle.file_model.specs.Held.{Held, told}
use Rattle.files_api.specs.Drive.{IsEndOf}
use Rattle.item_frame.proofs.Numbers.{or_false}
use Rattle.seat_rules.specs.Changes.{with_item}
use Rattle.seat_rules.specs.Places.{past}
use Rattle.layout_rules.specs.Places.{Cooperating}
use Rattle.layout_rules.specs.Rules.{KeepsRules}
use Rattle.seat_rules.proofs.Along.{everywhere, there}
use Rattle.seat_rules.proofs.Histories.{last_of}
use Rattle.folder_changes.specs.Order.{InOrder}
use Rattle.folder_changes.proofs.Ordering.{stays_in_order}
use Rattle.folder_store.proofs.Keeping.{CanFollow, follow}
use Rattle.op_machine.specs.declared.op.Op.{Op}
use Rattle.seat_order.specs.Places.{Where}
use Rattle.seat_order.specs.Places.{Leads}
use Rattle.seat_order.specs.Standing.{Stands}
use Rattle.seat_order.proofs.Standing.{out_at_first, begins, steps, ends, takes, stays, is_inside}

-- an item of no seat keeps the rules
pub unseated_keeps : (h : History) (x : LogItem) → seat_of x ≡ None → KeepsRules h x
unseated_keeps h x none who seat = let clash : ◌≡◌ {A = Option Who} None (Some who) = sym none ∙ seat in absurd cc

-- after an item that keeps the rules no place of the log breaks one
pub cooperates : (log : List LogItem) (x : LogItem) → Cooperating log → KeepsRules (past log) x → Cooperating (log ++ x ∷ [])
cooperates log x keeps rule = everywhere KeepsRules (log ++ x ∷ []) (λ xs ys item e. elim (last_of log x xs item ys e) [
  | inl earlier ↦ there KeepsRules xs earlier.shorter item (subst Cooperating earlier.log_is keeps)
  | inr now ↦ subst (λ (y : LogItem). KeepsRules (past xs) y) now.0 (subst (λ (l : List LogItem). KeepsRules (past l) x) now.1 rule)
])

-- ---- processes that go on

-- a process that goes on after an item went on before it, and the item is no stop of it
alive_before : (halted : ℕ → Bool) (x : LogItem) (p : ℕ) → halted_after halted x p ≡ false → (halted p ≡ false) × (is_stop p x ≡ false)
alive_before halted (items.Stop q) p e =
    let both = or_false (nat_eq q p) (halted p) e in
    (both.1, ne_eqb p q (λ same. false≢true (sym both.0 ∙ eq-eqb q p (sym same))))
alive_before halted x p e = (e, refl)

abbrev GoesOn : List LogItem → Who → Type 0
GoesOn log who = (state_of (past log)).halted who.process ≡ false

goes_on_before : (log : List LogItem) (x : LogItem) (who : Who) → GoesOn (log ++ x ∷ []) who → GoesOn log who × (is_stop who.process x ≡ false)
goes_on_before log x who e =
    alive_before (state_of (past log)).halted x who.process (sym (ap (λ (s : State). s.halted who.process) (fold-append after (first []) log (x ∷ []))) ∙ e)

-- ---- every seat

-- No place of the log breaks a rule, all is in order, and each seat whose process goes on stands where it is said to.
pub record IsOrderly (seats : Who → Where) (log : List LogItem) : Type 0 where
  pub cooperating : Cooperating log
  pub order : InOrder (past log)
  pub stand : (who : Who) → (state_of (past log)).halted who.process ≡ false → Stands who (seats who) (past log)

-- so it is before any item, where no seat is in an operation
pub orderly_at_first : IsOrderly (λ who. Where.Outside) []
orderly_at_first = record { cooperating = λ n item e. absurd cc; order = stays_in_order.0; stand = λ who goes. out_at_first who }

-- and after each item that can come and keeps the rules, where the seat whose item it is stands
pub item_comes : (seats seats' : Who → Where) (log : List LogItem) (x : LogItem) → IsOrderly seats log → CanFollow (past log) x → KeepsRules (past log) x
    → ((who : Who) → is_own who x ≡ true → Stands who (seats' who) (with_item (past log) x)) → ((who : Who) → is_own who x ≡ false → seats' who ≡ seats who) → IsOrderly seats' (log ++ x ∷ [])
item_comes seats seats' log x o legal rule mine others = record {
  cooperating = cooperates log x o.cooperating rule;
  order = stays_in_order.1 (past log) x o.order legal rule;
  stand = λ who goes. by_test who (goes_on_before log x who goes) (is_own who x) refl;
}
  where
    by_test : (who : Who) → GoesOn log who × (is_stop who.process x ≡ false) → (b : Bool) → is_own who x ≡ b → Stands who (seats' who) (with_item (past log) x)
    by_test who goes true e = mine who e
    by_test who goes false e = subst (λ (place : Where). Stands who place (with_item (past log) x)) (sym (others who e)) (stays who (seats who) (past log) x (o.stand who goes.0) e goes.1 legal rule)

-- ---- a seat's own steps

-- two seats that are the same are one
one_seat : (a b : Who) → same_seat a b ≡ true → a ≡ b
one_seat a b e =
    let both = and_true (nat_eq a.process b.process) (nat_eq a.seat b.seat) e in
    ap (λ (p : ℕ). record { process = p; seat = a.seat }) (eqb-true a.process b.process both.0) ∙ ap (λ (n : ℕ). record { process = b.process; seat = n }) (eqb-true a.seat b.seat both.1)
  where
    and_true : (x y : Bool) → (x && y) ≡ true → (x ≡ true) × (y ≡ true)
    and_true true y e = (refl, e)
    and_true false y e = absurd (false≢true e)

-- an item of a seat is no other's
not_others : (me who : Who) (x : LogItem) → is_own me x ≡ true → same_seat me who ≡ false → is_own who x ≡ false
not_others me who x mine other = by_test (is_own who x) refl
  where
    seat_is : (w : Who) (seat : Option Who) → is_seat w seat ≡ true → seat ≡ Some w
    seat_is w None e = absurd (false≢true e)
    seat_is w (Some who) e = ap (λ (v : Who). Some v) (sym (one_seat w who e))

    some_is : (a b : Who) → Some a ≡ Some b → a ≡ b
    some_is a b e = cc

    by_test : (b : Bool) → is_own who x ≡ b → is_own who x ≡ false
    by_test true e =
        let same : me ≡ who = some_is me who (sym (seat_is me (seat_of x) mine) ∙ seat_is who (seat_of x) e) in
        absurd (false≢true (sym other ∙ subst (λ (w : Who). same_seat me w ≡ true) same (seat_self me)))
    by_test false e = e

-- each item is the seat's
abbrev pub AreMine : Who → List LogItem → Type 0
AreMine me news = AllByRecursion (λ x. is_own me x ≡ true) news

-- the same without what is known of one seat
record IsOrderlyBeside (me : Who) (seats : Who → Where) (log : List LogItem) : Type 0 where
  cooperating : Cooperating log
  order : InOrder (past log)
  stand : (who : Who) → same_seat me who ≡ false → GoesOn log who → Stands who (seats who) (past log)

beside_goes : (me : Who) (seats : Who → Where) (log news : List LogItem) → IsOrderlyBeside me seats log → AreMine me news → All with_item CanFollow (past log) news → All with_item KeepsRules (past log) news → IsOrderlyBeside me seats (log ++ news)
beside_goes me seats log [] o mine legal rules = subst (IsOrderlyBeside me seats) (sym (append-nil log)) o
beside_goes me seats log (x ∷ news) o mine legal rules =
    subst (IsOrderlyBeside me seats) (append_assoc log (x ∷ []) news) (beside_goes me seats (log ++ x ∷ []) news one mine.1 legal.1 rules.1)
  where
    one : IsOrderlyBeside me seats (log ++ x ∷ [])
    one = record {
      cooperating = cooperates log x o.cooperating rules.0;
      order = stays_in_order.1 (past log) x o.order legal.0 rules.0;
      stand = λ who other goes.
          let before = goes_on_before log x who goes in
          stays who (seats who) (past log) x (o.stand who other before.0) (not_others me who x mine.0 other) before.1 legal.0 rules.0;
    }

-- only this seat is elsewhere
abbrev pub OnlyMoves : Who → (Who → Where) → (Who → Where) → Type 0
OnlyMoves me seats seats' = (who : Who) → same_seat me who ≡ false → seats' who ≡ seats who

-- Items of one seat come that keep the rules, and it stands at its end.
pub own_items_come : (me : Who) (seats seats' : Who → Where) (log news : List LogItem) → IsOrderly seats log → AreMine me news → Legal (state_of (past log)) news → All with_item KeepsRules (past log) news → Stands me (seats' me) (past (log ++ news)) → OnlyMoves me seats seats'
    → IsOrderly seats' (log ++ news)
own_items_come me seats seats' log news o mine legal rules s others = record {
  cooperating = beside.cooperating;
  order = beside.order;
  stand = λ who goes. by_test who goes (same_seat me who) refl;
}
  where
    beside : IsOrderlyBeside me seats (log ++ news)
    beside = beside_goes me seats log news (record { cooperating = o.cooperating; order = o.order; stand = λ who other goes. o.stand who goes }) mine (follow (past log) news legal) rules

    by_test : (who : Who) → GoesOn (log ++ news) who → (b : Bool) → same_seat me who ≡ b → Stands who (seats' who) (past (log ++ news))
    by_test who goes true e = subst (λ (w : Who). Stands w (seats' w) (past (log ++ news))) (one_seat me who e) s
    by_test who goes false e = subst (λ (place : Where). Stands who place (past (log ++ news))) (sym (others who e)) (beside.stand who e goes)

-- it stands at another place without an item: a machine was made, or has said what comes next
pub seat_changes : (me : Who) (seats seats' : Who → Where) (log : List LogItem) → IsOrderly seats log → Stands me (seats' me) (past log) → OnlyMoves me seats seats' → IsOrderly seats' log
seat_changes me seats seats' log o s others =
    let same = append-nil log in
    subst (IsOrderly seats') same (own_items_come me seats seats' log [] o tt tt tt (subst (λ (l : List LogItem). Stands me (seats' me) (past l)) (sym same) s) others)

-- ---- a step of a call

done_mine : (me : Who) (call : Call) (done : ℕ) → AreMine me (done_items me call done)
done_mine me (calls.WriteAt slot at bytes) done = by_test (nat_eq (length bytes) 0)
  where
    by_test : (b : Bool) → AreMine me (cond b (items.Did me (calls.WriteAt slot at bytes) replies.Done ∷ []) (items.Byte me slot (at + done) (get_or bytes done 0) ∷ []))
    by_test true = (seat_self me, tt)
    by_test false = (seat_self me, tt)
done_mine me (calls.Tell (notes.Begin request)) done = (seat_self me, tt)
done_mine me (calls.Tell (notes.Evict store driver key)) done = (seat_self me, tt)
done_mine me (calls.Tell (notes.End answer)) done = (seat_self me, tt)
done_mine me call done = (seat_self me, tt)

byte_mine : (me : Who) (call : Call) (done : ℕ) → AreMine me (byte_item me call done)
byte_mine me (calls.WriteAt slot at bytes) done = (seat_self me, tt)
byte_mine me call done = tt

refused_mine : (me : Who) (call : Call) → AreMine me (items_refused me true call)
refused_mine me (calls.Tell note) = tt
refused_mine me call = (seat_self me, tt)

-- a step makes items of its seat alone
step_mine : (me : Who) (progress : Progress) (call : Call) (done : ℕ) → AreMine me (step_items progress me true call done)
step_mine me progresses.More call done = byte_mine me call done
step_mine me (progresses.Reply replies.Done) call done = done_mine me call done
step_mine me (progresses.Reply replies.Failed) call done = (seat_self me, tt)
step_mine me (progresses.Reply replies.NoMemory) call done = refused_mine me call
step_mine me (progresses.Reply reply) call done = (seat_self me, tt)

-- One step of a seat within a call: the log stays one in which no place breaks a rule, and every seat stands.
pub step_comes : (me : Who) (seats seats' : Who → Where) (log : List LogItem) (n : Op) (call : Call) (done : ℕ) (progress : Progress) → IsOrderly seats log → (state_of (past log)).halted me.process ≡ false → seats me ≡ Where.Within n call done
    → StepFits progress true call done → Legal (state_of (past log)) (step_items progress me true call done) → Leads n call done progress (seats' me) → OnlyMoves me seats seats' → IsOrderly seats' (log ++ step_items progress me true call done)
step_comes me seats seats' log n call done progress o goes at fits legal leads others =
    let here : Stands me (Where.Within n call done) (past log) = subst (λ (place : Where). Stands me place (past log)) at (o.stand me goes) in
    let s = steps me n call done progress (seats' me) (past log) here fits legal leads in
    own_items_come me seats seats' log (step_items progress me true call done) o (step_mine me progress call done) legal s.0 s.1 others

-- The same of a world's step, whose log began on an empty disk.
pub stepped_comes : (me : Who) (seats seats' : Who → Where) (old new : Held) (n : Op) (call : Call) (done : ℕ) (progress : Progress) → old.past.start ≡ [] → IsOrderly seats old.past.log → (state_of old.past).halted me.process ≡ false → seats me ≡ Where.Within n call done
    → Stepped me call done progress old new → Leads n call done progress (seats' me) → OnlyMoves me seats seats' → (new.past.start ≡ []) × IsOrderly seats' new.past.log
stepped_comes me seats seats' old new n call done progress empty o goes at s leads others =
    let log : List LogItem = old.past.log in
    let same : old.past ≡ past log = ap (λ (start : Start). record { start = start; log = log }) empty in
    let goes' : GoesOn log me = subst (λ (h : History). (state_of h).halted me.process ≡ false) same goes in
    let inside : (course_of me log).inside ≡ true = is_inside me n call done (past log) (subst (λ (place : Where). Stands me place (past log)) at (o.stand me goes')) in
    let items : new ≡ told old (step_items progress me true call done) = subst (λ (b : Bool). new ≡ told old (step_items progress me b call done)) inside s.items in
    let legal : Legal (state_of (past log)) (step_items progress me true call done) = subst (λ (h : History). Legal (state_of h) (step_items progress me true call done)) same (subst (λ (b : Bool). Legal (state_of old.past) (step_items progress me b call done)) inside s.legal) in
    let fits : StepFits progress true call done = subst (λ (b : Bool). StepFits progress b call done) inside s.fits in
    let comes = step_comes me seats seats' log n call done progress o goes' at fits legal leads others in
    (ap (λ (w : Held). w.past.start) items ∙ empty, subst (IsOrderly seats') (sym (ap (λ (w : Held). w.past.log) items)) comes)

-- ---- other items

-- the seat's own item, after which it stands where it is said to
own_item_comes : (me : Who) (seats seats' : Who → Where) (log : List LogItem) (x : LogItem) → IsOrderly seats log → is_own me x ≡ true → CanFollow (past log) x → KeepsRules (past log) x → Stands me (seats' me) (with_item (past log) x) → OnlyMoves me seats seats' → IsOrderly seats' (log ++ x ∷ [])
own_item_comes me seats seats' log x o mine legal rule s others = own_items_come me seats seats' log (x ∷ []) o (mine, tt) (legal, tt) (rule, tt) s others

stands_at : (me : Who) (place place' : Where) (h : History) → place' ≡ place → Stands me place h → Stands me place' h
stands_at me place place' h e s = subst (λ (p : Where). Stands me p h) (sym e) s

-- its Begin
pub begin_comes : (me : Who) (seats seats' : Who → Where) (log : List LogItem) (request : Request) → IsOrderly seats log → (state_of (past log)).halted me.process ≡ false → seats me ≡ Where.Outside → CanFollow (past log) (items.Begin me request) → seats' me ≡ Where.Begun request → OnlyMoves me seats seats'
    → IsOrderly seats' (log ++ items.Begin me request ∷ [])
begin_comes me seats seats' log request o goes at legal at' others =
    let b = begins me request (past log) (stands_at me (seats me) Where.Outside (past log) (sym at) (o.stand me goes)) legal in
    own_item_comes me seats seats' log (items.Begin me request) o (seat_self me) legal b.0 (stands_at me (Where.Begun request) (seats' me) (with_item (past log) (items.Begin me request)) at' b.1) others

-- its End
pub end_comes : (me : Who) (seats seats' : Who → Where) (log : List LogItem) (given answer : Answer) → IsOrderly seats log → (state_of (past log)).halted me.process ≡ false → seats me ≡ Where.Ending given → IsEndOf given answer → CanFollow (past log) (items.End me answer) → seats' me ≡ Where.Outside
    → OnlyMoves me seats seats' → IsOrderly seats' (log ++ items.End me answer ∷ [])
end_comes me seats seats' log given answer o goes at is legal at' others =
    let b = ends me given answer (past log) (stands_at me (seats me) (Where.Ending given) (past log) (sym at) (o.stand me goes)) is legal in
    own_item_comes me seats seats' log (items.End me answer) o (seat_self me) legal b.0 (stands_at me Where.Outside (seats' me) (with_item (past log) (items.End me answer)) at' b.1) others

-- a job that it takes from its process's queue
pub taken_comes : (me : Who) (seats seats' : Who → Where) (log : List LogItem) (ticket : Ticket) → IsOrderly seats log → (state_of (past log)).halted me.process ≡ false → seats me ≡ Where.Outside → CanFollow (past log) (items.Taken me ticket) → seats' me ≡ Where.Outside → OnlyMoves me seats seats'
    → IsOrderly seats' (log ++ items.Taken me ticket ∷ [])
taken_comes me seats seats' log ticket o goes at legal at' others =
    let b = takes me ticket (past log) (stands_at me (seats me) Where.Outside (past log) (sym at) (o.stand me goes)) legal in
    own_item_comes me seats seats' log (items.Taken me ticket) o (seat_self me) legal b.0 (stands_at me Where.Outside (seats' me) (with_item (past log) (items.Taken me ticket)) at' b.1) others

-- an item of no seat: a job that is queued, a stop, a read-only database, its list
pub unseated_comes : (seats : Who → Where) (log : List LogItem) (x : LogItem) → IsOrderly seats log → seat_of x ≡ None → CanFollow (past log) x → IsOrderly seats (log ++ x ∷ [])
unseated_comes seats log x o none legal =
    item_comes seats seats log x o legal (unseated_keeps (past log) x none) (λ who mine. absurd (false≢true (sym (ap (is_seat who) none) ∙ mine))) (λ who other. refl)
