-- How a seat's own items and those of others lead on from where it is.
use Rattle.std.proofs.Common.{◌≡◌, ℕ, true, false, List, [], ◌∷◌, ◌++◌}
use Rattle.cache_types.specs.declared.answer.Answer.{Answer}
use Rattle.cache_types.specs.declared.answer.Answer.TheVariants as answers
use Rattle.cache_types.specs.declared.request.Request.{Request}
use Rattle.cache_types.specs.declared.seat.Who.{Who}
use Rattle.file_log.specs.declared.call.Call.{Call}
use Rattle.file_log.specs.declared.item.LogItem.{LogItem}
use Rattle.file_log.specs.declared.item.LogItem.TheVariants as items
use Rattle.file_log.specs.declared.ticket.Ticket.{Ticket}
use Rattle.file_log.specs.Along.{All}
use Rattle.file_log.specs.Legal.{Legal}
use Rattle.file_log.specs.Log.{is_own, is_stop}
use Rattle.file_log.specs.State.{state_of}
use Rattle.file_model.specs.declared.step.Progress.{Progress}
use Rattle.file_model.specs.Steps.{step_items, StepFits}
use Rattle.files_api.specs.declared.machine.Step.TheVariants.{Ask, Done}
use Rattle.files_api.specs.Drive.{IsEndOf}
use Rattle.seat_rules.specs.Changes.{with_item}
use Rattle.seat_rules.specs.Places.{past}
use Rattle.layout_rules.specs.Places.{Cooperating}
use Rattle.layout_rules.specs.Rules.{KeepsRules}
use Rattle.folder_store.proofs.Keeping.{CanFollow}
use Rattle.op_machine.specs.declared.op.Op.{Op}
use Rattle.op_machine.specs.Machine.{asks, asked}
use Rattle.op_machine.specs.Requests.{IsBuilt, IsOpOf}
use Rattle.seat_order.specs.Places.{Where, Leads}
use Rattle.seat_order.specs.Standing.{Stands}
use Rattle.seat_order.proofs.Standing as standing
use Rattle.seat_order.specs.Apart.{IsAt}
use Rattle.seat_order.specs.Doing.{HasDone}
use Rattle.seat_order.specs.Operating.{FitsAfter, Operates}
use Rattle.seat_order.proofs.Doing as doings
use Rattle.seat_order.proofs.Insides.{IsOneOfCall, none_at_first}
use Rattle.seat_order.proofs.Placed.{operates_by_own, operates_by_step}
use Rattle.seat_order.proofs.Readying as readying
use Rattle.seat_order.proofs.Parting.{cooperating_before, last_keeps}

-- these items keep the rules, as long as no place before breaks one
abbrev pub KeepRules : List LogItem → List LogItem → Type 0
KeepRules log news = Cooperating log → All with_item KeepsRules (past log) news

-- before any item it is in no operation
pub at_first : (me : Who) → IsAt me Where.Outside []
at_first me = record { ready = readying.ready_at_first me; doing = none_at_first me; stand = λ keeps. standing.out_at_first me }

-- an item of another that stops no process of the seat
pub at_stays : (me : Who) (place : Where) (log : List LogItem) (x : LogItem) → IsAt me place log → is_own me x ≡ false → is_stop me.process x ≡ false → CanFollow (past log) x → IsAt me place (log ++ x ∷ [])
at_stays me place log x s other goes legal = record {
  ready = readying.ready_stays me place (past log) x s.ready other goes;
  doing = doings.done_stays me place log x other s.doing;
  stand = λ keeps. standing.stays me place (past log) x (s.stand (cooperating_before log (x ∷ []) keeps)) other goes legal (last_keeps log x keeps);
}

-- ---- its own items

module _ (me : Who) (log : List LogItem) where
  -- the items keep the rules, after them it is there, and its operations still do what their requests ask for
  abbrev pub LeadsTo : List LogItem → Where → Type 0
  LeadsTo news place = KeepRules log news × IsAt me place (log ++ news) × (Operates me log → Operates me (log ++ news))

  -- its operations after an item
  then_operates : (x : LogItem) (place : Where) → HasDone me place (log ++ x ∷ []) → FitsAfter me log x → Operates me log → Operates me (log ++ x ∷ [])
  then_operates x place d fits o = operates_by_own me log x o (doings.done_few me place (log ++ x ∷ []) d) fits

  pub at_begins : (request : Request) → IsAt me Where.Outside log → CanFollow (past log) (items.Begin me request) → LeadsTo (items.Begin me request ∷ []) (Where.Begun request)
  at_begins request s legal =
      let x : LogItem = items.Begin me request in
      let b : (keeps : Cooperating log) → KeepsRules (past log) x × Stands me (Where.Begun request) (with_item (past log) x) = λ keeps. standing.begins me request (past log) (s.stand keeps) legal in
      let d : HasDone me (Where.Begun request) (log ++ x ∷ []) = doings.done_begins me request log in
      (λ keeps. ((b keeps).0, tt), record { ready = readying.ready_begins me request (past log) s.ready; doing = d; stand = λ keeps. (b (cooperating_before log (x ∷ []) keeps)).1 }, then_operates x (Where.Begun request) d s.doing)

  -- the machine that was made for the request
  pub at_machine : (request : Request) (m : Op) → IsBuilt request → IsOpOf request m → IsAt me (Where.Begun request) log → IsAt me (Where.Between m) log
  at_machine request m built new s = record { ready = readying.ready_machine me request m (past log) new s.ready; doing = doings.done_machine me request m log new s.doing; stand = λ keeps. standing.gets_machine me request m (past log) built new (s.stand keeps) }

  -- there was no memory for one
  pub at_none : (request : Request) → IsAt me (Where.Begun request) log → IsAt me (Where.Ending answers.NoMemory) log
  at_none request s = record { ready = readying.ready_none me request (past log) s.ready; doing = doings.done_none me request log s.doing; stand = λ keeps. standing.gets_none me request (past log) (s.stand keeps) }

  -- it asks for a call, of which nothing is made yet
  pub at_asks : (m : Op) (call : Call) → asks m ≡ Ask call → IsAt me (Where.Between m) log → IsAt me (Where.Within (asked m) call 0) log
  at_asks m call e s = record { ready = readying.ready_asks me m call (past log) e s.ready; doing = doings.done_asks me m call log e s.doing; stand = λ keeps. standing.asks_call me m call (past log) e (s.stand keeps) }

  -- it gives its answer
  pub at_gives : (m : Op) (given : Answer) → asks m ≡ Done given → IsAt me (Where.Between m) log → IsAt me (Where.Ending given) log
  at_gives m given e s = record { ready = readying.ready_gives me m given (past log) e s.ready; doing = doings.done_gives me m given log e s.doing; stand = λ keeps. standing.gives_answer me m given (past log) e (s.stand keeps) }

  -- one step of a call
  pub at_steps : (n : Op) (call : Call) (done : ℕ) (progress : Progress) (place : Where) → IsAt me (Where.Within n call done) log → StepFits progress true call done → Legal (state_of (past log)) (step_items progress me true call done) → Leads n call done progress place
      → LeadsTo (step_items progress me true call done) place
  at_steps n call done progress place s fits legal leads =
      let news : List LogItem = step_items progress me true call done in
      let b : (keeps : Cooperating log) → standing.Steps me n call done progress place (past log) = λ keeps. standing.steps me n call done progress place (past log) (s.stand keeps) fits legal leads in
      let d : HasDone me place (log ++ news) = doings.done_steps me n call done progress place log s.doing fits leads in
      let one : IsOneOfCall news = doings.step_one me n call done progress log s.doing in (
        λ keeps. (b keeps).0,
        record { ready = readying.ready_steps me n call done progress place (past log) s.ready fits legal leads; doing = d; stand = λ keeps. (b (cooperating_before log news keeps)).1 },
        λ o. operates_by_step me log news o one (doings.call_fits me n call done log s.doing) (doings.done_few me place (log ++ news) d),
      )

  pub at_ends : (given answer : Answer) → IsAt me (Where.Ending given) log → IsEndOf given answer → CanFollow (past log) (items.End me answer) → LeadsTo (items.End me answer ∷ []) Where.Outside
  at_ends given answer s is legal =
      let x : LogItem = items.End me answer in
      let b : (keeps : Cooperating log) → KeepsRules (past log) x × Stands me Where.Outside (with_item (past log) x) = λ keeps. standing.ends me given answer (past log) (s.stand keeps) is legal in
      let d : HasDone me Where.Outside (log ++ x ∷ []) = doings.done_ends me answer log in
      (λ keeps. ((b keeps).0, tt), record { ready = readying.ready_ends me given answer (past log) s.ready; doing = d; stand = λ keeps. (b (cooperating_before log (x ∷ []) keeps)).1 }, then_operates x Where.Outside d (doings.end_fits me given answer log s.doing is))

  -- a job that it takes from its process's queue
  pub at_takes : (ticket : Ticket) → IsAt me Where.Outside log → CanFollow (past log) (items.Taken me ticket) → LeadsTo (items.Taken me ticket ∷ []) Where.Outside
  at_takes ticket s legal =
      let x : LogItem = items.Taken me ticket in
      let b : (keeps : Cooperating log) → KeepsRules (past log) x × Stands me Where.Outside (with_item (past log) x) = λ keeps. standing.takes me ticket (past log) (s.stand keeps) legal in
      let d : HasDone me Where.Outside (log ++ x ∷ []) = doings.done_takes me ticket log s.doing in
      (λ keeps. ((b keeps).0, tt), record { ready = readying.ready_takes me ticket (past log) s.ready; doing = d; stand = λ keeps. (b (cooperating_before log (x ∷ []) keeps)).1 }, then_operates x Where.Outside d s.doing)
