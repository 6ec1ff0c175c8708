-- What a step of a busy seat does.
use Rattle.std.specs.Prelude.{◌≡◌, ◌⊎◌, ℕ, ◌+◌, Bool, true, false, [], ◌∷◌, Option, Some, None}
use Rattle.cache_types.specs.declared.answer.Answer.{Answer}
use Rattle.cache_types.specs.declared.request.Request.{Request}
use Rattle.cache_types.specs.declared.seat.Who.{Who}
use Rattle.file_log.specs.declared.call.Call.{Call}
use Rattle.file_log.specs.declared.call.Call.TheVariants as calls
use Rattle.file_log.specs.declared.item.LogItem.TheVariants as items
use Rattle.file_log.specs.declared.reply.Reply.{Reply}
use Rattle.file_log.specs.declared.reply.Reply.TheVariants as replies
use Rattle.file_log.specs.Legal.{IsLegal}
use Rattle.file_log.specs.Seat.{MayCall}
use Rattle.file_log.specs.State.{state_of}
use Rattle.file_model.specs.declared.step.Fate.{Fate}
use Rattle.file_model.specs.declared.step.Fate.TheVariants as fates
use Rattle.file_model.specs.declared.step.Progress.{Progress}
use Rattle.file_model.specs.declared.step.Progress.TheVariants as progresses
use Rattle.file_model.specs.Held.{Held, told}
use Rattle.file_model.specs.Seeing.{seen_of}
use Rattle.file_model.specs.Steps.{Stepped, StepTellsClock, IsFated, IsPlace, is_inside}
use Rattle.files_api.specs.declared.machine.Step.{Step}
use Rattle.files_api.specs.declared.machine.Step.TheVariants as wants
use Rattle.files_api.specs.Drive.{IsEndOf}
use Rattle.op_machine.specs.declared.op.Op.{Op}
use Rattle.op_machine.specs.Machine.{asks, asked, Fed}
use Rattle.op_machine.specs.Requests.{IsBuilt, IsOpOf}
use Rattle.sim_world.specs.declared.operation.Operation.{Operation}
use Rattle.sim_world.specs.declared.operation.Brought.{Brought}
use Rattle.sim_world.specs.declared.operation.Brought.TheVariants as brings
use Rattle.sim_world.specs.declared.operation.Moved.{Moved}
use Rattle.sim_world.specs.declared.seats.Task.{Task}
use Rattle.sim_world.specs.declared.seats.Task.TheVariants as tasks

-- ---- the machine

-- a machine that comes to its next want
abbrev pub wanting : Op → Operation
wanting m = record { machine = asked m; wants = asks m; done = 0 }

-- the machine of a request, at its first want
abbrev pub IsFirst : Request → Operation → Type 0
IsFirst request operation = (m : Op) × IsOpOf request m × (operation ≡ wanting m)

-- the machine after a reply, at its next want
abbrev pub IsFed : Op → Reply → Operation → Type 0
IsFed n reply operation = (m : Op) × Fed n reply m × (operation ≡ wanting m)

-- where a call leads that came so far: to the write's next byte, or to what its reply leads to
abbrev pub GoesTo : Op → Call → ℕ → Progress → Operation → Type 0
GoesTo n call done progresses.More operation = operation ≡ record { machine = n; wants = wants.Ask call; done = done + 1 }
GoesTo n call done (progresses.Reply reply) operation = IsFed n reply operation

-- ---- failures

abbrev pub fate_for : Option Bool → Fate
fate_for None = fates.Go
fate_for (Some true) = fates.NoMemory
fate_for (Some false) = fates.Fail

-- what becomes of a call for which a failure waits, or none does: a Close and a Tell pass it by
abbrev pub fate_of : Call → Option Bool → Fate
fate_of (calls.Close slot) failing = fates.Go
fate_of (calls.Tell note) failing = fates.Go
fate_of call failing = fate_for failing

-- what a reply brings to a call that is made: want of memory is none that the schedule asks for
abbrev pub brought_made : Reply → Brought
brought_made replies.NoMemory = brings.Lack
brought_made reply = brings.Item

abbrev pub brought_reply : Fate → Reply → Brought
brought_reply fates.Go reply = brought_made reply
brought_reply fate reply = brings.Failure

abbrev pub brought_by : Fate → Progress → Brought
brought_by fate progresses.More = brings.Item
brought_by fate (progresses.Reply reply) = brought_reply fate reply

-- ---- one item

-- an item of the call that the machine wants was made
pub record Asks (who : Who) (n : Op) (call : Call) (done : ℕ) (failing : Option Bool) (old new : Held) (moved : Moved) : Type 0 where
  pub progress : Progress
  pub operation : Operation
  pub stepped : Stepped who call done progress old new
  pub clock : StepTellsClock call old.clock progress
  pub fated : IsFated (fate_of call failing) (is_inside who old) call progress
  pub goes_to : GoesTo n call done progress operation
  pub moved_is : moved ≡ record { task = Some (tasks.Begun operation); brought = brought_by (fate_of call failing) progress }

-- the End was told
pub record Ends (who : Who) (given : Answer) (old new : Held) (moved : Moved) : Type 0 where
  pub answer : Answer
  pub answer_is : IsEndOf given answer
  pub told_is : new ≡ told old (items.End who answer ∷ [])
  pub legal : IsLegal (state_of old.past) (items.End who answer)
  pub moved_is : moved ≡ record { task = None; brought = brings.Item }

-- an item of an open operation
abbrev pub Goes : Who → Step → Op → ℕ → Option Bool → Held → Held → Moved → Type 0
Goes who (wants.Ask call) n done failing old new moved = Asks who n call done failing old new moved
Goes who (wants.Done given) n done failing old new moved = Ends who given old new moved

-- the Begin was told
pub record Begins (who : Who) (request : Request) (old new : Held) (moved : Moved) : Type 0 where
  pub operation : Operation
  pub is_first : IsFirst request operation
  pub told_is : new ≡ told old (items.Begin who request ∷ [])
  pub legal : IsLegal (state_of old.past) (items.Begin who request)
  pub moved_is : moved ≡ record { task = Some (tasks.Begun operation); brought = brings.Item }

-- nothing was done, for want of memory
pub record Waits (request : Request) (old new : Held) (moved : Moved) : Type 0 where
  pub same : new ≡ old
  pub moved_is : moved ≡ record { task = Some (tasks.Asked request); brought = brings.Lack }

-- what a step makes of a busy seat
abbrev pub Advances : Who → Task → Option Bool → Held → Held → Moved → Type 0
Advances who (tasks.Asked request) failing old new moved = Begins who request old new moved ⊎ Waits request old new moved
Advances who (tasks.Begun operation) failing old new moved = Goes who operation.wants operation.machine operation.done failing old new moved

-- ---- when it may be made

abbrev pub MayGo : Who → Step → ℕ → Held → Type 0
MayGo who (wants.Ask call) done held = MayCall (seen_of who held.past) call × IsPlace call done
MayGo who (wants.Done given) done held = is_inside who held ≡ true

abbrev pub MayAdvance : Who → Task → Held → Type 0
MayAdvance who (tasks.Asked request) held = IsBuilt request
MayAdvance who (tasks.Begun operation) held = MayGo who operation.wants operation.done held

-- the schedule asked for it
abbrev pub IsBrought : Brought → Type 0
IsBrought brings.Lack = ⊥
IsBrought brought = Unit {0}

abbrev pub is_failure : Brought → Bool
is_failure brings.Failure = true
is_failure brought = false
