-- One item of a call.
use Rattle.std.specs.Prelude.{◌≡◌, ◌⊎◌, ℕ, ◌+◌, ◌<◌, nat_eq, Bool, false, List, [], ◌∷◌, length, get_or, if◌then◌else◌}
use Rattle.cache_types.specs.declared.seat.Who.{Who}
use Rattle.file_log.specs.declared.call.Call.{Call}
use Rattle.file_log.specs.declared.call.Call.TheVariants as calls
use Rattle.file_log.specs.declared.item.LogItem.{LogItem}
use Rattle.file_log.specs.declared.item.LogItem.TheVariants as items
use Rattle.file_log.specs.declared.reply.Reply.TheVariants as replies
use Rattle.file_log.specs.Exchange.{Answers, MayFail, MayLack, items_done, items_refused}
use Rattle.file_log.specs.Legal.{Legal}
use Rattle.file_log.specs.Seat.{course_of}
use Rattle.file_log.specs.State.{state_of}
use Rattle.file_model.specs.declared.step.Fate.{Fate}
use Rattle.file_model.specs.declared.step.Fate.TheVariants as fates
use Rattle.file_model.specs.declared.step.Progress.{Progress}
use Rattle.file_model.specs.declared.step.Progress.TheVariants as progresses
use Rattle.file_model.specs.Calls.{AnswersClock}
use Rattle.file_model.specs.Held.{Held, told}

-- ---- which item

-- the byte of a write that has this number
abbrev pub byte_item : Who → Call → ℕ → List LogItem
byte_item who (calls.WriteAt slot at bytes) done = items.Byte who slot (at + done) (get_or bytes done 0) ∷ []
byte_item who call done = []

-- what an answer Done tells: of a write its last byte, or that it was empty
abbrev pub done_items : Who → Call → ℕ → List LogItem
done_items who (calls.WriteAt slot at bytes) done = if nat_eq (length bytes) 0 then items.Did who (calls.WriteAt slot at bytes) replies.Done ∷ [] else byte_item who (calls.WriteAt slot at bytes) done
done_items who call done = items_done who call

-- the item of a step that came so far: one, or none where memory was refused outside an operation or to a note
abbrev pub step_items : Progress → Who → Bool → Call → ℕ → List LogItem
step_items progresses.More who inside call done = byte_item who call done
step_items (progresses.Reply replies.Done) who inside call done = done_items who call done
step_items (progresses.Reply replies.Failed) who inside call done = items.Failed who false ∷ []
step_items (progresses.Reply replies.NoMemory) who inside call done = items_refused who inside call
step_items (progresses.Reply reply) who inside call done = items.Did who call reply ∷ []

-- ---- when which

-- the byte of this number is there, or the write is empty
abbrev pub IsPlace : Call → ℕ → Type 0
IsPlace (calls.WriteAt slot at bytes) done = (bytes ≡ []) ⊎ (done < length bytes)
IsPlace call done = Unit {0}

-- bytes of the write are left after this one
abbrev pub IsEarlier : Call → ℕ → Type 0
IsEarlier (calls.WriteAt slot at bytes) done = done + 1 < length bytes
IsEarlier call done = ⊥

-- it is the write's last byte, or the write is empty
abbrev pub IsLast : Call → ℕ → Type 0
IsLast (calls.WriteAt slot at bytes) done = (bytes ≡ []) ⊎ (done + 1 ≡ length bytes)
IsLast call done = Unit {0}

-- a write is answered Done with its last byte; each reply is one that the call has
abbrev pub StepFits : Progress → Bool → Call → ℕ → Type 0
StepFits progresses.More inside call done = IsEarlier call done
StepFits (progresses.Reply replies.Done) inside call done = Answers inside call replies.Done × IsLast call done
StepFits (progresses.Reply reply) inside call done = Answers inside call reply

abbrev pub is_inside : Who → Held → Bool
is_inside who held = (course_of who held.past.log).inside

-- one item of a call was made, of a write the byte with this number
pub record Stepped (who : Who) (call : Call) (done : ℕ) (progress : Progress) (old new : Held) : Type 0 where
  pub items : new ≡ told old (step_items progress who (is_inside who old) call done)
  pub legal : Legal (state_of old.past) (step_items progress who (is_inside who old) call done)
  pub fits : StepFits progress (is_inside who old) call done

-- ---- what becomes of it

-- it failed; outside an operation there may be no memory for the item that says so
abbrev pub HasFailed : Bool → Progress → Type 0
HasFailed inside progress = (progress ≡ progresses.Reply replies.Failed) ⊎ ((inside ≡ false) × (progress ≡ progresses.Reply replies.NoMemory))

-- A reply is Failed only where that is the call's fate, and there it is. Memory is refused where that is the call's fate. A
-- Close and a Tell can't fail, and a Close and the small End of an open operation can't be refused memory.
pub record IsFated (fate : Fate) (inside : Bool) (call : Call) (progress : Progress) : Type 0 where
  pub only : progress ≡ progresses.Reply replies.Failed → fate ≡ fates.Fail
  pub fails : fate ≡ fates.Fail → MayFail call → HasFailed inside progress
  pub lacks : fate ≡ fates.NoMemory → MayLack inside call → progress ≡ progresses.Reply replies.NoMemory

-- Now is answered by the clock
abbrev pub StepTellsClock : Call → ℕ → Progress → Type 0
StepTellsClock call clock progresses.More = Unit {0}
StepTellsClock call clock (progresses.Reply reply) = AnswersClock call clock reply
