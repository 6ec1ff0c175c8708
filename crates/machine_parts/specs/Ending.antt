-- A whole machine: a part, and then what is open is closed and the answer given.
use Rattle.std.specs.Prelude.{◌≡◌, ℕ, Bool, true, false, Option, Some, None}
use Rattle.cache_types.specs.declared.answer.Answer.{Answer}
use Rattle.cache_types.specs.declared.answer.Answer.TheVariants.{FilesFault, NoMemory}
use Rattle.file_log.specs.declared.call.Call.{Call}
use Rattle.file_log.specs.declared.call.Call.TheVariants.{Close}
use Rattle.file_log.specs.declared.reply.Reply.{Reply}
use Rattle.file_log.specs.declared.reply.Reply.TheVariants as replies
use Rattle.files_api.specs.declared.machine.Step.{Step}
use Rattle.files_api.specs.declared.machine.Step.TheVariants.{Ask, Done}
use Rattle.machine_parts.specs.declared.open.Open.{Open}
use Rattle.machine_parts.specs.declared.part.After.{After}
use Rattle.machine_parts.specs.declared.part.After.TheVariants.{More, Over}
use Rattle.machine_parts.specs.declared.whole.Whole.{Whole}
use Rattle.machine_parts.specs.declared.whole.Whole.TheVariants.{Going, Closing, Spent}
use Rattle.machine_parts.specs.Slots.{has, lowest, closed, count}

-- ---- the end

-- the first open slot is closed, or the answer given
abbrev pub close_at : Option ℕ → Answer → Step
close_at (Some slot) answer = Ask (Close slot)
close_at None answer = Done answer

module _ {P : Type 0} where
  -- an answer is given once
  abbrev pub closing_at : Option ℕ → Open → Answer → Whole P
  closing_at (Some slot) o answer = Closing o answer
  closing_at None o answer = Spent

  -- ---- the machine

  abbrev pub whole_right : (P → Type 0) → Whole P → Type 0
  whole_right right (Going p) = right p
  whole_right right (Closing o answer) = Unit {0}
  whole_right right Spent = Unit {0}

  abbrev pub whole_asks : (P → Call) → Whole P → Step
  whole_asks asks (Going p) = Ask (asks p)
  whole_asks asks (Closing o answer) = close_at (lowest o) answer
  whole_asks asks Spent = Done NoMemory

  abbrev pub whole_asked : (P → P) → Whole P → Whole P
  whole_asked asked (Going p) = Going (asked p)
  whole_asked asked (Closing o answer) = closing_at (lowest o) o answer
  whole_asked asked Spent = Spent

  abbrev pub whole_of : After P Answer → Whole P
  whole_of (More p) = Going p
  whole_of (Over o answer) = Closing o answer

  -- a failure ends the part, and so does want of memory
  abbrev pub GoingFed : (P → Reply → After P Answer → Type 0) → (P → Open) → P → Reply → Whole P → Type 0
  GoingFed fed slots p replies.Failed n = n ≡ Closing (slots p) FilesFault
  GoingFed fed slots p replies.NoMemory n = n ≡ Closing (slots p) NoMemory
  GoingFed fed slots p reply n = (r : After P Answer) × fed p reply r × (n ≡ whole_of r)

  abbrev pub WholeFed : (P → Reply → After P Answer → Type 0) → (P → Open) → Whole P → Reply → Whole P → Type 0
  WholeFed fed slots (Going p) reply n = GoingFed fed slots p reply n
  WholeFed fed slots (Closing o answer) reply n = n ≡ Closing (closed o) answer
  WholeFed fed slots Spent reply n = n ≡ Spent

  -- ---- what it keeps

  abbrev pub whole_slots : (P → Open) → Whole P → ℕ → Bool
  whole_slots slots (Going p) at = has (slots p) at
  whole_slots slots (Closing o answer) at = has o at
  whole_slots slots Spent at = false

  -- a call may have failed
  abbrev pub whole_hurt : Whole P → Bool
  whole_hurt (Going p) = false
  whole_hurt m = true

  abbrev pub whole_left : (P → ℕ) → Whole P → ℕ
  whole_left left (Going p) = left p
  whole_left left (Closing o answer) = count o
  whole_left left Spent = 0
