-- What a seat is at: its filled slots, its open operation, and whether one of its calls failed; and what it may ask then.
use Rattle.std.specs.Prelude.{◌≡◌, ◌<◌, ℕ, nat_eq, Bool, true, false, List, [], fold, is_some, if◌then◌else◌}
use Rattle.cache_types.specs.declared.seat.Who.{Who}
use Rattle.file_log.specs.declared.call.Call.{Call}
use Rattle.file_log.specs.declared.call.Call.TheVariants as calls
use Rattle.file_log.specs.declared.item.LogItem.{LogItem}
use Rattle.file_log.specs.declared.item.LogItem.TheVariants as items
use Rattle.file_log.specs.declared.note.Note.{Note}
use Rattle.file_log.specs.declared.note.Note.TheVariants as notes
use Rattle.file_log.specs.declared.reply.Reply.{Reply}
use Rattle.file_log.specs.declared.reply.Reply.TheVariants as replies
use Rattle.file_log.specs.Log.{History, is_own}
use Rattle.file_log.specs.State.{disk_of}

-- which slots are filled, whether an operation is open, and whether a call of it that is no Tell failed or was refused memory
pub record Seen : Type 0 where
  pub filled : ℕ → Bool
  pub inside : Bool
  pub hurt : Bool

-- ---- what it may ask

abbrev pub IsFilled : (ℕ → Bool) → ℕ → Type 0
IsFilled filled slot = (slot < 8) × (filled slot ≡ true)

abbrev pub IsEmpty : (ℕ → Bool) → ℕ → Type 0
IsEmpty filled slot = (slot < 8) × (filled slot ≡ false)

-- a slot that is used is filled, and one that is opened is empty
abbrev pub SlotFits : (ℕ → Bool) → Call → Type 0
SlotFits filled (calls.OpenOld slot name) = IsEmpty filled slot
SlotFits filled (calls.OpenNew slot name) = IsEmpty filled slot
SlotFits filled (calls.TryLock slot) = IsFilled filled slot
SlotFits filled (calls.Length slot) = IsFilled filled slot
SlotFits filled (calls.ReadAt slot at n) = IsFilled filled slot
SlotFits filled (calls.WriteAt slot at bytes) = IsFilled filled slot
SlotFits filled (calls.Cut slot n) = IsFilled filled slot
SlotFits filled (calls.Close slot) = IsFilled filled slot
SlotFits filled call = Unit {0}

-- after a failure a seat only closes slots and tells notes until its End
abbrev pub IsCalm : Bool → Call → Type 0
IsCalm hurt (calls.Close slot) = Unit {0}
IsCalm hurt (calls.Tell note) = Unit {0}
IsCalm hurt call = hurt ≡ false

-- a seat may make the call
abbrev pub MayCall : Seen → Call → Type 0
MayCall seen call = SlotFits seen.filled call × IsCalm seen.hurt call

-- ---- what a call makes of it

abbrev pub filled_by : Call → (ℕ → Bool) → ℕ → Bool
filled_by (calls.OpenOld slot name) filled at = if nat_eq slot at then true else filled at
filled_by (calls.OpenNew slot name) filled at = if nat_eq slot at then true else filled at
filled_by (calls.Close slot) filled at = if nat_eq slot at then false else filled at
filled_by call filled at = filled at

-- a Begin opens an operation and an End closes it; neither leaves it hurt
abbrev pub noted : Note → Seen → Seen
noted (notes.Begin request) seen = record seen { inside = true; hurt = false }
noted (notes.Evict store driver key) seen = seen
noted (notes.End answer) seen = record seen { inside = false; hurt = false }

-- after a call that was answered Done
abbrev pub seen_done : Seen → Call → Seen
seen_done seen (calls.Tell note) = noted note seen
seen_done seen call = record seen { filled = filled_by call seen.filled }

-- a failed call hurts the open operation
abbrev pub seen_failed : Seen → Seen
seen_failed seen = record seen { hurt = seen.inside }

-- a call that was refused memory does too, but a Tell doesn't
abbrev pub seen_refused : Seen → Call → Seen
seen_refused seen (calls.Tell note) = seen
seen_refused seen call = seen_failed seen

-- after a call with this reply
abbrev pub seen_after : Seen → Call → Reply → Seen
seen_after seen call replies.Done = seen_done seen call
seen_after seen call replies.Failed = seen_failed seen
seen_after seen call replies.NoMemory = seen_refused seen call
seen_after seen call reply = seen

-- the same of two values, slot by slot
pub record IsSeen (seen other : Seen) : Type 0 where
  pub filled : (at : ℕ) → seen.filled at ≡ other.filled at
  pub inside : seen.inside ≡ other.inside
  pub hurt : seen.hurt ≡ other.hurt

-- nothing is open
pub record IsIdle (seen : Seen) : Type 0 where
  pub empty : (at : ℕ) → seen.filled at ≡ false
  pub outside : seen.inside ≡ false

-- ---- what the log says of it

-- whether an operation of the seat is open, and whether it is hurt
pub record Course : Type 0 where
  pub inside : Bool
  pub hurt : Bool

-- an own item: a Begin, an End or a failure
abbrev pub course_by : Course → LogItem → Course
course_by c (items.Begin who request) = record { inside = true; hurt = false }
course_by c (items.End who answer) = record { inside = false; hurt = false }
course_by c (items.Failed who memory) = record { inside = c.inside; hurt = c.inside }
course_by c item = c

abbrev pub course_after : Who → Course → LogItem → Course
course_after me c item = if is_own me item then course_by c item else c

abbrev pub course_of : Who → List LogItem → Course
course_of me log = fold (course_after me) (record { inside = false; hurt = false }) log

-- what a seat has seen is what the log says: of its eight slots those that are filled on the disk, its open operation, its failures
pub record IsTold (me : Who) (seen : Seen) (h : History) : Type 0 where
  pub filled : (at : ℕ) → at < 8 → seen.filled at ≡ is_some ((disk_of h).slots me at)
  pub inside : seen.inside ≡ (course_of me h.log).inside
  pub hurt : seen.hurt ≡ (course_of me h.log).hurt
