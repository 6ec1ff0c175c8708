-- What the log says of a seat in an operation: which of its slots are filled, and whether a call failed.
use Rattle.std.specs.Prelude.{◌≡◌, ℕ, Bool, true, false}
use Rattle.cache_types.specs.declared.seat.Who.{Who}
use Rattle.file_log.specs.Log.{History}
use Rattle.file_log.specs.Seat.{course_of}
use Rattle.file_log.specs.State.{disk_of}
use Rattle.file_model.specs.Calls.{filled_of}
use Rattle.op_machine.specs.declared.op.Op.{Op}
use Rattle.op_machine.specs.Machine.{right, slots, hurt}

module _ (me : Who) where
  -- the seat is in an operation, these slots of it are filled, and a call of it failed only where this says so
  pub record HasSlots (filled_in : ℕ → Bool) (failed : Bool) (h : History) : Type 0 where
    pub filled : (at : ℕ) → filled_of (disk_of h) me at ≡ filled_in at
    pub inside : (course_of me h.log).inside ≡ true
    pub covers : (course_of me h.log).hurt ≡ true → failed ≡ true

  abbrev pub HasNone : History → Type 0
  HasNone h = (at : ℕ) → filled_of (disk_of h) me at ≡ false

  -- it has filled the slots that its machine says, and what holds of that from its making on holds
  abbrev pub HasThose : Op → History → Type 0
  HasThose m h = right m × HasSlots (slots m) (hurt m) h
