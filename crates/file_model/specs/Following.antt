-- What is known of a history: the disk after it, the stopped processes and the open operations.
use Rattle.std.specs.Prelude.{◌≡◌, ℕ, Bool}
use Rattle.cache_types.specs.declared.seat.Who.{Who}
use Rattle.file_log.specs.Disk.{Disk}
use Rattle.file_log.specs.Log.{History}
use Rattle.file_log.specs.State.{first, state_of, disk_of}
use Rattle.file_log.specs.Legal.{Legal}
use Rattle.file_log.specs.Seat.{Course, course_of}

-- these are what the history says, and its log can be
pub record Follows (h : History) (d : Disk) (halted : ℕ → Bool) (courses : Who → Course) : Type 0 where
  pub disk : d ≡ disk_of h
  pub halted_is : (process : ℕ) → halted process ≡ (state_of h).halted process
  pub courses_are : (who : Who) → courses who ≡ course_of who h.log
  pub legal : Legal (first h.start) h.log
