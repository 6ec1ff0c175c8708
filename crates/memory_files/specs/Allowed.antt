-- Whether a seat may make a call, as a test.
use Rattle.std.specs.Prelude.{◌&&◌, ℕ, nat_lt, not, Bool, true, is_some}
use Rattle.cache_types.specs.declared.seat.Who.{Who}
use Rattle.file_log.specs.declared.call.Call.{Call}
use Rattle.file_log.specs.declared.call.Call.TheVariants as calls
use Rattle.file_log.specs.Disk.{Disk}
use Rattle.file_log.specs.Log.{History}
use Rattle.file_log.specs.Seat.{course_of}
use Rattle.file_log.specs.State.{disk_of}
use Rattle.memory_files.specs.Seats.{is_filled}

-- a slot is one of the eight, and empty
abbrev pub is_empty : Disk → Who → ℕ → Bool
is_empty d me slot = nat_lt slot 8 && not (is_some (d.slots me slot))

-- a slot that is used is filled, and one that is opened is empty
abbrev pub slots_fit : Disk → Who → Call → Bool
slots_fit d me (calls.OpenOld slot name) = is_empty d me slot
slots_fit d me (calls.OpenNew slot name) = is_empty d me slot
slots_fit d me (calls.TryLock slot) = is_filled d me slot
slots_fit d me (calls.Length slot) = is_filled d me slot
slots_fit d me (calls.ReadAt slot at n) = is_filled d me slot
slots_fit d me (calls.WriteAt slot at bytes) = is_filled d me slot
slots_fit d me (calls.Cut slot n) = is_filled d me slot
slots_fit d me (calls.Close slot) = is_filled d me slot
slots_fit d me call = true

-- after a failure only a Close and a Tell
abbrev pub is_calm : Bool → Call → Bool
is_calm hurt (calls.Close slot) = true
is_calm hurt (calls.Tell note) = true
is_calm hurt call = not hurt

abbrev pub is_allowed : Who → History → Call → Bool
is_allowed me h call = slots_fit (disk_of h) me call && is_calm (course_of me h.log).hurt call
