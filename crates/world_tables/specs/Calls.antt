-- Calls that make one item, and what they need of the slots.
use Rattle.std.specs.Prelude.{◌≡◌, ℕ, []}
use Rattle.cache_types.specs.declared.seat.Who.{Who}
use Rattle.file_log.specs.declared.call.Call.{Call}
use Rattle.file_log.specs.declared.call.Call.TheVariants as calls
use Rattle.file_log.specs.declared.reply.Reply.{Reply}
use Rattle.file_log.specs.declared.reply.Reply.TheVariants as replies
use Rattle.file_log.specs.Disk.{Disk}
use Rattle.file_log.specs.Legal.{IsFree, IsOpen}

-- a slot that is used is filled, and one that is opened is empty
abbrev pub SlotsFit : Disk → Who → Call → Type 0
SlotsFit d who (calls.OpenOld slot name) = IsFree d who slot
SlotsFit d who (calls.OpenNew slot name) = IsFree d who slot
SlotsFit d who (calls.TryLock slot) = IsOpen d who slot
SlotsFit d who (calls.Length slot) = IsOpen d who slot
SlotsFit d who (calls.ReadAt slot at n) = IsOpen d who slot
SlotsFit d who (calls.WriteAt slot at bytes) = IsOpen d who slot
SlotsFit d who (calls.Cut slot n) = IsOpen d who slot
SlotsFit d who (calls.Close slot) = IsOpen d who slot
SlotsFit d who call = Unit {0}

-- a call that makes one item: no note, and a write only where it is empty
abbrev pub MakesOne : Call → Type 0
MakesOne (calls.WriteAt slot at bytes) = bytes ≡ []
MakesOne (calls.Tell note) = ⊥
MakesOne call = Unit {0}

-- Now is answered by the clock's number
abbrev pub TellsClock : Call → ℕ → Reply → Type 0
TellsClock calls.Now clock reply = reply ≡ replies.Number clock
TellsClock call clock reply = Unit {0}
