-- What each item does to the disk.
use Rattle.std.specs.Prelude.{ℕ, List, [], ◌∷◌, take, None}
use Rattle.cache_types.specs.declared.seat.Who.{Who}
use Rattle.cache_types.specs.declared.name.Name.TheVariants as names
use Rattle.file_log.specs.declared.call.Call.{Call}
use Rattle.file_log.specs.declared.call.Call.TheVariants as calls
use Rattle.file_log.specs.declared.reply.Reply.{Reply}
use Rattle.file_log.specs.declared.reply.Reply.TheVariants.{Done}
use Rattle.file_log.specs.declared.item.LogItem.{LogItem}
use Rattle.file_log.specs.declared.item.LogItem.TheVariants as items
use Rattle.file_log.specs.Disk.{Disk, with_slot, made, locked, rewritten, renamed, named, freed, stopped, created, listed}
use Rattle.file_log.specs.Writing.{written}

-- what a call does that is answered Done
abbrev pub done_call : Disk → Who → Call → Disk
done_call d who (calls.OpenOld slot name) = with_slot d who slot (d.names name)
done_call d who (calls.OpenNew slot name) = with_slot (made d name) who slot ((made d name).names name)
done_call d who (calls.TryLock slot) = locked d who slot (d.slots who slot)
done_call d who (calls.Cut slot n) = rewritten d (d.slots who slot) (take n)
done_call d who (calls.Rename from to) = renamed d (d.names from) from to
done_call d who (calls.Remove name) = named d name None
done_call d who (calls.Close slot) = freed (with_slot d who slot None) who slot
done_call d who call = d

-- the disk after a call with this reply: another reply than Done changes nothing
abbrev pub after_call : Disk → Who → Call → Reply → Disk
after_call d who call Done = done_call d who call
after_call d who call reply = d

-- the disk after an item
abbrev pub applied : Disk → LogItem → Disk
applied d (items.Did who call reply) = after_call d who call reply
applied d (items.Byte who slot at value) = rewritten d (d.slots who slot) (written at (value ∷ []))
applied d (items.Stop process) = stopped d process
applied d (items.Install root name main index) = created (created d (names.Ro root name) main) (names.RoIdx root name) index
applied d (items.SetList text) = listed d text
applied d item = d
