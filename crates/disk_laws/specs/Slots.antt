-- The slots of a seat, and the items of others.
use Rattle.std.specs.Prelude.{◌≡◌, ℕ, false}
use Rattle.cache_types.specs.declared.seat.Who.{Who}
use Rattle.file_log.specs.declared.item.LogItem.{LogItem}
use Rattle.file_log.specs.Disk.{Disk}
use Rattle.file_log.specs.Effect.{applied}
use Rattle.file_log.specs.Log.{is_own, is_stop}

-- an item of another seat that is no stop of this one's process fills and empties none of its slots
abbrev pub LeavesSlots : Type 0
LeavesSlots = (d : Disk) (item : LogItem) (me : Who) (at : ℕ) → is_own me item ≡ false → is_stop me.process item ≡ false → (applied d item).slots me at ≡ d.slots me at
