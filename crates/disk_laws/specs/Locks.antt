-- The locks of a seat, and the items of others and its own.
use Rattle.std.specs.Prelude.{◌≡◌, ℕ, false, Option, Some}
use Rattle.cache_types.specs.declared.seat.Who.{Who}
use Rattle.file_log.specs.declared.item.LogItem.{LogItem}
use Rattle.file_log.specs.Disk.{Disk, Lock}
use Rattle.file_log.specs.Effect.{applied}
use Rattle.file_log.specs.Legal.{is_held}
use Rattle.file_log.specs.Log.{History, own, is_own, is_stop}
use Rattle.file_log.specs.State.{disk_of}

-- the lock that a seat took through a slot
abbrev pub lock_by : Who → ℕ → Option Lock
lock_by me slot = Some (record { who = me; slot = slot })

-- no other seat holds a lock
abbrev pub NoOtherHolds : Who → Disk → Type 0
NoOtherHolds me d = (file : ℕ) → is_held me (d.locks file) ≡ false

-- an item of another seat that is no stop of this one's process frees none of its locks
abbrev pub LeavesLocks : Type 0
LeavesLocks = (me : Who) (d : Disk) (item : LogItem) (slot file : ℕ) → is_own me item ≡ false → is_stop me.process item ≡ false → d.locks file ≡ lock_by me slot → (applied d item).locks file ≡ lock_by me slot

-- after a log whose items are all one seat's no other seat holds a lock
abbrev pub LoneHolds : Type 0
LoneHolds = (me : Who) (h : History) → own me h.log ≡ h.log → NoOtherHolds me (disk_of h)
