-- Where a log is one seat's alone, no other holds the lock of a folder.
use Rattle.std.proofs.Common.{◌≡◌, ℕ, false, Option, Some, None, refl}
use Rattle.cache_types.specs.declared.key.Key.{Key}
use Rattle.cache_types.specs.declared.seat.Who.{Who}
use Rattle.file_log.specs.Disk.{Disk, lock_in}
use Rattle.file_log.specs.Legal.{is_held}
use Rattle.file_log.specs.Log.{History, own}
use Rattle.file_log.specs.State.{disk_of}
use Rattle.disk_laws.specs.Locks.{NoOtherHolds}
use Rattle.disk_laws.proofs.Locks.{lone}
use Rattle.folder_store.specs.Locking.{lock_name, IsUnlocked}

none_held : (me : Who) (d : Disk) (file : Option ℕ) → NoOtherHolds me d → is_held me (lock_in d file) ≡ false
none_held me d None none = refl
none_held me d (Some f) none = none f

pub unlocked : (me : Who) (root : ℕ) (key : Key) (d : Disk) → NoOtherHolds me d → IsUnlocked me root key d
unlocked me root key d none = none_held me d (d.names (lock_name root key)) none

-- so that a put of that seat is alone where its own items are all
pub lone_unlocked : (me : Who) (root : ℕ) (key : Key) (h : History) → own me h.log ≡ h.log → IsUnlocked me root key (disk_of h)
lone_unlocked me root key h mine = unlocked me root key (disk_of h) (lone me h mine)
