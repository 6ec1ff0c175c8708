-- What an item of another seat leaves to a seat that has a folder's lock.
use Rattle.std.specs.Prelude.{◌≡◌, ℕ, false, Some}
use Rattle.cache_types.specs.declared.key.Key.{Key}
use Rattle.cache_types.specs.declared.name.Name.TheVariants.{FolderLock, Entry, Temp}
use Rattle.cache_types.specs.declared.seat.Who.{Who}
use Rattle.file_log.specs.Disk.{Disk, Lock, file_of}
use Rattle.file_log.specs.Effect.{applied}
use Rattle.file_log.specs.Log.{History, is_own, is_stop}
use Rattle.file_log.specs.State.{disk_of}
use Rattle.file_log.specs.declared.item.LogItem.{LogItem}
use Rattle.seat_rules.specs.Changes.{HasHad}
use Rattle.seat_rules.specs.Kinds.{folder_byte}
use Rattle.layout_rules.specs.Rules.{KeepsRules}
use Rattle.folder_changes.specs.Order.{InOrder}

-- a lock of this slot of the seat
abbrev pub lock_of : Who → ℕ → Lock
lock_of who slot = record { who = who; slot = slot }

-- the seat has the folder's lock
pub record HasFolder (d : Disk) (who : Who) (root byte : ℕ) : Type 0 where
  pub file : ℕ
  pub slot : ℕ
  pub named : d.names (FolderLock root byte) ≡ Some file
  pub taken : d.locks file ≡ Some (lock_of who slot)

-- Its slots and its locks are as before, the locks keep their names, a file that an entry has or had keeps its bytes, and of the folders that
-- it has locked the entries keep their files and the temporary names their files and bytes.
pub record Leaves (h : History) (me : Who) (new : Disk) : Type 0 where
  pub slots : (slot : ℕ) → new.slots me slot ≡ (disk_of h).slots me slot
  pub locks : (file slot : ℕ) → (disk_of h).locks file ≡ Some (lock_of me slot) → new.locks file ≡ Some (lock_of me slot)
  pub lock_names : (root byte file : ℕ) → (disk_of h).names (FolderLock root byte) ≡ Some file → new.names (FolderLock root byte) ≡ Some file
  pub entry_bytes : (root : ℕ) (key : Key) (file : ℕ) → HasHad h (Entry root key) file → new.files file ≡ (disk_of h).files file
  pub entries : (root : ℕ) (key : Key) → HasFolder (disk_of h) me root (folder_byte key) → new.names (Entry root key) ≡ (disk_of h).names (Entry root key)
  pub temporary : (root : ℕ) (key : Key) → HasFolder (disk_of h) me root (folder_byte key) → new.names (Temp root key) ≡ (disk_of h).names (Temp root key)
  pub temporary_bytes : (root : ℕ) (key : Key) → HasFolder (disk_of h) me root (folder_byte key) → file_of new (Temp root key) ≡ file_of (disk_of h) (Temp root key)

-- so leaves it each item of another that keeps the rules and stops no process of the seat
abbrev pub OthersLeave : Type 0
OthersLeave = (h : History) (item : LogItem) (me : Who) → InOrder h → is_own me item ≡ false → is_stop me.process item ≡ false → KeepsRules h item → Leaves h me (applied (disk_of h) item)
