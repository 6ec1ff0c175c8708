-- The lock of a folder: whose name it has, who holds it, and what is done under it.
use Rattle.std.specs.Prelude.{◌≡◌, ◌⊎◌, ◌<◌, ℕ, nat_eq, Bool, true, false, List, [], ◌∷◌, ◌++◌, replicate, Some, if◌then◌else◌}
use Rattle.std.specs.List.{list_any}
use Rattle.cache_types.specs.declared.key.Key.{Key}
use Rattle.cache_types.specs.declared.name.Name.{Name}
use Rattle.cache_types.specs.declared.name.Name.TheVariants.{FolderLock}
use Rattle.cache_types.specs.declared.seat.Who.{Who}
use Rattle.cache_types.specs.Names.{same_name}
use Rattle.file_log.specs.declared.call.Call.TheVariants.{TryLock, Pause}
use Rattle.file_log.specs.declared.item.LogItem.{LogItem}
use Rattle.file_log.specs.declared.item.LogItem.TheVariants as items
use Rattle.file_log.specs.declared.reply.Reply.{Reply}
use Rattle.file_log.specs.declared.reply.Reply.TheVariants.{Done, Held}
use Rattle.file_log.specs.Disk.{Disk, lock_in}
use Rattle.file_log.specs.Effect.{applied}
use Rattle.file_log.specs.Legal.{is_held}
use Rattle.file_log.specs.Log.{is_own}
use Rattle.file_log.specs.State.{State}
use Rattle.folder_changes.specs.Frame.{HasFolder}
use Rattle.seat_rules.specs.Kinds.{folder_byte}
use Rattle.folder_store.specs.Readings.{Meanwhile, HasOpen}

-- ---- whose lock it is

-- the lock file of a key's folder
abbrev pub lock_name : ℕ → Key → Name
lock_name root key = FolderLock root (folder_byte key)

-- no other seat holds the lock of the key's folder
abbrev pub IsUnlocked : Who → ℕ → Key → Disk → Type 0
IsUnlocked me root key d = is_held me (lock_in d (d.names (lock_name root key))) ≡ false

-- ---- tries

-- the replies to the tries for the lock of the slot's file among these items, in their order
abbrev pub lock_replies : ℕ → List LogItem → List Reply
lock_replies slot [] = []
lock_replies slot (items.Did who (TryLock other) reply ∷ log) = if nat_eq slot other then reply ∷ lock_replies slot log else lock_replies slot log
lock_replies slot (item ∷ log) = lock_replies slot log

-- Of one seat's items: 64 tries in a row for the lock of one file, which the seat opened as the lock file of the key's folder, were answered
-- that another seat holds it.
pub record IsHeldOff (root : ℕ) (key : Key) (made : List LogItem) : Type 0 where
  pub before : List LogItem
  pub tries : List LogItem
  pub later : List LogItem
  pub made_are : made ≡ before ++ (tries ++ later)
  pub slot : ℕ
  pub file : HasOpen slot (lock_name root key) before
  pub meanwhile : Meanwhile slot tries
  pub held : lock_replies slot tries ≡ replicate 64 Held

-- a try for a lock, and a pause
abbrev pub is_try : LogItem → Bool
is_try (items.Did who (TryLock slot) reply) = true
is_try item = false

abbrev pub is_pause : LogItem → Bool
is_pause (items.Did who Pause Done) = true
is_pause item = false

-- between any two tries among these items stands a pause
abbrev pub PausesBetweenTries : List LogItem → Type 0
PausesBetweenTries made =
    (before between later : List LogItem) (one other : LogItem) → made ≡ before ++ one ∷ (between ++ other ∷ later) → is_try one ≡ true → is_try other ≡ true → list_any is_pause between ≡ true

-- a TryLock is of a slot with the lock file of the key's folder
abbrev pub TriesLock : ℕ → Key → Disk → LogItem → Type 0
TriesLock root key d (items.Did who (TryLock slot) reply) = (file : ℕ) × (d.slots who slot ≡ Some file) × (d.names (lock_name root key) ≡ Some file)
TriesLock root key d item = Unit {0}

-- ---- what is done under it

-- no name and no file is changed, but that the lock file may be there now, an empty one
pub record MakesLockAlone (root : ℕ) (key : Key) (old new : Disk) : Type 0 where
  pub names : (name : Name) → same_name name (lock_name root key) ≡ false → new.names name ≡ old.names name
  pub kept : (file : ℕ) → old.names (lock_name root key) ≡ Some file → new.names (lock_name root key) ≡ Some file
  pub files : (file : ℕ) → file < old.count → new.files file ≡ old.files file
  pub empty : (file : ℕ) → new.names (lock_name root key) ≡ Some file → (old.names (lock_name root key) ≡ Some file) ⊎ (new.files file ≡ [])

-- an item of this seat changes at most that, whatever others do
abbrev pub OwnMakesLockAlone : Who → ℕ → Key → State → LogItem → Type 0
OwnMakesLockAlone me root key s item = is_own me item ≡ true → MakesLockAlone root key s.disk (applied s.disk item)

-- an item of this seat tries no other lock, and changes names and files under the lock alone
pub record IsUnderLock (me : Who) (root : ℕ) (key : Key) (d : Disk) (item : LogItem) : Type 0 where
  pub changes : MakesLockAlone root key d (applied d item) ⊎ HasFolder d me root (folder_byte key)
  pub tries : TriesLock root key d item

-- the lock file keeps its name
abbrev pub KeepsLockName : ℕ → Key → Disk → Disk → Type 0
KeepsLockName root key old new = (file : ℕ) → old.names (lock_name root key) ≡ Some file → new.names (lock_name root key) ≡ Some file

-- this seat changes names and files under the lock alone, and other seats leave the lock file its name
pub record ChangesUnderLock (me : Who) (root : ℕ) (key : Key) (s : State) (item : LogItem) : Type 0 where
  pub mine : is_own me item ≡ true → IsUnderLock me root key s.disk item
  pub others : is_own me item ≡ false → KeepsLockName root key s.disk (applied s.disk item)
