-- The folder layout's rules, each of one item of a seat after a history, beside what its stores hold.
use Rattle.std.specs.Prelude.{◌≡◌, ℕ, true, false, Some}
use Rattle.cache_types.specs.declared.key.Key.{Key}
use Rattle.cache_types.specs.declared.name.Name.TheVariants.{Entry, Temp, FolderLock}
use Rattle.cache_types.specs.declared.seat.Who.{Who}
use Rattle.file_log.specs.declared.item.LogItem.{LogItem}
use Rattle.file_log.specs.Disk.{Disk}
use Rattle.file_log.specs.Effect.{applied}
use Rattle.file_log.specs.Log.{History}
use Rattle.file_log.specs.State.{disk_of}
use Rattle.folder_rules.specs.Whole.{EntriesAreWhole}
use Rattle.seat_rules.specs.Changes.{with_item, has_lock, HasHad, is_rename, is_rename_of}
use Rattle.seat_rules.specs.Kinds.{folder_byte}

-- ---- entries are whole

-- after the item each entry is whole
abbrev pub EntriesStayWhole : History → LogItem → Type 0
EntriesStayWhole h item = EntriesAreWhole (with_item h item)

-- ---- an entry comes by a rename

-- one entry: it changes only by the holder of its folder's lock, gets a file only by a rename of its own temporary name, is never renamed,
-- and a file that it has or had keeps its bytes
pub record ComesByRename (h : History) (item : LogItem) (who : Who) (root : ℕ) (key : Key) (new : Disk) : Type 0 where
  pub held : has_lock (disk_of h) who (FolderLock root (folder_byte key)) ≡ false → new.names (Entry root key) ≡ (disk_of h).names (Entry root key)
  pub renamed : is_rename (Temp root key) (Entry root key) item ≡ false → (file : ℕ) → new.names (Entry root key) ≡ Some file → (disk_of h).names (Entry root key) ≡ Some file
  pub stays : is_rename_of (Entry root key) item ≡ true → new.names (Entry root key) ≡ (disk_of h).names (Entry root key)
  pub bytes : (file : ℕ) → HasHad h (Entry root key) file → new.files file ≡ (disk_of h).files file

-- so does each entry
abbrev pub EntriesComeByRename : History → LogItem → Who → Type 0
EntriesComeByRename h item who = (root : ℕ) (key : Key) → ComesByRename h item who root key (applied (disk_of h) item)
