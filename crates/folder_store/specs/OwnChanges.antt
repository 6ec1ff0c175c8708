-- What a put's own items change, whatever other seats do between them.
use Rattle.std.specs.Prelude.{◌≡◌, ◌⊎◌, ◌<◌, ℕ, Bool, true, false, List, [], Some, None}
use Rattle.std.specs.List.{list_any}
use Rattle.cache_types.specs.declared.answer.Answer.{Answer}
use Rattle.cache_types.specs.declared.answer.Answer.TheVariants.{Stored, NoMemory}
use Rattle.cache_types.specs.declared.key.Key.{Key}
use Rattle.cache_types.specs.declared.name.Name.{Name}
use Rattle.cache_types.specs.declared.name.Name.TheVariants.{Entry, Temp}
use Rattle.cache_types.specs.declared.seat.Who.{Who}
use Rattle.cache_types.specs.Names.{same_name}
use Rattle.file_log.specs.declared.call.Call.TheVariants.{Cut, Rename, Remove}
use Rattle.file_log.specs.declared.item.LogItem.{LogItem}
use Rattle.file_log.specs.declared.item.LogItem.TheVariants as items
use Rattle.file_log.specs.declared.reply.Reply.TheVariants.{Done}
use Rattle.file_log.specs.Disk.{Disk}
use Rattle.file_log.specs.Effect.{applied}
use Rattle.file_log.specs.Log.{History, is_own, own}
use Rattle.file_log.specs.State.{disk_of}
use Rattle.seat_rules.specs.Changes.{is_rename}
use Rattle.folder_store.specs.Locking.{lock_name}
use Rattle.folder_store.specs.Readings.{HasOpen}

-- ---- by names

-- a name that is neither the key's entry, nor its temporary file, nor the lock file of its folder
pub record IsElsewhere (root : ℕ) (key : Key) (name : Name) : Type 0 where
  pub no_entry : same_name name (Entry root key) ≡ false
  pub no_temp : same_name name (Temp root key) ≡ false
  pub no_lock : same_name name (lock_name root key) ≡ false

-- a name that had no file has a new one, which is empty
pub record HasCome (name : Name) (old new : Disk) : Type 0 where
  pub absent : old.names name ≡ None
  pub named : new.names name ≡ Some old.count
  pub empty : new.files old.count ≡ []

-- the name has the file that it had, or one that came
abbrev pub AtMostComes : Name → Disk → Disk → Type 0
AtMostComes name old new = (new.names name ≡ old.names name) ⊎ HasCome name old new

-- the seat has opened the temporary file in this slot
abbrev pub HasOpenTemp : ℕ → Key → List LogItem → Type 0
HasOpenTemp root key made = (slot : ℕ) × HasOpen slot (Temp root key) made

-- the item gives the file of the temporary name, which the seat has opened, the entry's name
pub record PlacesTemp (root : ℕ) (key : Key) (made : List LogItem) (item : LogItem) : Type 0 where
  pub renames : is_rename (Temp root key) (Entry root key) item ≡ true
  pub opened : HasOpenTemp root key made

-- What an own item changes on the disk, after these own items: the lock file and the temporary file at most come, the entry changes by the
-- renaming of the temporary file alone, no other name changes its file, and no file its bytes that the seat has not opened under the
-- temporary name.
pub record ChangesOwn (me : Who) (root : ℕ) (key : Key) (made : List LogItem) (item : LogItem) (old new : Disk) : Type 0 where
  pub elsewhere : (name : Name) → IsElsewhere root key name → new.names name ≡ old.names name
  pub lock : AtMostComes (lock_name root key) old new
  pub temp : AtMostComes (Temp root key) old new ⊎ PlacesTemp root key made item
  pub entry : (new.names (Entry root key) ≡ old.names (Entry root key)) ⊎ ((new.names (Entry root key) ≡ old.names (Temp root key)) × PlacesTemp root key made item)
  pub bytes : (file : ℕ) → file < old.count → (new.files file ≡ old.files file) ⊎ ((slot : ℕ) × (old.slots me slot ≡ Some file) × HasOpen slot (Temp root key) made)

-- so does an item of this seat
abbrev pub KeepsToOwn : Who → ℕ → Key → History → LogItem → Type 0
KeepsToOwn me root key h item = is_own me item ≡ true → ChangesOwn me root key (own me h.log) item (disk_of h) (applied (disk_of h) item)

-- ---- of one that gives up

-- an item that cuts, writes, renames or removes a file
abbrev pub is_change : LogItem → Bool
is_change (items.Did who (Cut slot n) Done) = true
is_change (items.Did who (Rename from to) Done) = true
is_change (items.Did who (Remove name) Done) = true
is_change (items.Byte who slot at value) = true
is_change item = false

-- a call was refused memory
abbrev pub is_want : LogItem → Bool
is_want (items.Failed who memory) = memory
is_want item = false

-- the temporary file was given the entry's name among these items
abbrev pub has_placed : ℕ → Key → List LogItem → Bool
has_placed root key made = list_any (is_rename (Temp root key) (Entry root key)) made

-- A put stored exactly where it gave its temporary file the entry's name, so one that gives up has not replaced the entry. Where it ends
-- for want of memory after it changed a file, a call was refused it.
abbrev pub GivesUp : ℕ → Key → Answer → List LogItem → Type 0
GivesUp root key Stored made = has_placed root key made ≡ true
GivesUp root key NoMemory made = (has_placed root key made ≡ false) × (list_any is_change made ≡ true → list_any is_want made ≡ true)
GivesUp root key answer made = has_placed root key made ≡ false
