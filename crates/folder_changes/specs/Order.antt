-- What holds at each place of a log that can be and before which no place breaks a rule.
use Rattle.std.specs.Prelude.{◌≡◌, ℕ, ◌<◌, Bool, true, ◌||◌, List, [], Some}
use Rattle.cache_types.specs.Driver.{DriverKeys, IsDriver}
use Rattle.cache_types.specs.declared.key.Key.{Key}
use Rattle.cache_types.specs.declared.name.Name.{Name}
use Rattle.cache_types.specs.declared.store.Store.{Store}
use Rattle.file_log.specs.Disk.{Lock}
use Rattle.file_log.specs.Legal.{IsLegal}
use Rattle.file_log.specs.Log.{History, WasPut}
use Rattle.file_log.specs.State.{state_of, disk_of}
use Rattle.file_log.specs.declared.item.LogItem.{LogItem}
use Rattle.seat_rules.specs.Changes.{with_item, HasHad}
use Rattle.seat_rules.specs.Kinds.{is_entry, is_unwritten}
use Rattle.layout_rules.specs.Rules.{KeepsRules}
use Rattle.folder_rules.specs.Whole.{EntriesAreWhole}

-- a name whose files get no other name
abbrev pub is_settled : Name → Bool
is_settled name = is_entry name || is_unwritten name

-- Entries are whole; the files that names have had are there, and one that a settled name has had gets no other name; a lock is of a slot
-- that has its file; the driver of each put is one.
pub record InOrder (h : History) : Type 0 where
  pub whole : EntriesAreWhole h
  pub below : (name : Name) (file : ℕ) → HasHad h name file → file < (disk_of h).count
  pub settled : (name : Name) (file : ℕ) → HasHad h name file → is_settled name ≡ true → (other : Name) → (disk_of h).names other ≡ Some file → other ≡ name
  pub slots : (file : ℕ) (lock : Lock) → (disk_of h).locks file ≡ Some lock → (disk_of h).slots lock.who lock.slot ≡ Some file
  pub drivers : (store : Store) (driver : DriverKeys) (key : Key) (blob : List ℕ) → WasPut h.log store driver key blob → IsDriver driver

-- before any item all is in order, and so it stays after an item that can come and keeps the rules
abbrev pub StaysInOrder : Type 0
StaysInOrder = InOrder (record { start = []; log = [] }) × ((h : History) (item : LogItem) → InOrder h → IsLegal (state_of h) item → KeepsRules h item → InOrder (with_item h item))
