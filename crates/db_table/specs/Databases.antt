-- The database of a root, on a disk.
use Rattle.std.specs.Prelude.{◌≡◌, ℕ, List, Some}
use Rattle.cache_types.specs.Driver.{DriverKeys}
use Rattle.cache_types.specs.declared.key.Key.{Key}
use Rattle.cache_types.specs.declared.name.Name.TheVariants.{Db, Idx}
use Rattle.cache_types.specs.declared.store.Layout.TheVariants.{Database}
use Rattle.cache_types.specs.declared.store.Store.{Store}
use Rattle.file_log.specs.declared.item.LogItem.{LogItem}
use Rattle.file_log.specs.Disk.{Disk, file_of}
use Rattle.file_log.specs.Log.{History, WasPut}
use Rattle.file_log.specs.State.{disk_of}
use Rattle.item_frame.specs.Item.{Reads}
use Rattle.db_table.specs.Holds.{FilesGive, FilesHold}
use Rattle.db_table.specs.Sound.{FilesAreSound}

-- the root has both files, with these bytes
pub record AreFiles (d : Disk) (root : ℕ) (main index : List ℕ) : Type 0 where
  pub main_is : file_of d (Db root) ≡ Some main
  pub index_is : file_of d (Idx root) ≡ Some index

-- ---- what it holds

-- some true row gives the blob for the driver and the key
abbrev pub DbGives : Disk → ℕ → DriverKeys → Key → List ℕ → Type 0
DbGives d root driver key blob = (main index : List ℕ) × AreFiles d root main index × FilesGive main index driver key blob

-- of the true rows that give one, the last gives this blob
abbrev pub DbHolds : Disk → ℕ → DriverKeys → Key → List ℕ → Type 0
DbHolds d root driver key blob = (main index : List ℕ) × AreFiles d root main index × FilesHold main index driver key blob

-- ---- what was put

abbrev pub database_of : ℕ → Store
database_of root = record { root = root; layout = Database }

-- the item reads for some driver as a blob that was put in this root's database under the key and that driver
pub record IsPutIn (log : List LogItem) (root : ℕ) (key : Key) (item : List ℕ) : Type 0 where
  pub driver : DriverKeys
  pub blob : List ℕ
  pub reads : Reads driver item blob
  pub put : WasPut log (database_of root) driver key blob

-- each root's database is sound
abbrev pub DatabasesAreSound : History → Type 0
DatabasesAreSound h = (root : ℕ) (main index : List ℕ) → AreFiles (disk_of h) root main index → FilesAreSound (IsPutIn h.log root) main index
