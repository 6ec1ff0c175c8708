-- Entries that are whole.
use Rattle.std.specs.Prelude.{◌≡◌, ℕ, List, Some}
use Rattle.cache_types.specs.Driver.{DriverKeys}
use Rattle.cache_types.specs.declared.key.Key.{Key}
use Rattle.cache_types.specs.declared.name.Name.TheVariants.{Entry}
use Rattle.cache_types.specs.declared.store.Layout.TheVariants.{Folder}
use Rattle.cache_types.specs.declared.store.Store.{Store}
use Rattle.file_log.specs.declared.item.LogItem.{LogItem}
use Rattle.file_log.specs.Disk.{file_of}
use Rattle.file_log.specs.Log.{History, WasPut}
use Rattle.file_log.specs.State.{disk_of}
use Rattle.item_frame.specs.Item.{Reads}

-- the folder store of a root
abbrev pub folder_of : ℕ → Store
folder_of root = record { root = root; layout = Folder }

-- the bytes read for some driver as a blob that was put in this root's folder store under the key and that driver
pub record IsPutItem (log : List LogItem) (root : ℕ) (key : Key) (bytes : List ℕ) : Type 0 where
  pub driver : DriverKeys
  pub blob : List ℕ
  pub reads : Reads driver bytes blob
  pub put : WasPut log (folder_of root) driver key blob

-- each entry's file reads so
abbrev pub EntriesAreWhole : History → Type 0
EntriesAreWhole h = (root : ℕ) (key : Key) (bytes : List ℕ) → file_of (disk_of h) (Entry root key) ≡ Some bytes → IsPutItem h.log root key bytes
