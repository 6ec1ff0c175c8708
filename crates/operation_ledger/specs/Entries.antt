-- The entry at which a request looks, and what its file reads as.
use Rattle.std.specs.Prelude.{ℕ, List, Option, None}
use Rattle.cache_types.specs.declared.key.Key.{Key}
use Rattle.cache_types.specs.declared.name.Name.TheVariants as names
use Rattle.cache_types.specs.declared.request.Request.{Request}
use Rattle.cache_types.specs.declared.request.Request.TheVariants as requests
use Rattle.cache_types.specs.declared.store.Layout.{Layout}
use Rattle.cache_types.specs.declared.store.Layout.TheVariants.{Folder, Database, Foz}
use Rattle.file_log.specs.Disk.{Disk}
use Rattle.log_summary.specs.Summary.{read_for}

-- the file of a key's entry, in a store of each layout
abbrev pub entry_by : Layout → Disk → ℕ → Key → Option ℕ
entry_by Folder d root key = d.names (names.Entry root key)
entry_by Database d root key = None
entry_by Foz d root key = None

-- the file of the entry at which a request looks
abbrev pub entry_of : Disk → Request → Option ℕ
entry_of d (requests.Get store driver key ro) = entry_by store.layout d store.root key
entry_of d (requests.Put store driver key meta blob limit) = entry_by store.layout d store.root key
entry_of d request = None

-- the blob that bytes read as for the driver of a request
abbrev pub read_by : Request → Option (List ℕ) → Option (List ℕ)
read_by (requests.Get store driver key ro) bytes = read_for driver bytes
read_by (requests.Put store driver key meta blob limit) bytes = read_for driver bytes
read_by request bytes = None
