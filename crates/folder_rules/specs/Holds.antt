-- Which blob a folder store holds for a driver and a key, on a disk.
use Rattle.std.specs.Prelude.{ℕ, List, Option, Some, None}
use Rattle.cache_types.specs.Driver.{DriverKeys}
use Rattle.cache_types.specs.declared.key.Key.{Key}
use Rattle.cache_types.specs.declared.name.Name.TheVariants.{Entry}
use Rattle.file_log.specs.Disk.{Disk, file_of}
use Rattle.item_frame.specs.Item.{Reads}

-- a whole file reads for the driver as the blob
abbrev pub FileReads : Option (List ℕ) → DriverKeys → List ℕ → Type 0
FileReads None driver blob = ⊥
FileReads (Some bytes) driver blob = Reads driver bytes blob

-- the entry's whole file reads for the driver as the blob
abbrev pub FolderHolds : Disk → ℕ → DriverKeys → Key → List ℕ → Type 0
FolderHolds d root driver key blob = FileReads (file_of d (Entry root key)) driver blob
