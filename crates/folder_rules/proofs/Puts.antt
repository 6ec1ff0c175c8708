-- What a folder store holds was put there.
use Rattle.std.proofs.Common.{◌≡◌, ℕ, List, Option, Some, None, refl, subst}
use Rattle.cache_types.specs.Driver.{DriverKeys, IsDriver}
use Rattle.cache_types.specs.declared.key.Key.{Key}
use Rattle.cache_types.specs.declared.name.Name.TheVariants.{Entry}
use Rattle.file_log.specs.Disk.{file_of}
use Rattle.file_log.specs.Log.{WasPut}
use Rattle.file_log.specs.State.{disk_of}
use Rattle.file_log.specs.declared.item.LogItem.{LogItem}
use Rattle.folder_rules.specs.Holds.{FileReads, FolderHolds}
use Rattle.folder_rules.specs.Whole.{folder_of, IsPutItem, EntriesAreWhole}
use Rattle.item_frame.proofs.Laws.{reads_one_driver}
use Rattle.seat_rules.specs.Places.{past}

-- an entry that reads for a driver that there can be was put for it
pub holds_put : (log : List LogItem) (root : ℕ) (driver : DriverKeys) (key : Key) (blob : List ℕ) → EntriesAreWhole (past log)
    → ((other : DriverKeys) (b : List ℕ) → WasPut log (folder_of root) other key b → IsDriver other) → IsDriver driver
    → FolderHolds (disk_of (past log)) root driver key blob → WasPut log (folder_of root) driver key blob
holds_put log root driver key blob whole fits driver_fits holds = by_file (file_of (disk_of (past log)) (Entry root key)) refl holds
  where
    by_file : (o : Option (List ℕ)) → file_of (disk_of (past log)) (Entry root key) ≡ o → FileReads o driver blob → WasPut log (folder_of root) driver key blob
    by_file None e reads = absurd reads
    by_file (Some bytes) e reads =
        let item : IsPutItem log root key bytes = whole root key bytes e in
        let one = reads_one_driver item.driver driver bytes item.blob blob (fits item.driver item.blob item.put) driver_fits item.reads reads in
        subst (λ (d : DriverKeys). WasPut log (folder_of root) d key blob) one.0 (subst (λ (b : List ℕ). WasPut log (folder_of root) item.driver key b) one.1 item.put)
