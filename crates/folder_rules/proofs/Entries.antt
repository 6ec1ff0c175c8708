-- Entries that an item of no seat leaves as they are.
use Rattle.std.proofs.Common.{◌≡◌, ℕ, None, refl}
use Rattle.cache_types.specs.declared.key.Key.{Key}
use Rattle.cache_types.specs.declared.name.Name.{Name}
use Rattle.cache_types.specs.declared.name.Name.TheVariants as names
use Rattle.disk_laws.specs.Tidy.{IsTidy}
use Rattle.file_log.specs.Disk.{Disk, file_of}
use Rattle.file_log.specs.Effect.{applied}
use Rattle.file_log.specs.Log.{seat_of}
use Rattle.file_log.specs.declared.item.LogItem.{LogItem}
use Rattle.seat_rules.specs.Address.{Address}
use Rattle.seat_rules.proofs.Unseated as unseated

abbrev pub entry_of : Address → Name
entry_of at = names.Entry at.store.root at.key

-- an item of no seat leaves each entry's file
pub unseated_file : (d : Disk) (item : LogItem) (root : ℕ) (key : Key) → IsTidy d → seat_of item ≡ None → file_of (applied d item) (names.Entry root key) ≡ file_of d (names.Entry root key)
unseated_file d item root key t none = unseated.unseated_file d item (names.Entry root key) t refl none
