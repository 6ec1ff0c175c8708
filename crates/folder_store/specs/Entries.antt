-- What a put does to entries, and what other seats may do beside it.
use Rattle.std.specs.Prelude.{◌≡◌, ◌⊎◌, ℕ, false, List, Some}
use Rattle.cache_types.specs.Driver.{DriverKeys, Fronts}
use Rattle.cache_types.specs.declared.key.Key.{Key}
use Rattle.cache_types.specs.declared.name.Name.TheVariants.{Entry, Temp}
use Rattle.cache_types.specs.declared.seat.Who.{Who}
use Rattle.file_log.specs.declared.call.Call.TheVariants.{Rename}
use Rattle.file_log.specs.declared.item.LogItem.{LogItem}
use Rattle.file_log.specs.declared.item.LogItem.TheVariants as items
use Rattle.file_log.specs.declared.reply.Reply.TheVariants.{Done}
use Rattle.file_log.specs.Disk.{Disk, file_of}
use Rattle.file_log.specs.Effect.{applied}
use Rattle.file_log.specs.Log.{History, is_own}
use Rattle.file_log.specs.State.{disk_of}
use Rattle.seat_rules.specs.Address.{address}
use Rattle.seat_rules.specs.Operations.{EvictIsOpen}
use Rattle.folder_rules.specs.Whole.{folder_of}

-- ---- evictions

-- an entry with a driver's blob in front is replaced only by a seat that has told that it goes
abbrev pub ReplacesTold : History → LogItem → Type 0
ReplacesTold h (items.Did who (Rename from (Entry root key)) Done) =
    (bytes : List ℕ) (driver : DriverKeys) → file_of (disk_of h) (Entry root key) ≡ Some bytes → Fronts bytes driver → EvictIsOpen h.log who (address (folder_of root) driver key)
ReplacesTold h item = Unit {0}

-- ---- other seats

-- a key's entry and its temporary file are as before, by their names and their bytes
pub record IsSpared (root : ℕ) (key : Key) (old new : Disk) : Type 0 where
  pub entry : new.names (Entry root key) ≡ old.names (Entry root key)
  pub temp : new.names (Temp root key) ≡ old.names (Temp root key)
  pub bytes : (file : ℕ) → (old.names (Entry root key) ≡ Some file) ⊎ (old.names (Temp root key) ≡ Some file) → new.files file ≡ old.files file

-- an item of another seat leaves them so
abbrev pub OthersSpare : Who → ℕ → Key → History → LogItem → Type 0
OthersSpare me root key h item = is_own me item ≡ false → IsSpared root key (disk_of h) (applied (disk_of h) item)
