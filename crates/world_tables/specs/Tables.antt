-- The disk that the tables stand for.
use Rattle.std.specs.Prelude.{ℕ, List, [], length, get_or, Option}
use Rattle.cache_types.specs.declared.name.Name.{Name}
use Rattle.file_log.specs.Disk.{Disk}
use Rattle.world_tables.specs.declared.parts.OpenSlot.{OpenSlot}
use Rattle.world_tables.specs.declared.tables.Tables.{Tables}
use Rattle.world_tables.specs.Find.{number_in, file_in}
use Rattle.world_tables.specs.Locks.{Holdings, lock_of}

abbrev pub disk_from : (Name → Option ℕ) → List (List ℕ) → List OpenSlot → Holdings → Disk
disk_from names files slots locks = record { names = names; count = length files; files = λ f. get_or files f []; slots = file_in slots; locks = lock_of locks }

abbrev pub disk_at : Tables → Disk
disk_at t = disk_from (number_in t.names) t.files.items t.slots.items t.locks
