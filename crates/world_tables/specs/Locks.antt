-- Who holds the lock of which file.
use Rattle.std.specs.Prelude.{ℕ, Option, Some, None}
use Rattle.std.specs.FinMap.{FinMap, get}
use Rattle.std.specs.Ordering.{nat_cmp}
use Rattle.file_log.specs.Disk.{Lock}
use Rattle.world_tables.specs.declared.locks.LockHolder.{LockHolder}

-- the holder of each file that is locked, by the file's number
abbrev pub Holdings : Type 0
Holdings = FinMap nat_cmp LockHolder

abbrev pub lock_from : LockHolder → Lock
lock_from holder = record { who = holder.who; slot = holder.slot }

abbrev pub lock_by : Option LockHolder → Option Lock
lock_by None = None
lock_by (Some holder) = Some (lock_from holder)

-- the lock of a file
abbrev pub lock_of : Holdings → ℕ → Option Lock
lock_of locks f = lock_by (get locks f)
