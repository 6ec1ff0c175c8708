use Rattle.std.proofs.Common.{◌≡◌, take}
use Rattle.cache_types.specs.declared.name.Name.{Name}
use Rattle.file_log.specs.Disk.{number_from}
use Rattle.world_tables.specs.Find.{number_in}
use Rattle.world_tables.proofs.tables.names_of.Given as goal

abbrev pub invariant-loop-pair : goal.invariant-loop-pair
invariant-loop-pair l = (l.file ≡ l.pair-index) × ((n : Name) → number_in l.names n ≡ number_from 0 (take l.pair-index l.start) n)
