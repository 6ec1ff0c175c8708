use Rattle.std.proofs.Common.{◌≡◌, length}
use Rattle.world_tables.specs.Find.{number_of}
use Rattle.world_tables.proofs.find.find_name.Given as goal

abbrev pub invariant-loop-rest : goal.invariant-loop-rest
invariant-loop-rest l = number_of l.rest l.name ≡ number_of l.names l.name

abbrev pub decreases-loop-rest : goal.decreases-loop-rest
decreases-loop-rest l = length l.rest
