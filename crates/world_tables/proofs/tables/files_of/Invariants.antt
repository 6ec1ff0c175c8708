use Rattle.std.proofs.Common.{◌≡◌, take, map}
use Rattle.world_tables.proofs.tables.files_of.Given as goal

abbrev pub invariant-loop-pair : goal.invariant-loop-pair
invariant-loop-pair l = l.files.items ≡ map (λ pair. pair.1) (take l.pair-index l.start)
