use Rattle.std.proofs.Common.{◌≡◌, length}
use Rattle.sim_world.specs.Tables.{failing_of}
use Rattle.sim_world.proofs.failing.failing_of.Given as goal

abbrev pub invariant-loop-rest : goal.invariant-loop-rest
invariant-loop-rest l = failing_of l.rest l.who ≡ failing_of l.failing l.who

abbrev pub decreases-loop-rest : goal.decreases-loop-rest
decreases-loop-rest l = length l.rest
