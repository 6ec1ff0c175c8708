use Rattle.std.proofs.Common.{◌≡◌, length}
use Rattle.sim_world.specs.Tables.{offered_to}
use Rattle.sim_world.proofs.jobs.offered_to.Given as goal

abbrev pub invariant-loop-rest : goal.invariant-loop-rest
invariant-loop-rest l = offered_to l.rest l.process ≡ offered_to l.offered l.process

abbrev pub decreases-loop-rest : goal.decreases-loop-rest
decreases-loop-rest l = length l.rest
