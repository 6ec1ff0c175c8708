use Rattle.std.proofs.Common.{◌≡◌, length}
use Rattle.sim_world.specs.Tables.{task_of}
use Rattle.sim_world.proofs.seats.is_idle.Given as goal

abbrev pub invariant-loop-rest : goal.invariant-loop-rest
invariant-loop-rest l = task_of l.rest l.who ≡ task_of l.seats l.who

abbrev pub decreases-loop-rest : goal.decreases-loop-rest
decreases-loop-rest l = length l.rest
