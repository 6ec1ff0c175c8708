use Rattle.std.proofs.Common.{◌≡◌, length}
use Rattle.sim_world.specs.Tables.{front, jobs_of}
use Rattle.sim_world.proofs.jobs.front_ticket.Given as goal

abbrev pub invariant-loop-rest : goal.invariant-loop-rest
invariant-loop-rest l = front (jobs_of l.process l.rest) ≡ front (jobs_of l.process l.jobs)

abbrev pub decreases-loop-rest : goal.decreases-loop-rest
decreases-loop-rest l = length l.rest
