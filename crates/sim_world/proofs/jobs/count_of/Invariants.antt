use Rattle.std.proofs.Common.{◌≡◌, ◌≤◌, ◌+◌, length}
use Rattle.sim_world.specs.Tables.{jobs_of}
use Rattle.sim_world.proofs.jobs.count_of.Given as goal

abbrev pub invariant-loop-rest : goal.invariant-loop-rest
invariant-loop-rest l = record {
  count : l.count + length (jobs_of l.process l.rest) ≡ length (jobs_of l.process l.jobs);
  fits : l.count + length l.rest ≤ length l.jobs;
}

abbrev pub decreases-loop-rest : goal.decreases-loop-rest
decreases-loop-rest l = length l.rest
