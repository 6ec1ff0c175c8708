use Rattle.std.proofs.Common.{◌≡◌, ◌≤◌, ◌+◌, length}
use Rattle.sim_world.specs.Tables.{job_place}
use Rattle.sim_world.proofs.jobs.place_of.Given as goal

abbrev pub invariant-loop-rest : goal.invariant-loop-rest
invariant-loop-rest l = record {
  place : l.place + job_place l.process l.rest ≡ job_place l.process l.jobs;
  fits : l.place + length l.rest ≤ length l.jobs;
}

abbrev pub decreases-loop-rest : goal.decreases-loop-rest
decreases-loop-rest l = length l.rest
