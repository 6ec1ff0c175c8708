use Rattle.std.proofs.Common.{◌≡◌, ◌≤◌, ◌+◌, length}
use Rattle.sim_world.specs.Tables.{place_in}
use Rattle.sim_world.proofs.seats.place_of.Given as goal

abbrev pub invariant-loop-rest : goal.invariant-loop-rest
invariant-loop-rest l = record {
  place : l.place + place_in l.who l.rest ≡ place_in l.who l.seats;
  fits : l.place + length l.rest ≤ length l.seats;
}

abbrev pub decreases-loop-rest : goal.decreases-loop-rest
decreases-loop-rest l = length l.rest
