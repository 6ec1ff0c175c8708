use Rattle.std.proofs.Common.{◌≡◌, length}
use Rattle.memory_files.specs.Plans.{earliest}
use Rattle.memory_files.proofs.plan.earliest.Given as goal

abbrev pub invariant-loop-rest : goal.invariant-loop-rest
invariant-loop-rest l = earliest l.number l.tell l.rest ≡ earliest l.number l.tell l.faults

abbrev pub decreases-loop-rest : goal.decreases-loop-rest
decreases-loop-rest l = length l.rest
