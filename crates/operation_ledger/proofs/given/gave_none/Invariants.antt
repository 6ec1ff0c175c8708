use Rattle.std.proofs.Common.{◌≡◌, length, is_none}
use Rattle.std.specs.List.{list_any}
use Rattle.operation_ledger.proofs.given.gave_none.Given as goal

abbrev pub invariant-loop-rest : goal.invariant-loop-rest
invariant-loop-rest l = list_any is_none l.rest ≡ list_any is_none l.gave

abbrev pub decreases-loop-rest : goal.decreases-loop-rest
decreases-loop-rest l = length l.rest
