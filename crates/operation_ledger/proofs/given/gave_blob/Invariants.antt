use Rattle.std.proofs.Common.{◌≡◌, length, Some}
use Rattle.std.specs.List.{list_any}
use Rattle.rule_checks.specs.Tests.{same_blob}
use Rattle.operation_ledger.proofs.given.gave_blob.Given as goal

abbrev pub invariant-loop-rest : goal.invariant-loop-rest
invariant-loop-rest l = list_any (same_blob (Some l.blob)) l.rest ≡ list_any (same_blob (Some l.blob)) l.gave

abbrev pub decreases-loop-rest : goal.decreases-loop-rest
decreases-loop-rest l = length l.rest
