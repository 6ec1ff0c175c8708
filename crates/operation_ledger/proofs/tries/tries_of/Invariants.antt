use Rattle.std.proofs.Common.{◌≡◌, length}
use Rattle.operation_ledger.specs.Tries.{tries_of}
use Rattle.operation_ledger.proofs.tries.tries_of.Given as goal

abbrev pub invariant-loop-rest : goal.invariant-loop-rest
invariant-loop-rest l = tries_of l.rest l.file ≡ tries_of l.tries l.file

abbrev pub decreases-loop-rest : goal.decreases-loop-rest
decreases-loop-rest l = length l.rest
