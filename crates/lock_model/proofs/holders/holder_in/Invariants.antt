use Rattle.std.proofs.Common.{◌≡◌, length}
use Rattle.lock_model.specs.Holders.{holder_in}
use Rattle.lock_model.proofs.holders.holder_in.Given as goal

abbrev pub invariant-loop-rest : goal.invariant-loop-rest
invariant-loop-rest g l = holder_in l.rest l.file ≡ holder_in l.held l.file

abbrev pub decreases-loop-rest : goal.decreases-loop-rest
decreases-loop-rest g l = length l.rest
