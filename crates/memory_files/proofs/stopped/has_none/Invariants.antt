use Rattle.std.proofs.Common.{◌≡◌, length}
use Rattle.file_log.specs.Log.{own}
use Rattle.memory_files.proofs.stopped.has_none.Given as goal

abbrev pub invariant-loop-rest : goal.invariant-loop-rest
invariant-loop-rest l = own l.who l.rest ≡ own l.who l.log

abbrev pub decreases-loop-rest : goal.decreases-loop-rest
decreases-loop-rest l = length l.rest
