use Rattle.std.proofs.Common.{length}
use Rattle.db_table.proofs.OrderLaws.{GoesOn}
use Rattle.db_table.proofs.usable.entries_end.Given as goal

abbrev pub invariant-loop-row : goal.invariant-loop-row
invariant-loop-row l = GoesOn l.len l.start l.rows l.end l.rest

abbrev pub decreases-loop-row : goal.decreases-loop-row
decreases-loop-row l = length l.rest
