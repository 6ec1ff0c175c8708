use Rattle.std.proofs.Common.{◌+◌, ◌-◌, length}
use Rattle.operation_ledger.specs.NameLists.{HaveSame}
use Rattle.operation_ledger.proofs.names_had.reach.Given as goal

abbrev pub invariant-loop-alloc : goal.invariant-loop-alloc
invariant-loop-alloc l = HaveSame l.fn.files.items l.files.items

abbrev pub decreases-loop-alloc : goal.decreases-loop-alloc
decreases-loop-alloc l = l.file + 1 - length l.files.items
