use Rattle.std.specs.List.{All}
use Rattle.host_files.specs.Names.{StartsWith}
use Rattle.host_files.proofs.system.add_entries.Given as goal

abbrev pub invariant-loop-entry : goal.invariant-loop-entry
invariant-loop-entry g l = All (StartsWith l.byte) l.keys.items
