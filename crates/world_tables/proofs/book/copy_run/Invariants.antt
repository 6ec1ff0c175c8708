use Rattle.std.proofs.Common.{◌≡◌, ◌++◌, take}
use Rattle.file_log.specs.Exchange.{byte_items}
use Rattle.world_tables.proofs.book.copy_run.Given as goal

abbrev pub invariant-loop-index : goal.invariant-loop-index
invariant-loop-index l = l.items.items ≡ l.fn.items.items ++ byte_items l.run.who l.run.slot l.run.at (take l.index l.run.bytes)
