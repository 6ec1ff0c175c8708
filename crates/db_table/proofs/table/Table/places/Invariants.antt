use Rattle.std.proofs.Common.{◌≡◌, ◌+◌, ◌++◌, length}
use Rattle.db_table.specs.Tables.{places_from, places_of}
use Rattle.db_table.proofs.table.Table.places.Given as goal

abbrev pub invariant-loop-first : goal.invariant-loop-first
invariant-loop-first l = (l.places.items ++ places_from l.place l.rest l.hash ≡ places_of l.self.hashes l.hash) × (l.place + length l.rest ≡ length l.self.hashes)

abbrev pub decreases-loop-first : goal.decreases-loop-first
decreases-loop-first l = length l.rest
