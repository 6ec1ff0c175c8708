use Rattle.std.proofs.Common.{◌≡◌, length, ◌&&◌}
use Rattle.std.specs.List.{list_any}
use Rattle.seat_rules.specs.Kinds.{is_lock_of}
use Rattle.seat_rules.specs.Operations.{is_file}
use Rattle.world_tables.specs.Find.{number_in}
use Rattle.operation_ledger.proofs.locks.has_lock.Given as goal

abbrev pub invariant-loop-rest : goal.invariant-loop-rest
invariant-loop-rest l = list_any (λ name. is_lock_of l.root name && is_file l.file (number_in l.tables.names name)) l.rest ≡ list_any (λ name. is_lock_of l.root name && is_file l.file (number_in l.tables.names name)) l.names

abbrev pub decreases-loop-rest : goal.decreases-loop-rest
decreases-loop-rest l = length l.rest
