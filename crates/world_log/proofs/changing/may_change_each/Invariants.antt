use Rattle.std.proofs.Common.{◌≡◌, length}
use Rattle.std.specs.List.{list_all}
use Rattle.rule_cases.specs.Cases.{may_change_of}
use Rattle.world_tables.specs.Tables.{disk_at}
use Rattle.world_log.proofs.changing.may_change_each.Given as goal

abbrev pub invariant-loop-rest : goal.invariant-loop-rest
invariant-loop-rest l = list_all (may_change_of (disk_at l.tables) l.who l.file) l.rest ≡ list_all (may_change_of (disk_at l.tables) l.who l.file) l.names

abbrev pub decreases-loop-rest : goal.decreases-loop-rest
decreases-loop-rest l = length l.rest
