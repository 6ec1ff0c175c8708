use Rattle.std.proofs.Common.{◌≡◌, length}
use Rattle.std.specs.List.{list_any}
use Rattle.rule_checks.specs.Tests.{is_item_of}
use Rattle.world_log.specs.Grouping.{any_put}
use Rattle.world_log.proofs.puts.is_item_of_any.Given as goal

abbrev pub invariant-loop-rest : goal.invariant-loop-rest
invariant-loop-rest l = list_any (any_put (is_item_of l.root l.key l.bytes)) l.rest ≡ list_any (any_put (is_item_of l.root l.key l.bytes)) l.records

abbrev pub decreases-loop-rest : goal.decreases-loop-rest
decreases-loop-rest l = length l.rest
