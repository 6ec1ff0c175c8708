use Rattle.std.proofs.Common.{◌≡◌, length}
use Rattle.std.specs.List.{list_any}
use Rattle.rule_checks.specs.Tests.{evicts}
use Rattle.world_log.proofs.evictions.is_evicting.Given as goal

abbrev pub invariant-loop-rest : goal.invariant-loop-rest
invariant-loop-rest l = list_any (evicts l.who l.at) l.rest ≡ list_any (evicts l.who l.at) l.evicting

abbrev pub decreases-loop-rest : goal.decreases-loop-rest
decreases-loop-rest l = length l.rest
