use Rattle.std.proofs.Common.{◌≢◌, length, ◌↔◌}
use Rattle.std.specs.List.{AllByRecursion}
use Rattle.cache_types.proofs.driver.is_driver_text.Given as goal

abbrev pub invariant-loop-rest : goal.invariant-loop-rest
invariant-loop-rest l = AllByRecursion (λ b. b ≢ 0) l.text ↔ AllByRecursion (λ b. b ≢ 0) l.rest

abbrev pub decreases-loop-rest : goal.decreases-loop-rest
decreases-loop-rest l = length l.rest
