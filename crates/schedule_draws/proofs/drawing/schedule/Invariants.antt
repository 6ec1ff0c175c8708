use Rattle.std.proofs.Common.{◌≡◌, length}
use Rattle.schedule_draws.proofs.drawing.schedule.Given as goal

abbrev pub invariant-loop-made : goal.invariant-loop-made
invariant-loop-made l = length l.turns.items ≡ l.made
