use Rattle.std.proofs.Common.{◌≡◌, ◌<◌, ℕ, false, get_or, length}
use Rattle.std.specs.Prelude.{is_some}
use Rattle.file_log.specs.State.{disk_of}
use Rattle.file_model.proofs.world.World.filled.Given as goal

abbrev pub invariant-loop-slot : goal.invariant-loop-slot
invariant-loop-slot l = (length l.filled ≡ 8) × ((at : ℕ) → at < l.slot → get_or l.filled at false ≡ is_some ((disk_of l.self.past).slots l.who at))
