use Rattle.std.proofs.Common.{◌≡◌, ◌==◌, length, take}
use Rattle.std.specs.List.{slice_split}
use Rattle.settings_read.specs.Names.{names_among}
use Rattle.settings_read.specs.Seen.{IsSeen}
use Rattle.settings_read.proofs.names.names_of_variable.Given as goal

abbrev pub invariant-loop-piece : goal.invariant-loop-piece
invariant-loop-piece l =
    (goal.iterator-loop-piece).can_next l.piece-iterator
    × (goal.iterator-loop-piece).is_finite l.piece-iterator
    × (l.names ≡ names_among (take (length l.yielded) (slice_split (λ byte. byte == 44) l.text)))
    × IsSeen l.seen l.names
