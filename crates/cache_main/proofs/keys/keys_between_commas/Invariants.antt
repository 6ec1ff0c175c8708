use Rattle.std.proofs.Common.{length, take}
use Rattle.cache_main.specs.Keys.{pieces_of}
use Rattle.cache_main.proofs.Spelling.{AreSpelled}
use Rattle.cache_main.proofs.keys.keys_between_commas.Given as goal

abbrev pub invariant-loop-piece : goal.invariant-loop-piece
invariant-loop-piece l =
    (goal.iterator-loop-piece).can_next l.piece-iterator
    × (goal.iterator-loop-piece).is_finite l.piece-iterator
    × AreSpelled (take (length l.yielded) (pieces_of l.text)) l.keys
