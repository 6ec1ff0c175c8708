use Rattle.std.proofs.Common.{◌≡◌, ◌-◌, ◌^◌, take, length, min}
use Rattle.world_tables.specs.Pieces.{items_of_pieces}
use Rattle.world_tables.proofs.book.Book.len.Given as goal

abbrev pub invariant-loop-piece : goal.invariant-loop-piece
invariant-loop-piece l = l.len ≡ min (length (items_of_pieces (take l.piece-index l.piece-items))) (2 ^ 64 - 1)
