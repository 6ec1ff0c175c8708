use Rattle.std.proofs.Common.{◌≡◌, take}
use Rattle.world_tables.specs.Pieces.{items_of_pieces}
use Rattle.world_tables.proofs.book.Book.items.Given as goal

abbrev pub invariant-loop-piece : goal.invariant-loop-piece
invariant-loop-piece l = l.items.items ≡ items_of_pieces (take l.piece-index l.piece-items)
