use Rattle.std.proofs.Common.{◌≡◌, ◌-◌, length, take}
use Rattle.file_model.specs.Held.{first_of}
use Rattle.world_tables.specs.Pieces.{items_of_pieces}
use Rattle.file_model.proofs.world.World.first_items.Given as goal

abbrev pub invariant-loop-piece : goal.invariant-loop-piece
invariant-loop-piece l =
    let done = items_of_pieces (take l.piece-index l.pieces) in
    record {
      world : l.world ≡ first_of l.n (record { past = record { start = l.self.past.start; log = done }; clock = l.self.clock });
      left : l.left ≡ l.n - length done;
    }
