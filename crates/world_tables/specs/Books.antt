-- What the fields of a book mean.
use Rattle.std.specs.Prelude.{◌≤◌, ◌<◌, ◌+◌, ◌^◌, ◌++◌}
use Rattle.std.specs.Vec.{vec_len, vec_capacity}
use Rattle.world_tables.specs.declared.book.Book.TheInside.{Inside}
use Rattle.world_tables.specs.Pieces.{items_of_pieces, items_grown, runs_grown}
use Rattle.world_tables.specs.Told.{Told}

-- its pieces' items, and those of the run that grows
abbrev pub told_by : Inside → Told
told_by b = record { items = items_of_pieces b.pieces.items ++ items_grown b.growing; room = b.room }

-- the memory is there for the run that grows and for the room
pub record HasRoom (b : Inside) : Type 0 where
  pub room : vec_len b.pieces + runs_grown b.growing + b.room ≤ vec_capacity b.pieces
  pub small : b.room < 2 ^ 41
