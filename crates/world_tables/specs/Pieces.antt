-- The items that the pieces of a log stand for.
use Rattle.std.specs.Prelude.{ℕ, List, [], ◌∷◌, Option, Some, None}
use Rattle.std.specs.List.{flat_map}
use Rattle.file_log.specs.declared.item.LogItem.{LogItem}
use Rattle.file_log.specs.Exchange.{byte_items}
use Rattle.world_tables.specs.declared.piece.Run.{Run}
use Rattle.world_tables.specs.declared.piece.Piece.{Piece}
use Rattle.world_tables.specs.declared.piece.Piece.TheVariants.{One, Written}

-- a run is one item for each of its bytes
abbrev pub items_of_run : Run → List LogItem
items_of_run run = byte_items run.who run.slot run.at run.bytes

abbrev pub items_of_piece : Piece → List LogItem
items_of_piece (One item) = item ∷ []
items_of_piece (Written run) = items_of_run run

abbrev pub items_of_pieces : List Piece → List LogItem
items_of_pieces pieces = flat_map items_of_piece pieces

-- the items of the run that still grows, if there is one
abbrev pub items_grown : Option Run → List LogItem
items_grown None = []
items_grown (Some run) = items_of_run run

abbrev pub runs_grown : Option Run → ℕ
runs_grown None = 0
runs_grown (Some run) = 1
