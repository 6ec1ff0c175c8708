-- A note that was told, or for which there was no memory.
use Rattle.std.specs.Prelude.{Bool, true, false, List, [], ◌∷◌}
use Rattle.cache_types.specs.Answers.{IsSmall}
use Rattle.cache_types.specs.declared.seat.Who.{Who}
use Rattle.file_log.specs.declared.item.LogItem.{LogItem}
use Rattle.file_log.specs.declared.note.Note.{Note}
use Rattle.file_log.specs.declared.note.Note.TheVariants as notes
use Rattle.file_log.specs.Exchange.{item_of_note}
use Rattle.file_log.specs.Seat.{Seen, IsSeen, noted}

-- the items of a note that was told, or not
abbrev pub items_told : Who → Note → Bool → List LogItem
items_told me note true = item_of_note me note ∷ []
items_told me note false = []

-- what the seat has then seen
abbrev pub seen_told : Note → Bool → Seen → Seen
seen_told note true seen = noted note seen
seen_told note false seen = seen

abbrev pub IsSeenTold : Note → Bool → Seen → Seen → Type 0
IsSeenTold note told old new = IsSeen new (seen_told note told old)

-- an End whose answer carries no list
abbrev pub IsSmallEnd : Note → Type 0
IsSmallEnd (notes.End answer) = IsSmall answer
IsSmallEnd note = ⊥
