-- What a book shows.
use Rattle.std.specs.Prelude.{ℕ, ◌-◌, List, ◌++◌}
use Rattle.file_log.specs.declared.item.LogItem.{LogItem}

-- the items that are in it, and for how many more the memory is there
pub record Told : Type 0 where
  pub items : List LogItem
  pub room : ℕ

-- with items that took no room
abbrev pub with_news : Told → List LogItem → Told
with_news book news = record book { items = book.items ++ news }

-- with items that took the room of one
abbrev pub with_one : Told → List LogItem → Told
with_one book news = record { items = book.items ++ news; room = book.room - 1 }
