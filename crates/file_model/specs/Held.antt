-- What a world shows.
use Rattle.std.specs.Prelude.{ℕ, List, take}
use Rattle.file_log.specs.declared.item.LogItem.{LogItem}
use Rattle.file_log.specs.declared.item.LogItem.TheVariants as items
use Rattle.file_log.specs.Log.{History, with_items}

-- what was there at first and what was done since, and the clock
pub record Held : Type 0 where
  pub past : History
  pub clock : ℕ

-- with more items
abbrev pub told : Held → List LogItem → Held
told held news = record held { past = with_items held.past news }

-- with so many of its items alone, the first
abbrev pub first_of : ℕ → Held → Held
first_of n held = record held { past = record { start = held.past.start; log = take n held.past.log } }

-- with these items in place of its own
abbrev pub with_log : Held → List LogItem → Held
with_log held log = record held { past = record { start = held.past.start; log = log } }

-- an item that is no seat's and changes no file, or tells of an entry that goes
abbrev pub IsPlain : LogItem → Type 0
IsPlain (items.Queued process ticket request) = Unit {0}
IsPlain (items.Taken who ticket) = Unit {0}
IsPlain (items.Evict who store driver key) = Unit {0}
IsPlain item = ⊥
