-- The first item of a log that can't come at its place.
use Rattle.std.specs.Prelude.{◌≡◌, ℕ, List, Option, Some, None, fold, take, slice_get}
use Rattle.file_log.specs.declared.item.LogItem.{LogItem}
use Rattle.file_log.specs.Legal.{Legal, IsLegal}
use Rattle.file_log.specs.State.{State, after}

-- the items before this place can come, and the one there can't
pub record IsBroken (s : State) (log : List LogItem) (n : ℕ) : Type 0 where
  pub item : LogItem
  pub there : slice_get log n ≡ Some item
  pub before : Legal s (take n log)
  pub cannot : IsLegal (fold after s (take n log)) item → ⊥

-- it is at this place, or nowhere where all items can come
abbrev pub IsFirstIllegal : State → List LogItem → Option ℕ → Type 0
IsFirstIllegal s log None = Legal s log
IsFirstIllegal s log (Some n) = IsBroken s log n
