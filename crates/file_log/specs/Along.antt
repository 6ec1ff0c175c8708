-- Rules along a log, each over what is known at its place.
use Rattle.std.specs.Prelude.{◌≡◌, true, List, [], ◌∷◌}
use Rattle.cache_types.specs.declared.seat.Who.{Who}
use Rattle.file_log.specs.declared.item.LogItem.{LogItem}
use Rattle.file_log.specs.Log.{is_own}

-- each item from here on is as the rule says
abbrev pub All : {S : Type 0} → (S → LogItem → S) → (S → LogItem → Type 0) → S → List LogItem → Type 0
All step Rule s [] = Unit {0}
All step Rule s (item ∷ log) = Rule s item × All step Rule (step s item) log

-- the first item that breaks the rule, if there is one, is none of this seat
abbrev pub Keeps : {S : Type 0} → (S → LogItem → S) → (S → LogItem → Type 0) → Who → S → List LogItem → Type 0
Keeps step Rule me s [] = Unit {0}
Keeps step Rule me s (item ∷ log) = (is_own me item ≡ true → Rule s item) × (Rule s item → Keeps step Rule me (step s item) log)
