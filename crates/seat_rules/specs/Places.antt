-- Places of a log that begins on an empty disk, and a rule at each. A place is an item's number, from 0.
use Rattle.std.specs.Prelude.{◌≡◌, ℕ, ◌<◌, true, List, [], take, slice_get, Some}
use Rattle.cache_types.specs.declared.seat.Who.{Who}
use Rattle.file_log.specs.declared.item.LogItem.{LogItem}
use Rattle.file_log.specs.Log.{History, is_own}

-- the history of a log that begins on an empty disk
abbrev pub past : List LogItem → History
past log = record { start = []; log = log }

-- what was done before the place
abbrev pub before : List LogItem → ℕ → History
before log n = past (take n log)

-- a rule holds of the item at the place, after the items before it
abbrev pub At : (History → LogItem → Type 0) → List LogItem → ℕ → Type 0
At Rule log n = (item : LogItem) → slice_get log n ≡ Some item → Rule (before log n) item

-- it holds at each place
abbrev pub AtEach : (History → LogItem → Type 0) → List LogItem → Type 0
AtEach Rule log = (n : ℕ) → At Rule log n

-- the first place at which it doesn't hold, if there is one, has no item of this seat
abbrev pub KeptBy : (History → LogItem → Type 0) → Who → List LogItem → Type 0
KeptBy Rule who log = (n : ℕ) (item : LogItem) → slice_get log n ≡ Some item → is_own who item ≡ true → ((m : ℕ) → m < n → At Rule log m) → At Rule log n
