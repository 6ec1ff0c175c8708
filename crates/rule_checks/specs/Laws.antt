-- What the tests of the rules say.
use Rattle.std.specs.Prelude.{◌≡◌, ◌↔◌, ℕ, ◌<◌, List, [], take, slice_get, Some}
use Rattle.cache_types.specs.declared.seat.Who.{Who}
use Rattle.file_log.specs.declared.item.LogItem.{LogItem}
use Rattle.file_log.specs.Along.{All, Keeps}
use Rattle.file_log.specs.Legal.{Legal}
use Rattle.file_log.specs.State.{first}
use Rattle.layout_rules.specs.Places.{KeepsAt, Cooperating, KeepsBy}
use Rattle.log_summary.specs.Summary.{nothing, summed, summary_of}
use Rattle.rule_checks.specs.Tests.{PassesTests}

-- the item at the place passes the tests of what the log says there
abbrev pub PassesAt : List LogItem → ℕ → Type 0
PassesAt log n = (item : LogItem) → slice_get log n ≡ Some item → PassesTests (summary_of (take n log)) item

-- at each place of a log that can be, before which no place breaks a rule, the tests say just whether the item there keeps the rules
abbrev pub AreDecided : Type 0
AreDecided = (log : List LogItem) (n : ℕ) → Legal (first []) log → ((m : ℕ) → m < n → KeepsAt log m) → PassesAt log n ↔ KeepsAt log n

-- so they say of a log that can be whether no place breaks a rule, and of a seat whether it has no item at the first that does
abbrev pub AreDecidedAlong : Type 0
AreDecidedAlong = (log : List LogItem) → Legal (first []) log
    → (All summed PassesTests nothing log ↔ Cooperating log) × ((who : Who) → Keeps summed PassesTests who nothing log ↔ KeepsBy who log)
