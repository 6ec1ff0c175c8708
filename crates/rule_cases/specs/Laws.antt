-- That the tests by cases tell just which items keep the rules.
use Rattle.std.specs.Prelude.{◌≡◌, ◌↔◌, ℕ, ◌<◌, true, List, [], take, slice_get, Some}
use Rattle.cache_types.specs.declared.seat.Who.{Who}
use Rattle.file_log.specs.declared.item.LogItem.{LogItem}
use Rattle.file_log.specs.Along.{All, Keeps}
use Rattle.file_log.specs.Effect.{applied}
use Rattle.file_log.specs.Legal.{Legal}
use Rattle.file_log.specs.State.{first}
use Rattle.seat_rules.specs.Kinds.{is_entry}
use Rattle.layout_rules.specs.Places.{KeepsAt, Cooperating, KeepsBy}
use Rattle.log_summary.specs.Summary.{Summary, nothing, summed, summary_of}
use Rattle.rule_checks.specs.Tests.{keep_bytes}
use Rattle.rule_cases.specs.Cases.{passes}

-- in a log that can be, before this place of which none breaks a rule, the item there passes exactly where it keeps the rules
abbrev pub AreTestedByCases : Type 0
AreTestedByCases = (log : List LogItem) (n : ℕ) (item : LogItem) → Legal (first []) log → ((m : ℕ) → m < n → KeepsAt log m) → slice_get log n ≡ Some item
    → passes (summary_of (take n log)) item ≡ true ↔ KeepsAt log n

-- the item passes the tests by cases
abbrev pub Passed : Summary → LogItem → Type 0
Passed s item = passes s item ≡ true

-- so they say of a log that can be whether no place breaks a rule, and of a seat whether it has no item at the first that does
abbrev pub AreTestedAlong : Type 0
AreTestedAlong = (log : List LogItem) → Legal (first []) log
    → (All summed Passed nothing log ↔ Cooperating log) × ((who : Who) → Keeps summed Passed who nothing log ↔ KeepsBy who log)

-- after a log all of whose items pass, one more that passes leaves the bytes of each file that an entry has or had
abbrev pub LeaveEntries : Type 0
LeaveEntries = (log : List LogItem) (item : LogItem) → All summed Passed nothing log → Passed (summary_of log) item
    → keep_bytes is_entry (summary_of log).had (summary_of log).state.disk (applied (summary_of log).state.disk item) ≡ true
