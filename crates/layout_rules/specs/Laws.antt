-- The rules at the places of a log, along it, and of its seats; and what follows from them.
use Rattle.std.specs.Prelude.{◌↔◌, List, []}
use Rattle.cache_types.specs.declared.seat.Who.{Who}
use Rattle.file_log.specs.Along.{All, Keeps}
use Rattle.file_log.specs.Legal.{Legal}
use Rattle.file_log.specs.State.{first}
use Rattle.file_log.specs.declared.item.LogItem.{LogItem}
use Rattle.seat_rules.specs.Changes.{with_item}
use Rattle.seat_rules.specs.Places.{past}
use Rattle.seat_rules.specs.Promises.{Licensed, Found}
use Rattle.layout_rules.specs.Places.{Cooperating, KeepsBy, WithinLimit}
use Rattle.layout_rules.specs.Rules.{KeepsRules}

-- no place breaks a rule exactly where each item keeps them, one after another; and so of the items of a seat
abbrev pub HoldAlong : Type 0
HoldAlong = (log : List LogItem) → (Cooperating log ↔ All with_item KeepsRules (past []) log) × ((who : Who) → KeepsBy who log ↔ Keeps with_item KeepsRules who (past []) log)

-- no place breaks a rule exactly where the first that would is no seat's
abbrev pub AreKeptByEach : Type 0
AreKeptByEach = (log : List LogItem) → Cooperating log ↔ ((who : Who) → KeepsBy who log)

-- In a log that can be, begins on an empty disk and has no place that breaks a rule, each hit gives what was put there; while no process
-- was stopped and no call failed each lookup finds what is promised to it; and each put that stored its blob left its store within its limit.
abbrev pub AreServed : Type 0
AreServed = (log : List LogItem) → Legal (first []) log → Cooperating log → Licensed log × Found log × WithinLimit log

-- the same where each seat keeps the rules, whatever the others do: of no seat is the first place that breaks one
abbrev pub KeepersAreServed : Type 0
KeepersAreServed = (log : List LogItem) → Legal (first []) log → ((who : Who) → KeepsBy who log) → Licensed log × Found log × WithinLimit log
