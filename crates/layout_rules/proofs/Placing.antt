-- The rules at the places of a log, and along it.
use Rattle.std.proofs.Common.{◌≡◌, Option, Some, None, sym, ◌∙◌}
use Rattle.cache_types.specs.declared.seat.Who.{Who}
use Rattle.file_log.specs.Log.{History, seat_of}
use Rattle.file_log.specs.declared.item.LogItem.{LogItem}
use Rattle.layout_rules.specs.Laws.{HoldAlong, AreKeptByEach}
use Rattle.layout_rules.specs.Rules.{KeepsRules}
use Rattle.seat_rules.proofs.Placing as placing

pub hold_along : HoldAlong
hold_along log = placing.hold_along KeepsRules log

-- an item of no seat keeps the rules
spared : (h : History) (item : LogItem) → seat_of item ≡ None → KeepsRules h item
spared h item none who seat = let clash : ◌≡◌ {A = Option Who} None (Some who) = sym none ∙ seat in absurd cc

pub kept_by_each : AreKeptByEach
kept_by_each log = placing.kept_by_each KeepsRules spared log
