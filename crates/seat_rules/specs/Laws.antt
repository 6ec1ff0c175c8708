-- What holds of operations in every log.
use Rattle.std.specs.Prelude.{◌≡◌, List}
use Rattle.cache_types.specs.declared.request.Request.{Request}
use Rattle.cache_types.specs.declared.seat.Who.{Who}
use Rattle.file_log.specs.declared.item.LogItem.{LogItem}
use Rattle.seat_rules.specs.Operations.{IsInside}

-- two operations that a seat is in are one: the same items before it, the same request, the same items since
pub record AreOne (b1 b2 s1 s2 : List LogItem) (r1 r2 : Request) : Type 0 where
  pub before : b1 ≡ b2
  pub request : r1 ≡ r2
  pub since : s1 ≡ s2

-- at the end of each log a seat is in one operation at most
abbrev pub OperationsAreOne : Type 0
OperationsAreOne = (log : List LogItem) (who : Who) (r1 r2 : Request) (i : IsInside log who r1) (j : IsInside log who r2) → AreOne i.before j.before i.since j.since r1 r2
