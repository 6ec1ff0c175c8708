-- How a log goes on in which some seats are set apart.
use Rattle.std.specs.Prelude.{◌≡◌, Bool, true, false, List, [], ◌∷◌, ◌++◌}
use Rattle.cache_types.specs.declared.seat.Who.{Who}
use Rattle.file_log.specs.declared.item.LogItem.{LogItem}
use Rattle.file_log.specs.Legal.{IsLegal}
use Rattle.file_log.specs.Log.{is_own}
use Rattle.file_log.specs.State.{state_of}
use Rattle.seat_rules.specs.Places.{past}
use Rattle.layout_rules.specs.Places.{Cooperating, KeepsBy}
use Rattle.seat_order.specs.Places.{Where}
use Rattle.seat_order.specs.Apart.{IsOrderlyBut}
use Rattle.seat_order.specs.Operating.{Operates}

-- so it is before any item
abbrev pub IsOrderlyAtFirst : Type 0
IsOrderlyAtFirst = (apart : Who → Bool) → IsOrderlyBut apart (λ who. Where.Outside) []

-- and after any item that can come and is none of the others': of a seat that is set apart, or of no seat
abbrev pub AnyPass : Type 0
AnyPass = (apart : Who → Bool) (seats : Who → Where) (log : List LogItem) (x : LogItem) → IsOrderlyBut apart seats log → IsLegal (state_of (past log)) x → ((who : Who) → apart who ≡ false → is_own who x ≡ false)
    → IsOrderlyBut apart seats (log ++ x ∷ [])

-- where each seat that is set apart is never the first to break a rule, no place breaks one
abbrev pub AllCooperate : Type 0
AllCooperate = (apart : Who → Bool) (seats : Who → Where) (log : List LogItem) → IsOrderlyBut apart seats log → ((who : Who) → apart who ≡ true → KeepsBy who log) → Cooperating log

-- whatever those do that are set apart, each operation of another seat does what its request asks for
abbrev pub AllOperate : Type 0
AllOperate = (apart : Who → Bool) (seats : Who → Where) (log : List LogItem) → IsOrderlyBut apart seats log → (who : Who) → apart who ≡ false → Operates who log
