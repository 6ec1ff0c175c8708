-- A log of all seats in which some seats are set apart: they may do whatever they may, and the others follow their machines.
use Rattle.std.specs.Prelude.{◌≡◌, false, Bool, List}
use Rattle.cache_types.specs.declared.seat.Who.{Who}
use Rattle.file_log.specs.declared.item.LogItem.{LogItem}
use Rattle.file_log.specs.State.{state_of}
use Rattle.seat_rules.specs.Places.{past}
use Rattle.layout_rules.specs.Places.{Cooperating, KeepsBy}
use Rattle.folder_changes.specs.Order.{InOrder}
use Rattle.seat_order.specs.Places.{Where}
use Rattle.seat_order.specs.Standing.{Stands}
use Rattle.seat_order.specs.Ready.{IsReady}
use Rattle.seat_order.specs.Operating.{Operates}
use Rattle.seat_order.specs.Doing.{HasDone}

-- the seat's process wasn't stopped
abbrev pub GoesOn : List LogItem → Who → Type 0
GoesOn log who = (state_of (past log)).halted who.process ≡ false

-- the seat is ready there and has done what it had to until there, and while no place breaks a rule it stands there
pub record IsAt (who : Who) (place : Where) (log : List LogItem) : Type 0 where
  pub ready : IsReady who place (past log)
  pub doing : HasDone who place log
  pub stand : Cooperating log → Stands who place (past log)

-- Each seat that isn't set apart never is the first to break a rule, and each of its operations does what its request asks for; while
-- its process goes on it is where it is said to be. While no place breaks a rule, all is in order.
pub record IsOrderlyBut (apart : Who → Bool) (seats : Who → Where) (log : List LogItem) : Type 0 where
  pub keep : (who : Who) → apart who ≡ false → KeepsBy who log
  pub operate : (who : Who) → apart who ≡ false → Operates who log
  pub there : (who : Who) → apart who ≡ false → GoesOn log who → IsAt who (seats who) log
  pub order : Cooperating log → InOrder (past log)
