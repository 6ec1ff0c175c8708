-- What a call of the seat does to a log in which others have items too.
use Rattle.std.specs.Prelude.{◌≡◌, ℕ, false, [], length, Some}
use Rattle.cache_types.specs.Seats.{same_seat}
use Rattle.cache_types.specs.declared.seat.Who.{Who}
use Rattle.file_log.specs.declared.call.Call.{Call}
use Rattle.file_log.specs.declared.call.Call.TheVariants.{WriteAt}
use Rattle.file_log.specs.declared.reply.Reply.{Reply}
use Rattle.file_log.specs.Exchange.{Answers}
use Rattle.file_log.specs.Legal.{Legal}
use Rattle.file_log.specs.Log.{History}
use Rattle.file_log.specs.Seat.{IsSeen, seen_after}
use Rattle.file_log.specs.State.{first, state_of}
use Rattle.file_log.specs.Told.{Called}
use Rattle.file_model.specs.Seeing.{seen_of}
use Rattle.seat_rules.specs.Places.{past}
use Rattle.layout_rules.specs.Places.{Cooperating, KeepsBy}
use Rattle.seat_order.specs.Operating.{Operates}

-- so many bytes does a call write
abbrev pub bytes_in : Call → ℕ
bytes_in (WriteAt slot at bytes) = length bytes
bytes_in call = 0

-- its process goes on
abbrev pub GoesOn : Who → History → Type 0
GoesOn me h = (state_of h).halted me.process ≡ false

-- A call of the seat was answered so: what it makes is told, and it alone changes what the seat has seen.
pub record Tells (me : Who) (call : Call) (reply : Reply) (old new : History) : Type 0 where
  pub fits : Answers (seen_of me old).inside call reply
  pub seen : IsSeen (seen_of me new) (seen_after (seen_of me old) call reply)
  pub called : Called me (seen_of me old).inside call reply (Some old) (Some new)
  pub goes_on : GoesOn me new

-- The log began on an empty disk and can be, and no other seat is the first to break a rule: where this seat isn't either, no place breaks one.
-- Each operation of another seat makes few calls, in its store's root, and ends with an answer of its request whose cause is among its own items.
pub record OthersKeep (me : Who) (h : History) : Type 0 where
  pub start : h ≡ past h.log
  pub legal : Legal (first []) h.log
  pub keep : (who : Who) → same_seat who me ≡ false → KeepsBy who h.log
  pub all : KeepsBy me h.log → Cooperating h.log
  pub operations : (who : Who) → same_seat who me ≡ false → Operates who h.log
