-- What a log says of a seat, and what a call of the seat does to it.
use Rattle.std.specs.Prelude.{◌≡◌, ◌&&◌, ℕ, nat_lt, Bool, false, List, Some, is_some}
use Rattle.cache_types.specs.declared.seat.Who.{Who}
use Rattle.file_log.specs.declared.call.Call.{Call}
use Rattle.file_log.specs.declared.reply.Reply.{Reply}
use Rattle.file_log.specs.Disk.{Disk}
use Rattle.file_log.specs.Exchange.{Answers}
use Rattle.file_log.specs.declared.item.LogItem.{LogItem}
use Rattle.file_log.specs.Log.{History, with_items, own}
use Rattle.file_log.specs.Seat.{Seen, Course, IsSeen, seen_after, course_of}
use Rattle.file_log.specs.State.{state_of, disk_of}
use Rattle.file_log.specs.Told.{Called}
use Rattle.file_model.specs.Held.{Held}

-- a slot is one of the eight, and filled
abbrev pub is_filled : Disk → Who → ℕ → Bool
is_filled d me at = nat_lt at 8 && is_some (d.slots me at)

abbrev pub seen_on : Who → Disk → Course → Seen
seen_on me d course = record { filled = is_filled d me; inside = course.inside; hurt = course.hurt }

-- what the log says of a seat
abbrev pub seen_in : Who → History → Seen
seen_in me h = seen_on me (disk_of h) (course_of me h.log)

-- its process goes on
abbrev pub GoesOn : Who → History → Type 0
GoesOn me h = (state_of h).halted me.process ≡ false

-- a call of the seat that was answered so: what it makes is told, it changes what the seat has seen, and nothing else
pub record Tells (me : Who) (call : Call) (reply : Reply) (old new : Held) : Type 0 where
  pub fits : Answers (seen_in me old.past).inside call reply
  pub seen : IsSeen (seen_in me new.past) (seen_after (seen_in me old.past) call reply)
  pub called : Called me (seen_in me old.past).inside call reply (Some old.past) (Some new.past)
  pub goes_on : GoesOn me new.past
  pub clock : new.clock ≡ old.clock
  -- no other seat has an item
  pub alone : (made : List LogItem) × (new.past ≡ with_items old.past made) × (own me made ≡ made)
