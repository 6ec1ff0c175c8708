-- What a call does to a seat of real files, of which no log is told.
use Rattle.std.specs.Prelude.{◌≡◌, ◌<◌, Result, Ok, Err}
use Rattle.file_log.specs.declared.call.Call.{Call}
use Rattle.file_log.specs.declared.reply.Reply.{Reply}
use Rattle.file_log.specs.declared.reply.Reply.TheVariants as replies
use Rattle.file_log.specs.Exchange.{Answers, MayFail, MayLack}
use Rattle.file_log.specs.Seat.{Seen, IsSeen, seen_after}
use Rattle.file_log.specs.Told.{HasCause}
use Rattle.host_files.specs.Faults.{count_after}
use Rattle.host_files.specs.declared.fault.Fault.{Fault}
use Rattle.host_files.specs.declared.seat.Seat.{Seat}
use Rattle.host_files.specs.Slots.{filled_in}

-- what the seat has seen of itself
abbrev pub seen_of : Seat → Seen
seen_of s = record { filled = filled_in s.slots; inside = s.inside; hurt = s.hurt }

-- the first call that failed stays the first, and a call that doesn't fail leaves none
abbrev pub KeepsFirst : Seat → Reply → Seat → Type 0
KeepsFirst old replies.Failed new = 0 < old.faults → new.first ≡ old.first
KeepsFirst old reply new = new.first ≡ old.first

-- a call was answered so
pub record Acts (old : Seat) (call : Call) (reply : Reply) (new : Seat) : Type 0 where
  pub fits : Answers old.inside call reply
  pub me : new.me ≡ old.me
  pub seen : IsSeen (seen_of new) (seen_after (seen_of old) call reply)
  pub cause : HasCause old.faults new.faults reply
  pub count : new.faults ≡ count_after reply old.faults
  pub first : KeepsFirst old reply new

-- what a call is answered that was made
abbrev pub IsMade : Reply → Type 0
IsMade replies.Failed = ⊥
IsMade reply = Unit {0}

-- a call was made and is answered so, or it wasn't done and left the seat as it was
abbrev pub Went : Seat → Call → Result Reply Fault → Seat → Type 0
Went old call (Ok reply) new = Acts old call reply new × IsMade reply
Went old call (Err fault) new = (new ≡ old) × MayFail call × MayLack old.inside call
