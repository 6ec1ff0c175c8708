-- Calls that make one item, and their replies.
use Rattle.std.specs.Prelude.{ℕ, Bool, is_some}
use Rattle.cache_types.specs.declared.seat.Who.{Who}
use Rattle.file_log.specs.declared.call.Call.{Call}
use Rattle.file_log.specs.declared.reply.Reply.{Reply}
use Rattle.file_log.specs.declared.reply.Reply.TheVariants as replies
use Rattle.file_log.specs.Disk.{Disk}
use Rattle.world_tables.specs.Calls.{TellsClock}
pub use Rattle.world_tables.specs.Calls.{MakesOne}

-- which slots of a seat are filled
abbrev pub filled_of : Disk → Who → ℕ → Bool
filled_of d who at = is_some (d.slots who at)

-- a reply that is neither a failure nor a refusal
abbrev pub IsNoFailure : Reply → Type 0
IsNoFailure replies.Failed = ⊥
IsNoFailure replies.NoMemory = ⊥
IsNoFailure reply = Unit {0}

-- the clock's number answers Now, unless the call failed or was refused memory
abbrev pub AnswersClock : Call → ℕ → Reply → Type 0
AnswersClock call clock replies.Failed = Unit {0}
AnswersClock call clock replies.NoMemory = Unit {0}
AnswersClock call clock reply = TellsClock call clock reply
