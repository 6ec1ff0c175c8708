-- A part of a machine: what it may ask, and where a good reply leads.
use Rattle.std.specs.Prelude.{◌≡◌, ◌<◌, ℕ, true, false}
use Rattle.file_log.specs.declared.call.Call.{Call}
use Rattle.file_log.specs.declared.reply.Reply.{Reply}
use Rattle.file_log.specs.declared.reply.Reply.TheVariants as replies
use Rattle.file_log.specs.Exchange.{Answers}
use Rattle.file_log.specs.Seat.{SlotFits, seen_after}
use Rattle.files_api.specs.Drive.{seen_in, IsWithin}
use Rattle.machine_parts.specs.declared.open.Open.{Open}
use Rattle.machine_parts.specs.declared.part.After.{After}
use Rattle.machine_parts.specs.declared.part.After.TheVariants.{More, Over}
use Rattle.machine_parts.specs.Slots.{has, count}

-- a call within an operation that these slots allow, with a call left
abbrev pub FitsCall : Open → ℕ → Call → Type 0
FitsCall o left call = SlotFits (has o) call × IsWithin call × (0 < left)

-- no failure, and no want of memory
abbrev pub IsGood : Reply → Type 0
IsGood replies.Failed = ⊥
IsGood replies.NoMemory = ⊥
IsGood reply = Unit {0}

-- after another reply each open slot can still be closed
abbrev pub Bears : Open → ℕ → Reply → Type 0
Bears o left replies.Failed = count o < left
Bears o left replies.NoMemory = count o < left
Bears o left reply = Unit {0}

-- a reply changes the slots as it does those of the seat, and leaves a call less
pub record Moved (o : Open) (left : ℕ) (call : Call) (reply : Reply) (o' : Open) (left' : ℕ) : Type 0 where
  pub filled : (at : ℕ) → has o' at ≡ (seen_after (seen_in (has o) false) call reply).filled at
  pub less : left' < left

-- to more of the part, or to its end, after which what is open is closed
abbrev pub Leads : {P T : Type 0} → (P → Type 0) → (P → Open) → (P → ℕ) → Open → ℕ → Call → Reply → After P T → Type 0
Leads right slots left o n call reply (More q) = right q × Moved o n call reply (slots q) (left q)
Leads right slots left o n call reply (Over o' x) = Moved o n call reply o' (count o')

-- a good reply that the call has leads there
abbrev pub Follows : {P T : Type 0} → (P → Type 0) → (P → Open) → (P → ℕ) → Open → ℕ → Call → Reply → After P T → Type 0
Follows right slots left o n call reply r = Answers true call reply → IsGood reply → Leads right slots left o n call reply r
