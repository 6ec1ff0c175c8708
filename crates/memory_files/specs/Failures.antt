-- A call that fails, and what that tells.
use Rattle.std.specs.Prelude.{◌≡◌, ◌⊎◌, ◌-◌, ℕ, min, take, length, Bool, true, false, List, [], ◌∷◌, ◌++◌}
use Rattle.cache_types.specs.declared.seat.Who.{Who}
use Rattle.file_log.specs.declared.item.LogItem.{LogItem}
use Rattle.file_log.specs.declared.item.LogItem.TheVariants as items
use Rattle.file_log.specs.declared.reply.Reply.{Reply}
use Rattle.file_log.specs.declared.reply.Reply.TheVariants.{Failed, NoMemory}
use Rattle.file_log.specs.Exchange.{byte_items}
use Rattle.file_log.specs.Seat.{course_of}
use Rattle.file_model.specs.Held.{Held, told}

-- the answer of a call that fails, or is refused memory
abbrev pub failure : Bool → Reply
failure true = NoMemory
failure false = Failed

abbrev pub is_inside : Who → Held → Bool
is_inside me w = (course_of me w.past.log).inside

-- the failure was told
pub record FailureTold (me : Who) (memory : Bool) (reply : Reply) (old new : Held) : Type 0 where
  pub reply_is : reply ≡ failure memory
  pub told_is : new ≡ told old (items.Failed me memory ∷ [])
  pub inside : memory ≡ true → is_inside me old ≡ true

-- outside an operation a want of memory is not told
pub record FailureUntold (me : Who) (reply : Reply) (old new : Held) : Type 0 where
  pub reply_is : reply ≡ NoMemory
  pub same : new ≡ old
  pub outside : is_inside me old ≡ false

-- a call that may fail does, after it has told what it did until then
abbrev pub Fails : Who → Bool → Reply → Held → Held → Type 0
Fails me memory reply old new = FailureTold me memory reply old new ⊎ FailureUntold me reply old new

-- a call that is to fail: refused memory, or failed, unless there is no memory for that
abbrev pub IsFailure : Bool → Reply → Type 0
IsFailure true reply = reply ≡ NoMemory
IsFailure false reply = (reply ≡ Failed) ⊎ (reply ≡ NoMemory)

-- so many bytes are written by a write that fails: at most all but the last
abbrev pub bytes_before : ℕ → List ℕ → List ℕ
bytes_before after bytes = take (min after (length bytes - 1)) bytes

-- what a write that failed has told
abbrev pub items_of_part : Who → ℕ → ℕ → List ℕ → List LogItem
items_of_part me slot at part = byte_items me slot at part ++ items.Failed me false ∷ []
