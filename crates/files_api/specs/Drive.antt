-- A machine that is driven over files, and a whole operation.
use Rattle.std.specs.Prelude.{◌≡◌, ◌≤◌, ◌<◌, ℕ, Bool, true, false, List, [], ◌∷◌, ◌++◌, length, Option, ◌⊎◌}
use Rattle.std.specs.List.{flat_map}
use Rattle.cache_types.specs.Answers.{IsSmall}
use Rattle.cache_types.specs.declared.answer.Answer.{Answer}
use Rattle.cache_types.specs.declared.answer.Answer.TheVariants.{NoMemory}
use Rattle.cache_types.specs.declared.request.Request.{Request}
use Rattle.cache_types.specs.declared.seat.Who.{Who}
use Rattle.file_log.specs.declared.call.Call.{Call}
use Rattle.file_log.specs.declared.call.Call.TheVariants.{Tell}
use Rattle.file_log.specs.declared.item.LogItem.{LogItem}
use Rattle.file_log.specs.declared.item.LogItem.TheVariants.{Begin, End}
use Rattle.file_log.specs.declared.note.Note.TheVariants as notes
use Rattle.file_log.specs.declared.reply.Reply.{Reply}
use Rattle.file_log.specs.declared.reply.Reply.TheVariants.{Failed}
use Rattle.file_log.specs.Exchange.{Answers, Makes, Exchange}
use Rattle.file_log.specs.Log.{History}
use Rattle.file_log.specs.Seat.{Seen, MayCall, seen_after}
use Rattle.file_log.specs.Told.{Grows, Owns, OwnsToEnd, Rose}
use Rattle.files_api.specs.declared.machine.Step.{Step}
use Rattle.files_api.specs.declared.machine.Step.TheVariants.{Ask, Done}

-- ---- machines

-- what a seat has seen whose machine has these slots, within an operation
abbrev pub seen_in : (ℕ → Bool) → Bool → Seen
seen_in slots hurt = record { filled = slots; inside = true; hurt = hurt }

-- a call within an operation: no Begin and no End
abbrev pub IsWithin : Call → Type 0
IsWithin (Tell (notes.Evict store driver key)) = Unit {0}
IsWithin (Tell note) = ⊥
IsWithin call = Unit {0}

-- a call that may be made with these slots, or an answer once all are closed
abbrev pub Allows : (ℕ → Bool) → Bool → Step → Type 0
Allows slots hurt (Ask call) = MayCall (seen_in slots hurt) call × IsWithin call
Allows slots hurt (Done answer) = (at : ℕ) → slots at ≡ false

-- a reply changes the slots, covers a failure, and leaves a call less
pub record Moves (slots : ℕ → Bool) (hurt : Bool) (left : ℕ) (call : Call) (reply : Reply) (slots' : ℕ → Bool) (hurt' : Bool) (left' : ℕ) : Type 0 where
  pub filled : (at : ℕ) → slots' at ≡ (seen_after (seen_in slots hurt) call reply).filled at
  pub covers : (seen_after (seen_in slots hurt) call reply).hurt ≡ true → hurt' ≡ true
  pub less : left' < left

-- a reply that the call has moves them so
abbrev pub Goes : (ℕ → Bool) → Bool → ℕ → Step → Reply → (ℕ → Bool) → Bool → ℕ → Type 0
Goes slots hurt left (Ask call) reply slots' hurt' left' = Answers true call reply → Moves slots hurt left call reply slots' hurt' left'
Goes slots hurt left (Done answer) reply slots' hurt' left' = Unit {0}

-- A machine of this seat may make these calls, with these replies and items, and then give this answer.
-- asks is what it wants next, asked the machine after that, and fed leads from it to a machine after a reply.
abbrev pub Runs : {M : Type 0} → (M → Step) → (M → M) → (M → Reply → M → Type 0) → Who → M → List Exchange → Answer → M → Type 0
Runs asks asked fed me m [] answer last = (asks m ≡ Done answer) × (last ≡ asked m)
Runs {M} asks asked fed me m (x ∷ xs) answer last =
    (asks m ≡ Ask x.call) × Answers true x.call x.reply × Makes me true x.call x.reply x.items × ((next : M) × fed (asked m) x.reply next × Runs asks asked fed me next xs answer last)

-- the items of all these
abbrev pub items_of_all : List Exchange → List LogItem
items_of_all xs = flat_map (λ x. x.items) xs

-- a call failed among these
abbrev pub SomeFailed : List Exchange → Type 0
SomeFailed [] = ⊥
SomeFailed (x ∷ xs) = (x.reply ≡ Failed) ⊎ SomeFailed xs

-- the count of faults never falls, and rose where a call failed
pub record Counts (before now : ℕ) (exchanges : List Exchange) : Type 0 where
  pub later : before ≤ now
  pub rose : SomeFailed exchanges → Rose before now

-- A machine was driven: its calls, at most so many, and what is told of them.
pub record Ran {M : Type 0} (asks : M → Step) (asked : M → M) (fed : M → Reply → M → Type 0) (most : ℕ) (me : Who) (first last : M) (old new : Option History) (before now : ℕ) (answer : Answer) : Type 0 where
  pub exchanges : List Exchange
  pub runs : Runs asks asked fed me first exchanges answer last
  pub within : length exchanges ≤ most
  pub counts : Counts before now exchanges
  pub told : Grows old new (Owns me (items_of_all exchanges))

-- ---- operations

-- what an operation ends with: the machine's answer, or want of memory in place of one that carries a list
abbrev pub IsEndOf : Answer → Answer → Type 0
IsEndOf given answer = (answer ≡ given) ⊎ ((answer ≡ NoMemory) × (IsSmall given → ⊥))

-- nothing was begun, for want of memory
pub record Refused (me : Who) (old new : Option History) (answer : Answer) : Type 0 where
  pub answer_is : answer ≡ NoMemory
  pub told : Grows old new (Owns me [])

-- begun, but there was no memory for a machine
pub record Unmade (me : Who) (request : Request) (old new : Option History) (answer : Answer) : Type 0 where
  pub answer_is : answer ≡ NoMemory
  pub told : Grows old new (OwnsToEnd me (Begin me request ∷ End me NoMemory ∷ []))

-- a whole operation of a machine that was made so, from its Begin to its End
pub record Operated {M : Type 0} (asks : M → Step) (asked : M → M) (fed : M → Reply → M → Type 0) (left : M → ℕ) (IsMade : M → Type 0) (me : Who) (request : Request) (old new : Option History) (before now : ℕ) (answer : Answer) : Type 0 where
  pub first : M
  pub last : M
  pub made : IsMade first
  pub given : Answer
  pub exchanges : List Exchange
  pub runs : Runs asks asked fed me first exchanges given last
  pub within : length exchanges ≤ left first
  pub counts : Counts before now exchanges
  pub answer_is : IsEndOf given answer
  pub told : Grows old new (OwnsToEnd me (Begin me request ∷ (items_of_all exchanges ++ End me answer ∷ [])))

-- a machine that has opened nothing, and none of whose calls has failed
pub record IsFresh (slots : ℕ → Bool) (hurt : Bool) : Type 0 where
  pub empty : (at : ℕ) → slots at ≡ false
