-- A call, its reply, and the items that it makes.
use Rattle.std.specs.Prelude.{◌≡◌, ◌≤◌, ℕ, ◌+◌, nat_eq, Bool, true, false, List, [], ◌∷◌, ◌++◌, length, take, if◌then◌else◌}
use Rattle.cache_types.specs.Answers.{IsSmall}
use Rattle.cache_types.specs.declared.seat.Who.{Who}
use Rattle.file_log.specs.declared.call.Call.{Call}
use Rattle.file_log.specs.declared.call.Call.TheVariants as calls
use Rattle.file_log.specs.declared.item.LogItem.{LogItem}
use Rattle.file_log.specs.declared.item.LogItem.TheVariants as items
use Rattle.file_log.specs.declared.note.Note.{Note}
use Rattle.file_log.specs.declared.note.Note.TheVariants as notes
use Rattle.file_log.specs.declared.reply.Reply.{Reply}
use Rattle.file_log.specs.declared.reply.Reply.TheVariants as replies

-- ---- which replies a call has

abbrev pub MayBeDone : Call → Type 0
MayBeDone (calls.Length slot) = ⊥
MayBeDone (calls.ReadAt slot at n) = ⊥
MayBeDone (calls.ListFolder root byte) = ⊥
MayBeDone calls.Now = ⊥
MayBeDone call = Unit {0}

abbrev pub MayBeMissing : Call → Type 0
MayBeMissing (calls.OpenOld slot name) = Unit {0}
MayBeMissing call = ⊥

abbrev pub MayBeHeld : Call → Type 0
MayBeHeld (calls.TryLock slot) = Unit {0}
MayBeHeld call = ⊥

-- a reading gives at most as many bytes as were asked for
abbrev pub MayGet : Call → ℕ → Type 0
MayGet (calls.ReadAt slot at n) got = got ≤ n
MayGet call got = ⊥

abbrev pub MayNumber : Call → Type 0
MayNumber (calls.Length slot) = Unit {0}
MayNumber calls.Now = Unit {0}
MayNumber call = ⊥

abbrev pub MayList : Call → Type 0
MayList (calls.ListFolder root byte) = Unit {0}
MayList call = ⊥

-- a Close and a Tell never fail
abbrev pub MayFail : Call → Type 0
MayFail (calls.Close slot) = ⊥
MayFail (calls.Tell note) = ⊥
MayFail call = Unit {0}

-- the note may be refused memory: no End of an open operation is, where its answer carries no list
abbrev pub NoteMayLack : Bool → Note → Type 0
NoteMayLack true (notes.End answer) = IsSmall answer → ⊥
NoteMayLack inside note = Unit {0}

abbrev pub MayLack : Bool → Call → Type 0
MayLack inside (calls.Close slot) = ⊥
MayLack inside (calls.Tell note) = NoteMayLack inside note
MayLack inside call = Unit {0}

-- the replies that a call has, where an operation is open or not
abbrev pub Answers : Bool → Call → Reply → Type 0
Answers inside call replies.Done = MayBeDone call
Answers inside call replies.Missing = MayBeMissing call
Answers inside call replies.Held = MayBeHeld call
Answers inside call (replies.Got bytes) = MayGet call (length bytes)
Answers inside call (replies.Number n) = MayNumber call
Answers inside call (replies.Keys keys) = MayList call
Answers inside call replies.Failed = MayFail call
Answers inside call replies.NoMemory = MayLack inside call

-- ---- which items it makes

-- a note's item
abbrev pub item_of_note : Who → Note → LogItem
item_of_note me (notes.Begin request) = items.Begin me request
item_of_note me (notes.Evict store driver key) = items.Evict me store driver key
item_of_note me (notes.End answer) = items.End me answer

-- bytes written from a place on, one item each
abbrev pub byte_items : Who → ℕ → ℕ → List ℕ → List LogItem
byte_items me slot at [] = []
byte_items me slot at (value ∷ values) = items.Byte me slot at value ∷ byte_items me slot (at + 1) values

-- a call that is answered Done: a Tell makes its note's item, a write its bytes, or one Did where it has none, another call one Did
abbrev pub items_done : Who → Call → List LogItem
items_done me (calls.Tell note) = item_of_note me note ∷ []
items_done me (calls.WriteAt slot at bytes) = if nat_eq (length bytes) 0 then items.Did me (calls.WriteAt slot at bytes) replies.Done ∷ [] else byte_items me slot at bytes
items_done me call = items.Did me call replies.Done ∷ []

-- what a call has written before it failed: the first so many bytes of a write, and nothing else
abbrev pub items_before : Who → Call → ℕ → List LogItem
items_before me (calls.WriteAt slot at bytes) k = byte_items me slot at (take k bytes)
items_before me call k = []

-- within an operation a call that was refused memory makes an item that says so, but a Tell doesn't
abbrev pub items_refused : Who → Bool → Call → List LogItem
items_refused me inside (calls.Tell note) = []
items_refused me inside call = if inside then items.Failed me true ∷ [] else []

-- The items that a call with this reply makes. Where it failed a first part of its bytes is written.
abbrev pub Makes : Who → Bool → Call → Reply → List LogItem → Type 0
Makes me inside call replies.Done made = made ≡ items_done me call
Makes me inside call replies.Failed made = (k : ℕ) × (made ≡ items_before me call k ++ items.Failed me false ∷ [])
Makes me inside call replies.NoMemory made = (k : ℕ) × (made ≡ items_before me call k ++ items_refused me inside call)
Makes me inside call reply made = made ≡ items.Did me call reply ∷ []

-- a call, its reply, and the items that it made
pub record Exchange : Type 0 where
  pub call : Call
  pub reply : Reply
  pub items : List LogItem
