-- What each operation of a seat does, as the log tells it: few calls, all in its store's root, and at its End an answer of its request.
use Rattle.std.specs.Prelude.{◌≡◌, ◌⊎◌, ◌↔◌, ◌≤◌, ◌<◌, ℕ, nat_lt, true, List, length, take, slice_get, Some, if◌then◌else◌}
use Rattle.std.specs.List.{AllByRecursion, list_any}
use Rattle.cache_types.specs.declared.answer.Answer.{Answer}
use Rattle.cache_types.specs.declared.answer.Answer.TheVariants.{Busy, FilesFault, TooLarge, NoMemory}
use Rattle.cache_types.specs.declared.key.Key.{Key}
use Rattle.cache_types.specs.declared.limits.TheConstants.{MAX_BLOB}
use Rattle.cache_types.specs.declared.request.Request.{Request}
use Rattle.cache_types.specs.declared.request.Request.TheVariants as requests
use Rattle.cache_types.specs.declared.seat.Who.{Who}
use Rattle.file_log.specs.declared.item.LogItem.{LogItem}
use Rattle.file_log.specs.declared.item.LogItem.TheVariants as items
use Rattle.file_log.specs.Log.{is_own, own}
use Rattle.file_log.specs.Operation.{IsWithinRoot, calls_in, is_fault}
use Rattle.seat_rules.specs.Answers.{root_of}
use Rattle.seat_rules.specs.Operations.{IsInside}
use Rattle.folder_store.specs.Locking.{IsHeldOff}
use Rattle.folder_store.specs.Lookup.{IsLookupAnswer}
use Rattle.folder_store.specs.Put.{IsPutAnswer}
use Rattle.folder_store.specs.PutPhases.{most_put_calls}

-- ---- its calls

-- so many at most: none for a blob that is too large, and none for a request that isn't served
abbrev pub most_calls : Request → ℕ
most_calls (requests.Get store driver key ro) = 4
most_calls (requests.Put store driver key meta blob limit) = if nat_lt MAX_BLOB (length blob) then 0 else most_put_calls
most_calls request = 0

-- these items are of at most so many calls, all in its root
pub record AreFew (request : Request) (made : List LogItem) : Type 0 where
  pub few : calls_in made ≤ most_calls request
  pub within : AllByRecursion (IsWithinRoot (root_of request)) made

-- ---- its answer

-- what a lookup ends with: an answer of one, and a fault exactly where one of its calls failed other than for want of memory
pub record EndsLookup (answer : Answer) (made : List LogItem) : Type 0 where
  pub kind : IsLookupAnswer answer
  pub fault : (answer ≡ FilesFault) ↔ (list_any is_fault made ≡ true)

-- what a put under this key in this root ends with: an answer of one, a fault as a lookup's, and busy exactly where 64 tries in a row of the
-- lock of the key's folder found that another seat has it
pub record EndsPut (root : ℕ) (key : Key) (answer : Answer) (made : List LogItem) : Type 0 where
  pub kind : IsPutAnswer answer
  pub fault : (answer ≡ FilesFault) ↔ (list_any is_fault made ≡ true)
  pub busy : (answer ≡ Busy) ↔ IsHeldOff root key made

-- what a put of n bytes ends with, which are too many: that they are, or that there was no memory
abbrev pub EndsLarge : ℕ → Answer → Type 0
EndsLarge n answer = (answer ≡ TooLarge n) ⊎ (answer ≡ NoMemory)

-- an answer of the request, whose cause is among these items; a request that isn't served ends for want of memory alone
abbrev pub EndsFor : Request → Answer → List LogItem → Type 0
EndsFor (requests.Get store driver key ro) answer made = EndsLookup answer made
EndsFor (requests.Put store driver key meta blob limit) answer made = ((length blob ≤ MAX_BLOB) × EndsPut store.root key answer made) ⊎ ((MAX_BLOB < length blob) × EndsLarge (length blob) answer)
EndsFor request answer made = answer ≡ NoMemory

-- ---- at the places of a log

-- the seat is in no operation
abbrev pub IsInNone : Who → List LogItem → Type 0
IsInNone who log = (request : Request) → IsInside log who request → ⊥

-- its own items since the Begin of the operation that it is in, if it is in one, are few
abbrev pub AreFewAfter : Who → List LogItem → Type 0
AreFewAfter who log = (request : Request) (i : IsInside log who request) → AreFew request (own who i.since)

-- An own item fits there: the seat begins an operation and takes a job in none, makes calls in one alone, and ends one with an answer of
-- its request, whose cause is among its own items.
abbrev pub FitsAfter : Who → List LogItem → LogItem → Type 0
FitsAfter who log (items.Begin by request) = IsInNone who log
FitsAfter who log (items.Taken by ticket) = IsInNone who log
FitsAfter who log (items.End by answer) = (request : Request) × (i : IsInside log who request) × EndsFor request answer (own who i.since)
FitsAfter who log item = (request : Request) × IsInside log who request

-- so it is of the items before the place, also at the end of the log, and of an own item that stands there
pub record OperatesAt (who : Who) (log : List LogItem) (n : ℕ) : Type 0 where
  pub few : AreFewAfter who (take n log)
  pub fits : (item : LogItem) → slice_get log n ≡ Some item → is_own who item ≡ true → FitsAfter who (take n log) item

-- each operation of the seat is so
abbrev pub Operates : Who → List LogItem → Type 0
Operates who log = (n : ℕ) → OperatesAt who log n
