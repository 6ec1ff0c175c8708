-- The rules of an item, whatever the layouts' parts.
use Rattle.std.specs.Prelude.{◌≡◌, ℕ, true, List, [], ◌∷◌, ◌++◌, Some}
use Rattle.std.specs.List.{list_any}
use Rattle.cache_types.specs.declared.answer.Answer.{Answer}
use Rattle.cache_types.specs.declared.answer.Answer.TheVariants as answers
use Rattle.cache_types.specs.declared.meta.Meta.{Meta}
use Rattle.cache_types.specs.declared.request.Request.{Request}
use Rattle.cache_types.specs.declared.request.Request.TheVariants as requests
use Rattle.cache_types.specs.declared.seat.Who.{Who}
use Rattle.cache_types.specs.declared.store.Layout.{Layout}
use Rattle.file_log.specs.declared.item.LogItem.{LogItem}
use Rattle.file_log.specs.declared.item.LogItem.TheVariants as items
use Rattle.file_log.specs.Log.{History, own, seat_of, Quiet}
use Rattle.file_log.specs.Operation.{is_fault}
use Rattle.file_log.specs.State.{disk_of}
use Rattle.seat_rules.specs.Address.{Address, address}
use Rattle.seat_rules.specs.Answers.{may_end, may_evict, is_too_large, root_of}
use Rattle.seat_rules.specs.Changes.{with_item}
use Rattle.seat_rules.specs.Operations.{IsInside, WasHeldOff}
use Rattle.seat_rules.specs.Places.{AtEach}
use Rattle.seat_rules.specs.Rules.{Shared}
use Rattle.seat_rules.specs.Part.{Parts, After, anywhere, Holds, Gives, Fits, IsHeld, miss_at, well_at}

-- What an answer says is so, of an operation with these items, that began after this history.
abbrev pub IsEarned : Parts → Type 0 → Who → History → List LogItem → Request → Answer → Type 0
IsEarned parts calm who h made (requests.Get store driver key ro) (answers.Hit blob) = After (anywhere store.root who) (λ d. Gives parts d (address store driver key) blob) who h made
IsEarned parts calm who h made (requests.Get store driver key ro) answers.Miss = calm → After (miss_at parts (address store driver key) who) (λ d. IsHeld parts d (address store driver key) → ⊥) who h made
IsEarned parts calm who h made (requests.Put store driver key meta blob limit) answers.Stored = After (well_at parts (address store driver key) who) (λ d. Holds parts d (address store driver key) blob × Fits parts d (address store driver key) limit) who h made
IsEarned parts calm who h made (requests.Put store driver key meta blob limit) answers.Kept = After (well_at parts (address store driver key) who) (λ d. IsHeld parts d (address store driver key)) who h made
IsEarned parts calm who h made (requests.Put store driver key meta blob limit) (answers.TooLarge n) = is_too_large blob n ≡ true
IsEarned parts calm who h made request answers.Busy = WasHeldOff who (root_of request) (disk_of h) made
IsEarned parts calm who h made request answers.FilesFault = list_any is_fault (own who made) ≡ true
IsEarned parts calm who h made request answer = Unit {0}

-- the seat is in an operation that the answer may end, and what it says of the operation's items is so
pub record EndsWell (parts : Parts) (h : History) (who : Who) (answer : Answer) : Type 0 where
  pub request : Request
  pub inside : IsInside h.log who request
  pub kind : may_end request answer ≡ true
  pub earned : IsEarned parts (Quiet h.log) who (record { start = h.start; log = inside.before }) (items.Begin who request ∷ (inside.since ++ items.End who answer ∷ [])) request answer

-- an operation begins where the seat is in none, evicts where it may, and ends well
abbrev pub AnswersAreEarned : Parts → History → LogItem → Type 0
AnswersAreEarned parts h (items.Begin who request) = (other : Request) → IsInside h.log who other → ⊥
AnswersAreEarned parts h (items.Evict who store driver key) = (request : Request) × IsInside h.log who request × (may_evict request ≡ true)
AnswersAreEarned parts h (items.End who answer) = EndsWell parts h who answer
AnswersAreEarned parts h item = Unit {0}

-- an item of this seat keeps the rules
pub record Conforms (parts : Parts) (h : History) (item : LogItem) (who : Who) : Type 0 where
  pub whole : (l : Layout) → (parts l).whole (with_item h item)
  pub shared : Shared h item who
  pub kept : (l : Layout) → (parts l).keeps h item who
  pub earned : AnswersAreEarned parts h item

-- the item keeps the rules, where it is a seat's
abbrev pub KeepsRules : Parts → History → LogItem → Type 0
KeepsRules parts h item = (who : Who) → seat_of item ≡ Some who → Conforms parts h item who

-- no place of the log breaks a rule
abbrev pub Cooperating : Parts → List LogItem → Type 0
Cooperating parts log = AtEach (KeepsRules parts) log

-- ---- within the limit

-- a put that stored its blob left the store within its limit, where its layout judges that
abbrev pub IsWithinLimit : Parts → History → LogItem → Type 0
IsWithinLimit parts h (items.End who answers.Stored) = (at : Address) (meta : Meta) (blob : List ℕ) (limit : ℕ) (i : IsInside h.log who (requests.Put at.store at.driver at.key meta blob limit))
    → After (well_at parts at who) (λ d. Fits parts d at limit) who (record { start = h.start; log = i.before }) (items.Begin who (requests.Put at.store at.driver at.key meta blob limit) ∷ (i.since ++ items.End who answers.Stored ∷ []))
IsWithinLimit parts h item = Unit {0}

-- each such put does
abbrev pub WithinLimit : Parts → List LogItem → Type 0
WithinLimit parts log = AtEach (IsWithinLimit parts) log
