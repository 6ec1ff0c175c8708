-- What an operation that a seat is in has met so far, and which answers it has earned by that.
use Rattle.std.specs.Prelude.{◌≡◌, ℕ, ◌+◌, true, false, ◌&&◌, List, ◌∷◌, ◌++◌, replicate, Some}
use Rattle.std.specs.List.{list_any}
use Rattle.cache_types.specs.Driver.{DriverKeys}
use Rattle.cache_types.specs.declared.answer.Answer.TheVariants as answers
use Rattle.cache_types.specs.declared.key.Key.{Key}
use Rattle.cache_types.specs.declared.meta.Meta.{Meta}
use Rattle.cache_types.specs.declared.name.Name.{Name}
use Rattle.cache_types.specs.declared.request.Request.{Request}
use Rattle.cache_types.specs.declared.request.Request.TheVariants as requests
use Rattle.cache_types.specs.declared.request.RoPlan.{RoPlan}
use Rattle.cache_types.specs.declared.seat.Who.{Who}
use Rattle.cache_types.specs.declared.store.Store.{Store}
use Rattle.file_log.specs.Disk.{Disk}
use Rattle.file_log.specs.Log.{History, own, is_own}
use Rattle.file_log.specs.Operation.{is_fault}
use Rattle.file_log.specs.Seat.{course_of}
use Rattle.file_log.specs.State.{disk_of}
use Rattle.file_log.specs.declared.call.Call.TheVariants.{TryLock}
use Rattle.file_log.specs.declared.item.LogItem.{LogItem}
use Rattle.file_log.specs.declared.item.LogItem.TheVariants as items
use Rattle.file_log.specs.declared.reply.Reply.{Reply}
use Rattle.file_log.specs.declared.reply.Reply.TheVariants.{Held}
use Rattle.seat_rules.specs.Answers.{root_of, may_end, is_too_large}
use Rattle.seat_rules.specs.Changes.{with_item, disk_at}
use Rattle.seat_rules.specs.Address.{Address, address}
use Rattle.layout_rules.specs.Parts.{Gives, IsHeld}
use Rattle.seat_rules.specs.Kinds.{is_lock_of}
use Rattle.seat_rules.specs.Operations.{is_bound, IsInside, AfterOne, EvictIsOpen, tries, WasHeldOff}
use Rattle.layout_rules.specs.Rules.{AnswersAreEarned}

-- ---- what it has met

-- the seat is in an operation of this request, and after one of its items so far the disk was so
pub record HasSeen (h : History) (me : Who) (request : Request) (P : Disk → Type 0) : Type 0 where
  pub inside : IsInside h.log me request
  pub seen : AfterOne me P (disk_at h inside.before) (items.Begin me request ∷ inside.since)

-- a call of it failed, other than for want of memory
pub record HasFailed (h : History) (me : Who) (request : Request) : Type 0 where
  pub inside : IsInside h.log me request
  pub failed : list_any is_fault (own me (items.Begin me request ∷ inside.since)) ≡ true

-- its last tries for the lock of this file, so many in a row, were answered that another seat has it
pub record HasTried (h : History) (me : Who) (request : Request) (file k : ℕ) : Type 0 where
  pub inside : IsInside h.log me request
  pub earlier : List Reply
  pub all_held : tries me file (disk_at h inside.before) (items.Begin me request ∷ inside.since) ≡ earlier ++ replicate k Held

-- it was held off 64 times
pub record IsHeldOff (h : History) (me : Who) (request : Request) : Type 0 where
  pub inside : IsInside h.log me request
  pub held_off : WasHeldOff me (root_of request) (disk_at h inside.before) (items.Begin me request ∷ inside.since)

-- ---- an item more

-- no Begin and no End of the seat
abbrev pub IsWithin : Who → LogItem → Type 0
IsWithin me item = (is_own me item && is_bound item) ≡ false

-- what was met stays met, and what an item brings is met from then on
pub record Meets (me : Who) (request : Request) (h : History) (item : LogItem) : Type 0 where
  pub stays_inside : IsInside h.log me request → IsInside (with_item h item).log me request
  pub stays_failed : HasFailed h me request → HasFailed (with_item h item) me request
  pub fails : IsInside h.log me request → is_own me item ≡ true → is_fault item ≡ true → HasFailed (with_item h item) me request
  pub stays_tried : (file k : ℕ) → is_own me item ≡ false → HasTried h me request file k → HasTried (with_item h item) me request file k
  pub tries_again : (file k slot : ℕ) → item ≡ items.Did me (TryLock slot) Held → (disk_of h).slots me slot ≡ Some file → HasTried h me request file k → HasTried (with_item h item) me request file (k + 1)
  pub is_last : (file slot : ℕ) (name : Name) → item ≡ items.Did me (TryLock slot) Held → (disk_of h).slots me slot ≡ Some file → (disk_of h).names name ≡ Some file → is_lock_of (root_of request) name ≡ true → HasTried h me request file 63 → IsHeldOff (with_item h item) me request
  pub stays_held_off : IsHeldOff h me request → IsHeldOff (with_item h item) me request
  pub opens : (at : Address) → item ≡ items.Evict me at.store at.driver at.key → EvictIsOpen (with_item h item).log me at
  pub stays_open : (at : Address) → EvictIsOpen h.log me at → EvictIsOpen (with_item h item).log me at

-- so meets an operation the items that neither begin nor end one of its seat
abbrev pub OperationsMeet : Type 0
OperationsMeet = (h : History) (item : LogItem) (me : Who) (request : Request) → IsWithin me item → Meets me request h item

-- a seat that knows of no open operation is in none, so it may begin one
abbrev pub IdleMayBegin : Type 0
IdleMayBegin = (h : History) (me : Who) (request : Request) → (course_of me h.log).inside ≡ false → AnswersAreEarned h (items.Begin me request)

-- ---- its answer

-- what it has met earns these answers
pub record Earns (h : History) (me : Who) : Type 0 where
  pub hit : (store : Store) (driver : DriverKeys) (key : Key) (ro : RoPlan) (blob : List ℕ) → HasSeen h me (requests.Get store driver key ro) (λ d. Gives d (address store driver key) blob) → AnswersAreEarned h (items.End me (answers.Hit blob))
  pub miss : (store : Store) (driver : DriverKeys) (key : Key) (ro : RoPlan) → HasSeen h me (requests.Get store driver key ro) (λ d. IsHeld d (address store driver key) → ⊥) → AnswersAreEarned h (items.End me answers.Miss)
  pub stored : (store : Store) (driver : DriverKeys) (key : Key) (meta : Meta) (blob : List ℕ) (limit : ℕ) → HasSeen h me (requests.Put store driver key meta blob limit) (λ d. Gives d (address store driver key) blob) → AnswersAreEarned h (items.End me answers.Stored)
  pub kept : (store : Store) (driver : DriverKeys) (key : Key) (meta : Meta) (blob : List ℕ) (limit : ℕ) → HasSeen h me (requests.Put store driver key meta blob limit) (λ d. IsHeld d (address store driver key)) → AnswersAreEarned h (items.End me answers.Kept)
  pub too_large : (store : Store) (driver : DriverKeys) (key : Key) (meta : Meta) (blob : List ℕ) (limit n : ℕ) → IsInside h.log me (requests.Put store driver key meta blob limit) → is_too_large blob n ≡ true → AnswersAreEarned h (items.End me (answers.TooLarge n))
  pub busy : (request : Request) → may_end request answers.Busy ≡ true → IsHeldOff h me request → AnswersAreEarned h (items.End me answers.Busy)
  pub fault : (request : Request) → HasFailed h me request → AnswersAreEarned h (items.End me answers.FilesFault)
  pub no_memory : (request : Request) → IsInside h.log me request → AnswersAreEarned h (items.End me answers.NoMemory)

-- so earns its answer every operation
abbrev pub OperationsEarn : Type 0
OperationsEarn = (h : History) (me : Who) → Earns h me
