-- Operations of a seat, from a Begin to its next End, and what stands in them.
use Rattle.std.specs.Prelude.{◌≡◌, ◌⊎◌, ℕ, Bool, true, false, ◌&&◌, nat_eq, List, [], ◌∷◌, ◌++◌, fold, replicate, Option, Some, None, if◌then◌else◌}
use Rattle.cache_types.specs.declared.name.Name.{Name}
use Rattle.cache_types.specs.declared.request.Request.{Request}
use Rattle.cache_types.specs.declared.seat.Who.{Who}
use Rattle.file_log.specs.declared.call.Call.TheVariants.{TryLock}
use Rattle.file_log.specs.declared.item.LogItem.{LogItem}
use Rattle.file_log.specs.declared.item.LogItem.TheVariants as items
use Rattle.file_log.specs.declared.reply.Reply.{Reply}
use Rattle.file_log.specs.declared.reply.Reply.TheVariants.{Held}
use Rattle.file_log.specs.Disk.{Disk}
use Rattle.file_log.specs.Effect.{applied}
use Rattle.file_log.specs.Log.{is_own}
use Rattle.seat_rules.specs.Address.{Address}
use Rattle.seat_rules.specs.Kinds.{is_lock_of}

-- ---- from a Begin to the next End

-- a Begin or an End
abbrev pub is_bound : LogItem → Bool
is_bound (items.Begin who request) = true
is_bound (items.End who answer) = true
is_bound item = false

-- no operation of the seat begins or ends in these items
abbrev pub GoesOn : Who → List LogItem → Type 0
GoesOn who [] = Unit {0}
GoesOn who (item ∷ log) = (is_own who item && is_bound item ≡ false) × GoesOn who log

-- The seat is in an operation: it began it with this request, and has not ended it since.
pub record IsInside (log : List LogItem) (who : Who) (request : Request) : Type 0 where
  pub before : List LogItem
  pub since : List LogItem
  pub log_is : log ≡ before ++ items.Begin who request ∷ since
  pub goes_on : GoesOn who since

-- after one of the seat's items, the first of which comes on this disk, the disk is so
abbrev pub AfterOne : Who → (Disk → Type 0) → Disk → List LogItem → Type 0
AfterOne who P d [] = ⊥
AfterOne who P d (item ∷ log) = ((is_own who item ≡ true) × P (applied d item)) ⊎ AfterOne who P (applied d item) log

-- ---- evictions

-- an End of this seat
abbrev pub is_end_of : Who → LogItem → Bool
is_end_of me (items.End who answer) = is_own me (items.End who answer)
is_end_of me item = false

-- the seat ends no operation in these items
abbrev pub NoEndOf : Who → List LogItem → Type 0
NoEndOf me [] = Unit {0}
NoEndOf me (item ∷ log) = (is_end_of me item ≡ false) × NoEndOf me log

-- the seat's Evict of the address is open: it has told that what is held there goes, and no End since
pub record EvictIsOpen (log : List LogItem) (who : Who) (at : Address) : Type 0 where
  pub before : List LogItem
  pub later : List LogItem
  pub log_is : log ≡ before ++ items.Evict who at.store at.driver at.key ∷ later
  pub is_open : NoEndOf who later

-- ---- tries for a lock

-- the slot has this file
abbrev pub is_file : ℕ → Option ℕ → Bool
is_file file None = false
is_file file (Some other) = nat_eq other file

-- the reply to a try of the seat for the lock of this file, if the item is one
abbrev pub tried : Who → ℕ → Disk → LogItem → List Reply
tried who file d (items.Did by (TryLock slot) reply) = if is_own who (items.Did by (TryLock slot) reply) && is_file file (d.slots by slot) then reply ∷ [] else []
tried who file d item = []

-- the replies to the seat's tries for it, in their order
abbrev pub tries : Who → ℕ → Disk → List LogItem → List Reply
tries who file d [] = []
tries who file d (item ∷ log) = tried who file d item ++ tries who file (applied d item) log

-- The seat was held off: at one of these items it had tried 64 times in a row for the lock of one file, named as a lock of the root, and had found each time that another seat has it.
pub record WasHeldOff (who : Who) (root : ℕ) (d : Disk) (made : List LogItem) : Type 0 where
  pub before : List LogItem
  pub slot : ℕ
  pub later : List LogItem
  pub made_are : made ≡ before ++ items.Did who (TryLock slot) Held ∷ later
  pub file : ℕ
  pub has_file : (fold applied d before).slots who slot ≡ Some file
  pub name : Name
  pub is_lock : is_lock_of root name ≡ true
  pub named : (fold applied d before).names name ≡ Some file
  pub earlier : List Reply
  pub all_held : tries who file d before ≡ earlier ++ replicate 63 Held
