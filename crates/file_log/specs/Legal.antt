-- Which logs can be.
use Rattle.std.specs.Prelude.{◌≡◌, ◌⊎◌, ◌↔◌, ℕ, ◌<◌, Bool, true, false, not, List, [], ◌∷◌, length, take, drop, get_or, Option, Some, None, IsSome, IsSomeAnd}
use Rattle.std.specs.List.{Contains}
use Rattle.cache_types.specs.Driver.{IsDriver}
use Rattle.cache_types.specs.Seats.{same_seat}
use Rattle.cache_types.specs.declared.key.Key.{Key}
use Rattle.cache_types.specs.declared.name.Name.TheVariants as names
use Rattle.cache_types.specs.declared.request.Request.{Request}
use Rattle.cache_types.specs.declared.request.Request.TheVariants as requests
use Rattle.cache_types.specs.declared.seat.Who.{Who}
use Rattle.file_log.specs.declared.call.Call.{Call}
use Rattle.file_log.specs.declared.call.Call.TheVariants as calls
use Rattle.file_log.specs.declared.reply.Reply.{Reply}
use Rattle.file_log.specs.declared.reply.Reply.TheVariants as replies
use Rattle.file_log.specs.declared.ticket.Ticket.{Ticket}
use Rattle.file_log.specs.declared.item.LogItem.{LogItem}
use Rattle.file_log.specs.declared.item.LogItem.TheVariants as items
use Rattle.file_log.specs.Disk.{Disk, Lock, bytes_at, lock_in}
use Rattle.file_log.specs.Fits.{AreBytes, IsKey, CallFits, RequestFits, TextFits}
use Rattle.file_log.specs.Log.{seat_of}
use Rattle.file_log.specs.Along.{All}
use Rattle.file_log.specs.State.{State, after}

-- ---- replies

-- the slot is one of eight, and empty
pub record IsFree (d : Disk) (who : Who) (slot : ℕ) : Type 0 where
  pub small : slot < 8
  pub empty : d.slots who slot ≡ None

-- the slot is one of eight, and filled
pub record IsOpen (d : Disk) (who : Who) (slot : ℕ) : Type 0 where
  pub small : slot < 8
  pub filled : IsSome (d.slots who slot)

-- another seat has the lock
abbrev pub is_held : Who → Option Lock → Bool
is_held who None = false
is_held who (Some lock) = not (same_seat who lock.who)

-- another seat has the lock of the slot's file
abbrev pub is_slot_held : Disk → Who → ℕ → Bool
is_slot_held d who slot = is_held who (lock_in d (d.slots who slot))

-- one list of numbers stands before another, as words in a dictionary
abbrev pub ComesBefore : List ℕ → List ℕ → Type 0
ComesBefore [] [] = ⊥
ComesBefore [] (b ∷ bs) = Unit {0}
ComesBefore (a ∷ as') [] = ⊥
ComesBefore (a ∷ as') (b ∷ bs) = (a < b) ⊎ ((a ≡ b) × ComesBefore as' bs)

-- keys in ascending order, each once
abbrev pub AreAscending : List Key → Type 0
AreAscending [] = Unit {0}
AreAscending (key ∷ []) = Unit {0}
AreAscending (key ∷ next ∷ keys) = ComesBefore key.bytes next.bytes × AreAscending (next ∷ keys)

-- the keys of all entries in a folder, ascending
pub record IsListing (d : Disk) (root byte : ℕ) (keys : List Key) : Type 0 where
  pub ascending : AreAscending keys
  pub exact : (key : Key) → Contains keys key ↔ (IsSome (d.names (names.Entry root key)) × (get_or key.bytes 0 0 ≡ byte))

-- a call that makes one item can be made on this disk and be answered Done; a write only where it is empty
abbrev pub IsDone : Disk → Who → Call → Type 0
IsDone d who (calls.OpenOld slot name) = IsFree d who slot × IsSome (d.names name)
IsDone d who (calls.OpenNew slot name) = IsFree d who slot
IsDone d who (calls.TryLock slot) = IsOpen d who slot × (is_slot_held d who slot ≡ false)
IsDone d who (calls.WriteAt slot at bytes) = IsOpen d who slot × (bytes ≡ [])
IsDone d who (calls.Cut slot n) = IsOpen d who slot
IsDone d who (calls.Rename from to) = Unit {0}
IsDone d who (calls.Remove name) = Unit {0}
IsDone d who calls.Pause = Unit {0}
IsDone d who (calls.Close slot) = IsOpen d who slot
IsDone d who call = ⊥

abbrev pub IsMissing : Disk → Who → Call → Type 0
IsMissing d who (calls.OpenOld slot name) = IsFree d who slot × (d.names name ≡ None)
IsMissing d who call = ⊥

abbrev pub IsHeld : Disk → Who → Call → Type 0
IsHeld d who (calls.TryLock slot) = IsOpen d who slot × (is_slot_held d who slot ≡ true)
IsHeld d who call = ⊥

-- the bytes from a place on: n of them, or all up to the file's end
abbrev pub IsGot : Disk → Who → Call → List ℕ → Type 0
IsGot d who (calls.ReadAt slot at n) bytes = IsOpen d who slot × IsSomeAnd (bytes_at d who slot) (λ whole. bytes ≡ take n (drop at whole))
IsGot d who call bytes = ⊥

abbrev pub IsNumber : Disk → Who → Call → ℕ → Type 0
IsNumber d who (calls.Length slot) n = IsOpen d who slot × IsSomeAnd (bytes_at d who slot) (λ whole. n ≡ length whole)
IsNumber d who calls.Now n = Unit {0}
IsNumber d who call n = ⊥

abbrev pub IsKeys : Disk → Who → Call → List Key → Type 0
IsKeys d who (calls.ListFolder root byte) keys = IsListing d root byte keys
IsKeys d who call keys = ⊥

-- the call can be made on this disk, makes one item, and has this reply
abbrev pub IsReply : Disk → Who → Call → Reply → Type 0
IsReply d who call replies.Done = IsDone d who call
IsReply d who call replies.Missing = IsMissing d who call
IsReply d who call replies.Held = IsHeld d who call
IsReply d who call (replies.Got bytes) = IsGot d who call bytes
IsReply d who call (replies.Number n) = IsNumber d who call n
IsReply d who call (replies.Keys keys) = IsKeys d who call keys
IsReply d who call replies.Failed = ⊥
IsReply d who call replies.NoMemory = ⊥

-- ---- items

abbrev pub IsPut : Request → Type 0
IsPut (requests.Put store driver key meta blob limit) = Unit {0}
IsPut request = ⊥

abbrev pub IsFront : List Ticket → Ticket → Type 0
IsFront [] ticket = ⊥
IsFront (front ∷ tickets) ticket = front ≡ ticket

-- a process that goes on, with room in its queue, puts a job under a new ticket
pub record MayQueue (s : State) (process : ℕ) (ticket : Ticket) (request : Request) : Type 0 where
  pub alive : s.halted process ≡ false
  pub room : length (s.waiting process) < 32
  pub new : Contains (s.used process) ticket → ⊥
  pub put : IsPut request
  pub fits : RequestFits request

-- its process goes on
abbrev pub IsAlive : State → Option Who → Type 0
IsAlive s None = Unit {0}
IsAlive s (Some who) = s.halted who.process ≡ false

-- a byte goes into a filled slot's file
pub record MayWrite (d : Disk) (who : Who) (slot value : ℕ) : Type 0 where
  pub is_open : IsOpen d who slot
  pub byte : value < 256

-- names of a read-only database come with new files
pub record MayInstall (d : Disk) (root : ℕ) (name main index : List ℕ) : Type 0 where
  pub main_absent : d.names (names.Ro root name) ≡ None
  pub index_absent : d.names (names.RoIdx root name) ≡ None
  pub main_fits : AreBytes main
  pub index_fits : AreBytes index

abbrev pub CanCome : State → LogItem → Type 0
CanCome s (items.Queued process ticket request) = MayQueue s process ticket request
CanCome s (items.Taken who ticket) = IsFront (s.waiting who.process) ticket
CanCome s (items.Begin who request) = RequestFits request
CanCome s (items.Did who call reply) = IsReply s.disk who call reply × CallFits call
CanCome s (items.Byte who slot at value) = MayWrite s.disk who slot value
CanCome s (items.Evict who store driver key) = IsDriver driver × IsKey key
CanCome s (items.Install root name main index) = MayInstall s.disk root name main index
CanCome s (items.SetList text) = TextFits text
CanCome s item = Unit {0}

-- the item can come at this place
abbrev pub IsLegal : State → LogItem → Type 0
IsLegal s item = IsAlive s (seat_of item) × CanCome s item

-- the items can come one after another
abbrev pub Legal : State → List LogItem → Type 0
Legal s log = All after IsLegal s log
