-- What the rules ask of a log's past, carried along the log: the files that names have had, the puts that began, the open operations and Evicts.
use Rattle.std.specs.Prelude.{ℕ, ◌+◌, nat_le, Bool, true, false, not, ◌&&◌, ◌||◌, List, [], ◌∷◌, ◌++◌, filter, fold, Option, Some, None, Result, Ok, Err, if◌then◌else◌}
use Rattle.std.specs.List.{list_any}
use Rattle.cache_types.specs.Driver.{DriverKeys, blob_of}
use Rattle.cache_types.specs.Seats.{same_seat}
use Rattle.cache_types.specs.declared.key.Key.{Key}
use Rattle.cache_types.specs.declared.name.Name.{Name}
use Rattle.cache_types.specs.declared.name.Name.TheVariants as names
use Rattle.cache_types.specs.declared.request.Request.{Request}
use Rattle.cache_types.specs.declared.request.Request.TheVariants as requests
use Rattle.cache_types.specs.declared.seat.Who.{Who}
use Rattle.cache_types.specs.declared.store.Layout.{Layout}
use Rattle.cache_types.specs.declared.store.Layout.TheVariants.{Folder, Database, Foz}
use Rattle.file_log.specs.Disk.{Disk, file_of}
use Rattle.file_log.specs.Effect.{applied}
use Rattle.file_log.specs.Log.{is_own, is_rough}
use Rattle.file_log.specs.Operation.{is_fault}
use Rattle.file_log.specs.State.{State, first, after}
use Rattle.file_log.specs.declared.call.Call.{Call}
use Rattle.file_log.specs.declared.call.Call.TheVariants as calls
use Rattle.file_log.specs.declared.item.LogItem.{LogItem}
use Rattle.file_log.specs.declared.item.LogItem.TheVariants as items
use Rattle.file_log.specs.declared.reply.Reply.{Reply}
use Rattle.file_log.specs.declared.reply.Reply.TheVariants.{Done, Held}
use Rattle.item_frame.specs.Reading.{item_at}
use Rattle.item_frame.specs.declared.refusal.ItemRefusal.{ItemRefusal}
use Rattle.seat_rules.specs.Answers.{root_of}
use Rattle.seat_rules.specs.Address.{Address, address}
use Rattle.seat_rules.specs.Kinds.{is_lock_of}
use Rattle.seat_rules.specs.Operations.{is_file}

-- a put that began: its address and its blob
pub record BegunPut : Type 0 where
  pub at : Address
  pub blob : List ℕ

-- an Evict that is open, and whose it is
pub record OpenEvict : Type 0 where
  pub who : Who
  pub at : Address

-- An operation that a seat is in: what it was asked for; what its store gave after each of its items; whether a call of it failed, other than
-- for want of memory; by files, how often in a row another seat had the lock; and whether it was held off so 64 times.
pub record Operation : Type 0 where
  pub request : Request
  pub gave : List (Option (List ℕ))
  pub failed : Bool
  pub row : ℕ → ℕ
  pub held_off : Bool

-- What a log says at a place: the state of the disk and the queues; each name with each file that it has or had; the puts that began; the
-- operation that each seat is in; the open Evicts; whether a process was stopped or a call failed.
pub record Summary : Type 0 where
  pub state : State
  pub had : List (Name × ℕ)
  pub puts : List BegunPut
  pub inside : Who → Option Operation
  pub evicting : List OpenEvict
  pub rough : Bool

-- before any item, on an empty disk
abbrev pub nothing : Summary
nothing = record { state = first []; had = []; puts = []; inside = λ who. None; evicting = []; rough = false }

-- ---- what a store gives

-- the blob that was read, if it was
abbrev pub read_part : Result (List ℕ) ItemRefusal → Option (List ℕ)
read_part (Ok blob) = Some blob
read_part (Err refusal) = None

-- the blob that a file reads as for a driver
abbrev pub read_for : DriverKeys → Option (List ℕ) → Option (List ℕ)
read_for driver None = None
read_for driver (Some bytes) = read_part (item_at (blob_of driver) bytes)

-- the blob that a store of each layout gives
abbrev pub given_by : Layout → Disk → ℕ → DriverKeys → Key → Option (List ℕ)
given_by Folder d root driver key = read_for driver (file_of d (names.Entry root key))
given_by Database d root driver key = None
given_by Foz d root driver key = None

-- the blob that stands under an address
abbrev pub given : Disk → Address → Option (List ℕ)
given d at = given_by at.store.layout d at.store.root at.driver at.key

-- the blob that stands where a get or a put looks
abbrev pub given_for : Disk → Request → Option (List ℕ)
given_for d (requests.Get store driver key ro) = given d (address store driver key)
given_for d (requests.Put store driver key meta blob limit) = given d (address store driver key)
given_for d request = None

-- ---- an item more

-- the name that a new file gets, where the name had none
abbrev pub gained_new : Disk → Name → Option ℕ → List (Name × ℕ)
gained_new d name None = (name, d.count) ∷ []
gained_new d name (Some file) = []

-- the name that a file gets, if there is one
abbrev pub gained_old : Name → Option ℕ → List (Name × ℕ)
gained_old name None = []
gained_old name (Some file) = (name, file) ∷ []

-- the files that names get by a call with this reply
abbrev pub gained_by : Disk → Call → Reply → List (Name × ℕ)
gained_by d (calls.OpenNew slot name) Done = gained_new d name (d.names name)
gained_by d (calls.Rename from to) Done = gained_old to (d.names from)
gained_by d call reply = []

-- the list of read-only databases gets a new file, where it is set
abbrev pub gained_list : Disk → Option (List ℕ) → List (Name × ℕ)
gained_list d None = []
gained_list d (Some text) = (names.List, d.count) ∷ []

-- the files that names get by an item
abbrev pub gained : Disk → LogItem → List (Name × ℕ)
gained d (items.Did who call reply) = gained_by d call reply
gained d (items.Install root name main index) = (names.Ro root name, d.count) ∷ (names.RoIdx root name, d.count + 1) ∷ []
gained d (items.SetList text) = gained_list d text
gained d item = []

-- the put that a request asks for, if it is one
abbrev pub put_by : Request → List BegunPut
put_by (requests.Put store driver key meta blob limit) = record { at = address store driver key; blob = blob } ∷ []
put_by request = []

-- the put that an item begins
abbrev pub put_in : LogItem → List BegunPut
put_in (items.Begin who request) = put_by request
put_in item = []

-- an Evict is open up to its seat's next End
abbrev pub evicting_after : List OpenEvict → LogItem → List OpenEvict
evicting_after evicting (items.Evict who store driver key) = record { who = who; at = address store driver key } ∷ evicting
evicting_after evicting (items.End who answer) = filter (λ e. not (same_seat e.who who)) evicting
evicting_after evicting item = evicting

-- ---- an item more of an operation

-- another seat has the lock
abbrev pub is_held_reply : Reply → Bool
is_held_reply Held = true
is_held_reply reply = false

-- how often in a row another seat had each file's lock
abbrev pub row_after : (ℕ → ℕ) → Disk → LogItem → ℕ → ℕ
row_after row d (items.Did who (calls.TryLock slot) reply) file = if is_file file (d.slots who slot) then (if is_held_reply reply then row file + 1 else 0) else row file
row_after row d item file = row file

-- a name that is a lock of the root has this file
abbrev pub is_lock_file : List (Name × ℕ) → Disk → ℕ → ℕ → Bool
is_lock_file had d root file = list_any (λ p. is_lock_of root p.0 && is_file file (d.names p.0)) had

-- it was held off 63 times before, from the lock of this file
abbrev pub is_last_try : List (Name × ℕ) → Disk → ℕ → (ℕ → ℕ) → Option ℕ → Bool
is_last_try had d root row None = false
is_last_try had d root row (Some file) = nat_le 63 (row file) && is_lock_file had d root file

-- the item is the 64th try in a row for such a lock that is answered so
abbrev pub is_64th : List (Name × ℕ) → Disk → ℕ → (ℕ → ℕ) → LogItem → Bool
is_64th had d root row (items.Did who (calls.TryLock slot) Held) = is_last_try had d root row (d.slots who slot)
is_64th had d root row item = false

-- the operation after an item of its seat, on the disk before the item
abbrev pub goes_on : List (Name × ℕ) → Disk → LogItem → Operation → Operation
goes_on had d item o = record {
  request = o.request;
  gave = given_for (applied d item) o.request ∷ o.gave;
  failed = o.failed || is_fault item;
  row = row_after o.row d item;
  held_off = o.held_off || is_64th had d (root_of o.request) o.row item;
}

-- an operation that has just begun, on the disk after its Begin
abbrev pub begun : Disk → Request → Operation
begun d request = record { request = request; gave = given_for d request ∷ []; failed = false; row = λ file. 0; held_off = false }

-- the same of the operation that a seat is in, if it is in one
abbrev pub goes_on_if : List (Name × ℕ) → Disk → LogItem → Option Operation → Option Operation
goes_on_if had d item None = None
goes_on_if had d item (Some o) = Some (goes_on had d item o)

-- the operation of a seat after an item of its own
abbrev pub operation_after : List (Name × ℕ) → Disk → LogItem → Option Operation → Option Operation
operation_after had d (items.Begin who request) o = Some (begun d request)
operation_after had d (items.End who answer) o = None
operation_after had d item o = goes_on_if had d item o

-- ---- the whole

-- what the log says after one item more
abbrev pub summed : Summary → LogItem → Summary
summed s item = record {
  state = after s.state item;
  had = s.had ++ gained s.state.disk item;
  puts = s.puts ++ put_in item;
  inside = λ who. if is_own who item then operation_after s.had s.state.disk item (s.inside who) else s.inside who;
  evicting = evicting_after s.evicting item;
  rough = s.rough || is_rough item;
}

-- what a whole log says that begins on an empty disk
abbrev pub summary_of : List LogItem → Summary
summary_of log = fold summed nothing log
