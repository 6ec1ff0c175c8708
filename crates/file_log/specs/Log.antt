-- The log of all seats: whose each item is, and what stands in it.
use Rattle.std.specs.Prelude.{◌≡◌, ℕ, Bool, true, false, nat_eq, List, [], ◌∷◌, ◌++◌, filter, Option, Some, None}
use Rattle.std.specs.List.{Contains}
use Rattle.cache_types.specs.Driver.{DriverKeys}
use Rattle.cache_types.specs.Seats.{same_seat}
use Rattle.cache_types.specs.declared.key.Key.{Key}
use Rattle.cache_types.specs.declared.meta.Meta.{Meta}
use Rattle.cache_types.specs.declared.request.Request.TheVariants as requests
use Rattle.cache_types.specs.declared.seat.Who.{Who}
use Rattle.cache_types.specs.declared.store.Store.{Store}
use Rattle.file_log.specs.declared.item.LogItem.{LogItem}
use Rattle.file_log.specs.declared.item.LogItem.TheVariants as items
use Rattle.file_log.specs.Disk.{Start}

-- what was there at first, and what was done since
pub record History : Type 0 where
  pub start : Start
  pub log : List LogItem

-- a history with more items
abbrev pub with_items : History → List LogItem → History
with_items h news = record { start = h.start; log = h.log ++ news }

-- the seat whose item it is: a Queued, Stop, Install or SetList is no seat's
abbrev pub seat_of : LogItem → Option Who
seat_of (items.Taken who ticket) = Some who
seat_of (items.Begin who request) = Some who
seat_of (items.Did who call reply) = Some who
seat_of (items.Byte who slot at value) = Some who
seat_of (items.Failed who memory) = Some who
seat_of (items.Evict who store driver key) = Some who
seat_of (items.End who answer) = Some who
seat_of item = None

abbrev pub is_seat : Who → Option Who → Bool
is_seat me None = false
is_seat me (Some who) = same_seat me who

-- an item of this seat
abbrev pub is_own : Who → LogItem → Bool
is_own me item = is_seat me (seat_of item)

-- the items of a seat, in their order
abbrev pub own : Who → List LogItem → List LogItem
own me log = filter (is_own me) log

-- the last item is this seat's
abbrev pub EndsOwn : Who → List LogItem → Type 0
EndsOwn me log = (before : List LogItem) × (item : LogItem) × (log ≡ before ++ item ∷ []) × (is_own me item ≡ true)

-- the end of a process
abbrev pub is_stop : ℕ → LogItem → Bool
is_stop process (items.Stop other) = nat_eq process other
is_stop process item = false

-- no item stops the process
abbrev pub NoStop : ℕ → List LogItem → Type 0
NoStop process [] = Unit {0}
NoStop process (item ∷ log) = (is_stop process item ≡ false) × NoStop process log

-- a stop of a process, or a call that failed or was refused memory
abbrev pub is_rough : LogItem → Bool
is_rough (items.Stop process) = true
is_rough (items.Failed who memory) = true
is_rough item = false

-- no process was stopped, and no call failed
abbrev pub Quiet : List LogItem → Type 0
Quiet [] = Unit {0}
Quiet (item ∷ log) = (is_rough item ≡ false) × Quiet log

-- a blob was put in a store under a key and a driver: a Begin in the log asks for it
abbrev pub WasPut : List LogItem → Store → DriverKeys → Key → List ℕ → Type 0
WasPut log store driver key blob = (who : Who) × (meta : Meta) × (limit : ℕ) × Contains log (items.Begin who (requests.Put store driver key meta blob limit))
