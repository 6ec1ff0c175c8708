-- What the part of a layout must satisfy, so that its stores are served. It speaks of no other part.
use Rattle.std.specs.Prelude.{◌≡◌, ℕ, true, List, [], ◌∷◌, ◌++◌, Some}
use Rattle.cache_types.specs.Driver.{DriverKeys, IsDriver}
use Rattle.cache_types.specs.declared.key.Key.{Key}
use Rattle.cache_types.specs.declared.seat.Who.{Who}
use Rattle.cache_types.specs.declared.store.Layout.{Layout}
use Rattle.file_log.specs.declared.item.LogItem.{LogItem}
use Rattle.file_log.specs.Along.{All}
use Rattle.file_log.specs.Disk.{Disk}
use Rattle.file_log.specs.Log.{History, WasPut, seat_of, is_own, with_items, Quiet}
use Rattle.file_log.specs.State.{disk_of}
use Rattle.seat_rules.specs.Address.{Address, store_in, address_in}
use Rattle.seat_rules.specs.Changes.{with_item}
use Rattle.seat_rules.specs.Operations.{EvictIsOpen}
use Rattle.seat_rules.specs.Part.{Part, IsHeldBy}
use Rattle.seat_rules.specs.Places.{past}
use Rattle.seat_rules.specs.Promises.{NoEvictOf}
use Rattle.seat_rules.specs.Rules.{Shared}

-- ---- parts of a log in which nothing of an address may go

-- no seat has an open Evict of the address
abbrev pub NoneOpen : List LogItem → Address → Type 0
NoneOpen log at = (who : Who) → EvictIsOpen log who at → ⊥

-- every item of the part of a log after this history keeps the rule, none is rough, and the address isn't evicted
pub record IsSafe (Rule : History → LogItem → Type 0) (at : Address) (h : History) (log : List LogItem) : Type 0 where
  pub driver : IsDriver at.driver
  pub keeps : All with_item Rule h log
  pub quiet : Quiet h.log
  pub smooth : Quiet log
  pub none_open : NoneOpen h.log at
  pub none_told : NoEvictOf at log

-- ---- what a part must satisfy

-- what an item keeps, as far as this part is concerned
abbrev pub PartRule : Part → History → LogItem → Type 0
PartRule p h item = (who : Who) → seat_of item ≡ Some who → Shared h item who × p.keeps h item who

-- Two watched places: one where an answer says that the address is held, and a later one where a miss is judged, with nothing evicted between.
pub record Stretch (l : Layout) (p : Part) (root : ℕ) (driver : DriverKeys) (key : Key) (h : History) (x : LogItem) (ys : List LogItem) (y : LogItem) : Type 0 where
  pub safe : IsSafe (PartRule p) (address_in l root driver key) h (x ∷ (ys ++ y ∷ []))
  pub by : Who
  pub its : is_own by x ≡ true
  pub later : List LogItem
  pub well : p.well_at root by h x later
  pub who : Who
  pub mine : is_own who y ≡ true
  pub further : List LogItem
  pub miss : p.miss_at root who (with_items (with_item h x) ys) y further

-- what is held at the one is held at the other
abbrev pub Lasts : Layout → Part → Type 0
Lasts l p = (root : ℕ) (driver : DriverKeys) (key : Key) (h : History) (x : LogItem) (ys : List LogItem) (y : LogItem) → Stretch l p root driver key h x ys y
    → IsHeldBy p (disk_of (with_item h x)) root driver key → IsHeldBy p (disk_of (with_item (with_items (with_item h x) ys) y)) root driver key

pub record IsServed (l : Layout) (p : Part) : Type 0 where
  -- the last row's blob is some row's
  pub held_given : (d : Disk) (root : ℕ) (driver : DriverKeys) (key : Key) (blob : List ℕ) → p.holds d root driver key blob → p.gives d root driver key blob
  -- where all that stands in its files was put by drivers that there can be, what it gives such a driver was put for it
  pub given_put : (log : List LogItem) (root : ℕ) (driver : DriverKeys) (key : Key) (blob : List ℕ) → p.whole (past log)
      → ((other : DriverKeys) (b : List ℕ) → WasPut log (store_in l root) other key b → IsDriver other) → IsDriver driver
      → p.gives (disk_of (past log)) root driver key blob → WasPut log (store_in l root) driver key blob
  pub lasts : Lasts l p
