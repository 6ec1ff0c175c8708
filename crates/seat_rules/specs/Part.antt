-- What the part of one layout gives: what its stores hold and give, its rules, and the places that answers are judged at.
use Rattle.std.specs.Prelude.{◌≡◌, ◌⊎◌, ℕ, true, List, ◌∷◌, ◌++◌}
use Rattle.cache_types.specs.Driver.{DriverKeys, IsDriver}
use Rattle.cache_types.specs.declared.key.Key.{Key}
use Rattle.cache_types.specs.declared.seat.Who.{Who}
use Rattle.cache_types.specs.declared.store.Layout.{Layout}
use Rattle.file_log.specs.declared.item.LogItem.{LogItem}
use Rattle.file_log.specs.Disk.{Disk}
use Rattle.file_log.specs.Effect.{applied}
use Rattle.file_log.specs.Log.{History, is_own, with_items, Quiet}
use Rattle.file_log.specs.State.{disk_of}
use Rattle.seat_rules.specs.Address.{Address, address_in}
use Rattle.seat_rules.specs.Changes.{with_item}
use Rattle.seat_rules.specs.Operations.{EvictIsOpen}

-- a store of the root has this blob for the driver and key, on the disk
abbrev pub Has : Type 1
Has = Disk → ℕ → DriverKeys → Key → List ℕ → Type 0

-- a place of an operation, in stores of this root: the items before it, its item, and the operation's items after it
abbrev pub Watch : Type 1
Watch = ℕ → Who → History → LogItem → List LogItem → Type 0

-- what the crate of one layout gives to the rules of all
pub record Part : Type 1 where
  -- the blob of the last row, and of some row
  pub holds : Has
  pub gives : Has
  -- a store of the root is within a put's limit
  pub fits : Disk → ℕ → ℕ → Type 0
  -- all that stands in its files was put
  pub whole : History → Type 0
  -- what an item of a seat keeps, beside the rules of all layouts
  pub keeps : History → LogItem → Who → Type 0
  -- where a miss is judged, and where Stored and Kept are
  pub miss_at : Watch
  pub well_at : Watch

-- a store has some blob
abbrev pub HasSome : Has → Disk → ℕ → DriverKeys → Key → Type 0
HasSome has d root driver key = (blob : List ℕ) × has d root driver key blob

-- a store of the part gives some blob
abbrev pub IsHeldBy : Part → Disk → ℕ → DriverKeys → Key → Type 0
IsHeldBy p d root driver key = HasSome p.gives d root driver key

-- every place is watched
abbrev pub anywhere : Watch
anywhere root who h item later = Unit {0}

-- A layout whose stores lose nothing at any item: while no process was stopped and no call failed, what was held is held, or the seat has an
-- open Evict of it.
abbrev pub LosesNothing : Layout → Has → History → LogItem → Who → Type 0
LosesNothing layout gives h item who = Quiet h.log → (root : ℕ) (driver : DriverKeys) (key : Key) → IsDriver driver → HasSome gives (disk_of h) root driver key
    → HasSome gives (applied (disk_of h) item) root driver key ⊎ EvictIsOpen h.log who (address_in layout root driver key)

-- the part of a layout that isn't built yet: its stores hold nothing, so there is nothing to keep
abbrev pub unbuilt_part : Part
unbuilt_part = record {
  holds = λ d root driver key blob. ⊥;
  gives = λ d root driver key blob. ⊥;
  fits = λ d root limit. Unit {0};
  whole = λ h. Unit {0};
  keeps = λ h item who. Unit {0};
  miss_at = anywhere;
  well_at = anywhere;
}

-- ---- watched places

-- after one of the seat's items at a watched place the disk is so
pub record After (watched : History → LogItem → List LogItem → Type 0) (Is : Disk → Type 0) (who : Who) (h : History) (made : List LogItem) : Type 0 where
  pub earlier : List LogItem
  pub item : LogItem
  pub later : List LogItem
  pub made_are : made ≡ earlier ++ item ∷ later
  pub mine : is_own who item ≡ true
  pub at_place : watched (with_items h earlier) item later
  pub so : Is (disk_of (with_item (with_items h earlier) item))

-- ---- the parts of all layouts

-- the part that each layout has
abbrev pub Parts : Type 1
Parts = Layout → Part

abbrev pub Holds : Parts → Disk → Address → List ℕ → Type 0
Holds parts d at blob = (parts at.store.layout).holds d at.store.root at.driver at.key blob

abbrev pub Gives : Parts → Disk → Address → List ℕ → Type 0
Gives parts d at blob = (parts at.store.layout).gives d at.store.root at.driver at.key blob

-- the store is within the limit
abbrev pub Fits : Parts → Disk → Address → ℕ → Type 0
Fits parts d at limit = (parts at.store.layout).fits d at.store.root limit

-- the store gives some blob
abbrev pub IsHeld : Parts → Disk → Address → Type 0
IsHeld parts d at = IsHeldBy (parts at.store.layout) d at.store.root at.driver at.key

abbrev pub miss_at : Parts → Address → Who → History → LogItem → List LogItem → Type 0
miss_at parts at who h item later = (parts at.store.layout).miss_at at.store.root who h item later

abbrev pub well_at : Parts → Address → Who → History → LogItem → List LogItem → Type 0
well_at parts at who h item later = (parts at.store.layout).well_at at.store.root who h item later
