-- What a seat's own items show of the files that it opened. All lists here are of one seat's items, in their order.
use Rattle.std.specs.Prelude.{◌≡◌, ℕ, nat_eq, Bool, false, List, [], ◌∷◌, ◌++◌}
use Rattle.std.specs.List.{list_any}
use Rattle.cache_types.specs.Driver.{DriverKeys}
use Rattle.cache_types.specs.declared.key.Key.{Key}
use Rattle.cache_types.specs.declared.name.Name.{Name}
use Rattle.cache_types.specs.declared.name.Name.TheVariants.{Entry}
use Rattle.cache_types.specs.declared.seat.Who.{Who}
use Rattle.file_log.specs.declared.call.Call.TheVariants.{OpenOld, OpenNew, Length, ReadAt, Close}
use Rattle.file_log.specs.declared.item.LogItem.{LogItem}
use Rattle.file_log.specs.declared.item.LogItem.TheVariants as items
use Rattle.file_log.specs.declared.reply.Reply.TheVariants.{Done, Got, Number}
use Rattle.item_frame.specs.Item.{IsItem}

-- ---- what is open

-- the item opens the file of this name in this slot
abbrev pub Opens : ℕ → Name → LogItem → Type 0
Opens slot name (items.Did who (OpenOld other named) Done) = (other ≡ slot) × (named ≡ name)
Opens slot name (items.Did who (OpenNew other named) Done) = (other ≡ slot) × (named ≡ name)
Opens slot name item = ⊥

-- the item gives the slot a file, or takes it away
abbrev pub is_moved : ℕ → LogItem → Bool
is_moved slot (items.Did who (OpenOld other name) Done) = nat_eq slot other
is_moved slot (items.Did who (OpenNew other name) Done) = nat_eq slot other
is_moved slot (items.Did who (Close other) Done) = nat_eq slot other
is_moved slot item = false

-- meanwhile the slot keeps its file
abbrev pub Meanwhile : ℕ → List LogItem → Type 0
Meanwhile slot made = list_any (is_moved slot) made ≡ false

-- after these items the slot has the file that this name had when the seat opened it
pub record HasOpen (slot : ℕ) (name : Name) (made : List LogItem) : Type 0 where
  pub before : List LogItem
  pub opening : LogItem
  pub since : List LogItem
  pub made_are : made ≡ before ++ opening ∷ since
  pub opens : Opens slot name opening
  pub meanwhile : Meanwhile slot since

-- ---- what was read

-- the whole file in the slot was read: its length was told, then so many bytes were asked for from its front, and these were got
pub record Yields (slot : ℕ) (bytes : List ℕ) (made : List LogItem) : Type 0 where
  pub who : Who
  pub n : ℕ
  pub between : List LogItem
  pub made_are : made ≡ items.Did who (Length slot) (Number n) ∷ (between ++ items.Did who (ReadAt slot 0 n) (Got bytes) ∷ [])
  pub meanwhile : Meanwhile slot between

-- the key's entry was opened and read, and what was read is an item of the driver
pub record ReadsItem (root : ℕ) (driver : DriverKeys) (key : Key) (made : List LogItem) : Type 0 where
  pub before : List LogItem
  pub reading : List LogItem
  pub later : List LogItem
  pub made_are : made ≡ before ++ (reading ++ later)
  pub slot : ℕ
  pub entry : HasOpen slot (Entry root key) before
  pub bytes : List ℕ
  pub yields : Yields slot bytes reading
  pub item : IsItem driver bytes
