-- Bytes that are read for whatever driver they are an item of.
use Rattle.std.specs.Prelude.{◌≡◌, ◌⊎◌, ℕ, Bool, nat_lt, List, length, Some, MatchBool}
use Rattle.cache_types.specs.Driver.{DriverKeys, blob_of, IsDriver, Fronts, HasNoFront}
use Rattle.item_frame.specs.declared.refusal.ItemRefusal.{ItemRefusal}
use Rattle.item_frame.specs.declared.refusal.ItemRefusal.TheVariants.{Short, OtherDriver, NoMemory}
use Rattle.item_frame.specs.Item.{IsItem}
use Rattle.item_frame.specs.Refusals.{first_refusal}

-- the bytes are an item of some driver
abbrev pub IsSomeItem : List ℕ → Type 0
IsSomeItem bytes = (d : DriverKeys) × IsDriver d × IsItem d bytes

-- no room for the shortest driver keys blob, of 12 bytes, and a type, a checksum and a size
abbrev pub is_below_any : List ℕ → Bool
is_below_any bytes = nat_lt (length bytes) 24

-- no driver's keys blob is in front, or this is the first that applies for the driver whose is
abbrev pub IsFirstByFront : List ℕ → ItemRefusal → Type 0
IsFirstByFront bytes refusal =
    (HasNoFront bytes × (refusal ≡ OtherDriver))
    ⊎ ((d : DriverKeys) × Fronts bytes d × (first_refusal (blob_of d) bytes ≡ Some refusal))

-- the first that applies, whatever the driver: too few bytes for any, then by what is in front
abbrev pub IsFirstOfAny : List ℕ → ItemRefusal → Type 0
IsFirstOfAny bytes refusal = MatchBool (is_below_any bytes) (refusal ≡ Short) (IsFirstByFront bytes refusal)

-- the bytes are no item of any driver, and this is the first thing that is wrong with them
abbrev pub IsWrongForAll : List ℕ → ItemRefusal → Type 0
IsWrongForAll bytes refusal = IsFirstOfAny bytes refusal × (IsSomeItem bytes → ⊥)

-- why nothing was read: memory ran out, or something is wrong with the bytes
abbrev pub IsRefusedForAll : List ℕ → ItemRefusal → Type 0
IsRefusedForAll bytes refusal = (refusal ≡ NoMemory) ⊎ IsWrongForAll bytes refusal
