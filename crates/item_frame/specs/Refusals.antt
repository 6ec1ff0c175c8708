-- What can be wrong with bytes that are read as an item. `front` is the driver keys blob.
use Rattle.std.specs.Prelude.{ℕ, ◌+◌, ◌*◌, ◌==◌, Bool, not, ◌&&◌, ◌||◌, nat_eq, nat_lt, List, length, drop, Option, Some, None, if◌then◌else◌, ◌≡◌, ◌⊎◌}
use Rattle.std.specs.List.{starts_with}
use Rattle.cache_types.specs.declared.limits.TheConstants.{KEY_LEN, MAX_KEYS, MAX_BLOB}
use Rattle.cache_types.specs.Driver.{DriverKeys, blob_of}
use Rattle.crc_small.specs.Sum.{Sum}
use Rattle.item_frame.specs.declared.refusal.ItemRefusal.{ItemRefusal}
use Rattle.item_frame.specs.declared.refusal.ItemRefusal.TheVariants.{Short, OtherDriver, BadType, BadCount, BadSize, BadSum, NoMemory}
use Rattle.item_frame.specs.Item.{IsItem}
use Rattle.item_frame.specs.Reading.{number}

-- ---- where the fields stand

-- the number in the four bytes at a place
abbrev pub number_at : ℕ → List ℕ → ℕ
number_at place bytes = number (drop place bytes)

-- the type stands behind the driver keys blob
abbrev pub type_of : List ℕ → List ℕ → ℕ
type_of front bytes = number_at (length front) bytes

-- the count of the keys, which only type 1 has, stands behind the type
abbrev pub count_of : List ℕ → List ℕ → ℕ
count_of front bytes = number_at (length front + 4) bytes

-- the place of the checksum: behind the keys, or for type 0 behind the type
abbrev pub sum_place : List ℕ → List ℕ → ℕ
sum_place front bytes =
    if type_of front bytes == 1 then length front + 8 + KEY_LEN * count_of front bytes else length front + 4

abbrev pub sum_of : List ℕ → List ℕ → ℕ
sum_of front bytes = number_at (sum_place front bytes) bytes

-- the size stands behind the checksum
abbrev pub size_of : List ℕ → List ℕ → ℕ
size_of front bytes = number_at (sum_place front bytes + 4) bytes

-- the bytes after the size
abbrev pub after_size : List ℕ → List ℕ → List ℕ
after_size front bytes = drop (sum_place front bytes + 8) bytes

-- ---- what can be wrong with them

-- no room for the driver keys blob, a type, a checksum and a size
abbrev pub is_short : List ℕ → List ℕ → Bool
is_short front bytes = nat_lt (length bytes) (length front + 12)

-- the first bytes aren't the driver keys blob
abbrev pub has_other_driver : List ℕ → List ℕ → Bool
has_other_driver front bytes = not (starts_with nat_eq bytes front)

-- the type is neither 0 nor 1
abbrev pub has_bad_type : List ℕ → List ℕ → Bool
has_bad_type front bytes = not (type_of front bytes == 0) && not (type_of front bytes == 1)

-- the type is 1, and there are too many keys, or no room for them, a checksum and a size
abbrev pub has_bad_count : List ℕ → List ℕ → Bool
has_bad_count front bytes =
    type_of front bytes == 1
    && (nat_lt MAX_KEYS (count_of front bytes) || nat_lt (length bytes) (length front + 16 + KEY_LEN * count_of front bytes))

-- the size isn't the number of bytes after it, or is too large
abbrev pub has_bad_size : List ℕ → List ℕ → Bool
has_bad_size front bytes = not (size_of front bytes == length (after_size front bytes)) || nat_lt MAX_BLOB (size_of front bytes)

-- the checksum isn't the CRC-32 of the bytes after the size
abbrev pub has_bad_sum : List ℕ → List ℕ → Bool
has_bad_sum front bytes = not (sum_of front bytes == Sum (after_size front bytes))

-- the first of them that applies
abbrev pub first_refusal : List ℕ → List ℕ → Option ItemRefusal
first_refusal front bytes =
    if is_short front bytes then Some Short
    else if has_other_driver front bytes then Some OtherDriver
    else if has_bad_type front bytes then Some BadType
    else if has_bad_count front bytes then Some BadCount
    else if has_bad_size front bytes then Some BadSize
    else if has_bad_sum front bytes then Some BadSum
    else None

-- the bytes are no item of the driver, and this is the first thing that is wrong with them
abbrev pub IsWrong : DriverKeys → List ℕ → ItemRefusal → Type 0
IsWrong d bytes refusal = (first_refusal (blob_of d) bytes ≡ Some refusal) × (IsItem d bytes → ⊥)

-- why nothing was read: memory ran out, or something is wrong with the bytes
abbrev pub IsRefused : DriverKeys → List ℕ → ItemRefusal → Type 0
IsRefused d bytes refusal = (refusal ≡ NoMemory) ⊎ IsWrong d bytes refusal
