-- Reading an item from left to right: the blob, or the first thing that is wrong.
use Rattle.std.specs.Prelude.{◌≡◌, ℕ, zero, suc, ◌+◌, ◌*◌, ◌/◌, ◌||◌, not, nat_lt, ◌==◌, List, [], ◌∷◌, length, take, drop, Result, Ok, Err, if◌then◌else◌, nat_eq}
use Rattle.std.specs.List.{starts_with}
use Rattle.std.specs.Int.{w32, from_le_bytes}
use Rattle.std.specs.Borrow.{Bor}
use Rattle.cache_types.specs.declared.limits.TheConstants.{KEY_LEN, MAX_KEYS, MAX_BLOB}
use Rattle.cache_types.specs.declared.key.Key.{Key}
use Rattle.cache_types.specs.declared.meta.Meta.{Meta}
use Rattle.cache_types.specs.declared.meta.Meta.TheVariants.{Unknown, Glsl}
use Rattle.crc_small.specs.Sum.{Sum}
use Rattle.item_frame.specs.declared.refusal.ItemRefusal.{ItemRefusal}
use Rattle.item_frame.specs.declared.refusal.ItemRefusal.TheVariants.{Short, OtherDriver, BadType, BadCount, BadSize, BadSum}

-- the number in the first four bytes
abbrev pub number : List ℕ → ℕ
number bytes = from_le_bytes w32 (take 4 bytes)

-- the blob, from the checksum on
unfoldable pub payload_at : List ℕ → Result (List ℕ) ItemRefusal
payload_at bytes =
    if not (number (drop 4 bytes) == length (drop 8 bytes)) || nat_lt MAX_BLOB (number (drop 4 bytes)) then Err BadSize
    else if not (number bytes == Sum (drop 8 bytes)) then Err BadSum
    else Ok (drop 8 bytes)

-- the blob, from the count on
unfoldable pub keys_at : List ℕ → Result (List ℕ) ItemRefusal
keys_at bytes =
    if nat_lt MAX_KEYS (number bytes) || nat_lt (length bytes) (12 + KEY_LEN * number bytes) then Err BadCount
    else payload_at (drop (4 + KEY_LEN * number bytes) bytes)

-- the blob, from the type on
unfoldable pub body_at : List ℕ → Result (List ℕ) ItemRefusal
body_at bytes =
    if number bytes == 0 then payload_at (drop 4 bytes)
    else if number bytes == 1 then keys_at (drop 4 bytes)
    else Err BadType

-- what stands behind this driver keys blob
unfoldable pub rest_at : List ℕ → List ℕ → Result (List ℕ) ItemRefusal
rest_at front bytes =
    if nat_lt (length bytes) (length front + 12) then Err Short
    else if not (starts_with nat_eq bytes front) then Err OtherDriver
    else Ok (drop (length front) bytes)

-- reading goes on where nothing is wrong
abbrev pub next_at : Result (List ℕ) ItemRefusal → (List ℕ → Result (List ℕ) ItemRefusal) → Result (List ℕ) ItemRefusal
next_at (Ok rest) read = read rest
next_at (Err refusal) read = Err refusal

-- the blob of an item with this driver keys blob
abbrev pub item_at : List ℕ → List ℕ → Result (List ℕ) ItemRefusal
item_at front bytes = next_at (rest_at front bytes) body_at

-- so many keys, one after another
unfoldable pub keys_from : ℕ → List ℕ → List Key
keys_from zero bytes = []
keys_from (suc n) bytes = record { bytes = take KEY_LEN bytes } ∷ keys_from n (drop KEY_LEN bytes)

-- all keys of some bytes
abbrev pub keys_in : List ℕ → List Key
keys_in bytes = keys_from (length bytes / KEY_LEN) bytes

-- the meta, from the type on
unfoldable pub meta_at : List ℕ → Meta
meta_at bytes =
    if number bytes == 0 then Unknown else Glsl (keys_in (take (KEY_LEN * number (drop 4 bytes)) (drop 8 bytes)))

-- a function gave what reading gives
abbrev pub Gives : Result (Bor (List ℕ)) ItemRefusal → Result (List ℕ) ItemRefusal → Type 0
Gives (Ok part) read = read ≡ Ok part.now
Gives (Err refusal) read = read ≡ Err refusal
