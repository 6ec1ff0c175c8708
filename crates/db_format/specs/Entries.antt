-- Entries of a database's file: a head and an item.
use Rattle.std.specs.Prelude.{◌≡◌, ◌<◌, ℕ, ◌+◌, ◌^◌, ◌==◌, not, nat_lt, List, ◌++◌, length, take, Result, Ok, Err, if◌then◌else◌}
use Rattle.std.specs.Int.{w32, to_le_bytes}
use Rattle.cache_types.specs.declared.key.Key.{Key}
use Rattle.crc_small.specs.Sum.{Sum}
use Rattle.item_frame.specs.Refusals.{number_at}
use Rattle.db_format.specs.declared.entry.EntryHead.{EntryHead}
use Rattle.db_format.specs.declared.refusal.DbRefusal.{DbRefusal}
use Rattle.db_format.specs.declared.refusal.DbRefusal.TheVariants.{Short, BadSum}
use Rattle.db_format.specs.Numbers.{part}

-- the key, the item's sum and its length
abbrev pub entry_head_bytes : EntryHead → List ℕ
entry_head_bytes head = head.key.bytes ++ (to_le_bytes w32 head.sum ++ to_le_bytes w32 head.size)

-- the head of an item under a key
abbrev pub head_for : Key → List ℕ → EntryHead
head_for key item = record { key = key; sum = Sum item; size = length item }

-- the entry of an item under a key
abbrev pub entry_of : Key → List ℕ → List ℕ
entry_of key item = entry_head_bytes (head_for key item) ++ item

-- the bytes begin with an entry that has this head
pub record ReadsAsEntry (bytes : List ℕ) (head : EntryHead) : Type 0 where
  pub key : length head.key.bytes ≡ 20
  pub item : List ℕ
  pub fits : length item < 2 ^ 32
  pub head_is : head ≡ head_for head.key item
  pub rest : List ℕ
  pub whole : bytes ≡ entry_of head.key item ++ rest

-- ---- reading

abbrev pub sum_in : List ℕ → ℕ
sum_in bytes = number_at 20 bytes

abbrev pub size_in : List ℕ → ℕ
size_in bytes = number_at 24 bytes

-- so many bytes behind the head
abbrev pub item_in : List ℕ → List ℕ
item_in bytes = part 28 (size_in bytes) bytes

-- the head of the entry in front of the bytes, or the first thing that is wrong with them
unfoldable pub entry_at : List ℕ → Result EntryHead DbRefusal
entry_at bytes =
    if nat_lt (length bytes) 28 then Err Short
    else if nat_lt (length bytes) (28 + size_in bytes) then Err Short
    else if not (sum_in bytes == Sum (item_in bytes)) then Err BadSum
    else Ok (record { key = record { bytes = take 20 bytes }; sum = sum_in bytes; size = size_in bytes })
