-- Rows of a database's index.
use Rattle.std.specs.Prelude.{◌≡◌, ◌<◌, ℕ, ◌^◌, List, ◌++◌}
use Rattle.std.specs.Int.{w32, w64, to_le_bytes}
use Rattle.cache_types.specs.declared.key.Key.{Key}
use Rattle.item_frame.specs.Refusals.{number_at}
use Rattle.db_format.specs.declared.row.IdxRow.{IdxRow}
use Rattle.db_format.specs.Numbers.{long_number, long_number_at}

-- a key's first eight bytes as a number
abbrev pub hash_of : Key → ℕ
hash_of key = long_number key.bytes

-- the hash, the item's length, the last access and the place of the entry
abbrev pub row_bytes : IdxRow → List ℕ
row_bytes row = to_le_bytes w64 row.hash ++ (to_le_bytes w32 row.size ++ (to_le_bytes w64 row.access ++ to_le_bytes w64 row.place))

-- the numbers of a row fit their bytes
pub record RowFits (row : IdxRow) : Type 0 where
  pub hash : row.hash < 2 ^ 64
  pub size : row.size < 2 ^ 32
  pub access : row.access < 2 ^ 64
  pub place : row.place < 2 ^ 64

-- the bytes are this row
pub record ReadsAsRow (bytes : List ℕ) (row : IdxRow) : Type 0 where
  pub fits : RowFits row
  pub whole : bytes ≡ row_bytes row

-- the row that some bytes are
abbrev pub row_of : List ℕ → IdxRow
row_of bytes = record {
  hash = long_number_at 0 bytes;
  size = number_at 8 bytes;
  access = long_number_at 12 bytes;
  place = long_number_at 20 bytes;
}
