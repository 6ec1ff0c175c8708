-- What a row says of the database's file, and whether it is so.
use Rattle.std.specs.Prelude.{◌≡◌, ℕ, ◌+◌, ◌≤◌, List, length}
use Rattle.cache_types.specs.declared.key.Key.{Key}
use Rattle.db_format.specs.declared.row.IdxRow.{IdxRow}
use Rattle.db_format.specs.Entries.{entry_of}
use Rattle.db_format.specs.Numbers.{part}
use Rattle.db_format.specs.Rows.{hash_of}

-- where a row's entry ends
abbrev pub row_end : IdxRow → ℕ
row_end row = row.place + (28 + row.size)

-- the entry that a row names is one of this item under this key, which has the row's hash, and no longer than the longest item
pub record IsTrueRow (main : List ℕ) (row : IdxRow) (key : Key) (item : List ℕ) : Type 0 where
  pub above : 20 ≤ row.place
  pub within : row_end row ≤ length main
  pub key_whole : length key.bytes ≡ 20
  pub hash : hash_of key ≡ row.hash
  pub size : length item ≡ row.size
  pub short : row.size ≤ 16779034
  pub entry : part row.place (28 + row.size) main ≡ entry_of key item
