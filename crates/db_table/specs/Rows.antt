-- The rows of an index: its whole groups of 28 bytes behind the head.
use Rattle.std.specs.Prelude.{ℕ, zero, suc, ◌+◌, ◌-◌, ◌*◌, ◌/◌, ◌<◌, List, [], ◌∷◌, length}
use Rattle.db_format.specs.declared.row.IdxRow.{IdxRow}
use Rattle.db_format.specs.Numbers.{part}
use Rattle.db_format.specs.Rows.{row_of}

-- how many there are: bytes of a last group that isn't whole are none
abbrev pub row_count : List ℕ → ℕ
row_count index = (length index - 20) / 28

-- the index has a row of this number, from 0
abbrev pub HasRow : List ℕ → ℕ → Type 0
HasRow index n = n < row_count index

-- where it begins
abbrev pub row_start : ℕ → ℕ
row_start n = 20 + 28 * n

-- the row itself
unfoldable pub row_at : List ℕ → ℕ → IdxRow
row_at index n = row_of (part (row_start n) 28 index)

-- so many rows, from a number on
unfoldable pub rows_from : List ℕ → ℕ → ℕ → List IdxRow
rows_from index n zero = []
rows_from index n (suc count) = row_at index n ∷ rows_from index (n + 1) count

-- all rows, in their order
abbrev pub rows_of : List ℕ → List IdxRow
rows_of index = rows_from index 0 (row_count index)
