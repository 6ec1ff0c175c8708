-- Which rows an index has, by its bytes.
use Rattle.std.proofs.Common.{◌≡◌, ℕ, zero, suc, ◌+◌, ◌-◌, ◌*◌, ◌/◌, ◌<◌, ◌≤◌, List, [], ◌∷◌, length, refl, ap, arith}
use Rattle.db_format.specs.declared.row.IdxRow.{IdxRow}
use Rattle.db_format.specs.Numbers.{part}
use Rattle.db_format.specs.Rows.{row_of}
use Rattle.db_table.specs.Rows.{row_count, HasRow, row_start, row_at, rows_from, rows_of}

-- a row is there where all of its bytes are
pub has_row : (index : List ℕ) (n : ℕ) → row_start n + 28 ≤ length index → HasRow index n
has_row index n whole = omega (arith, whole)

pub row_whole : (index : List ℕ) (n : ℕ) → HasRow index n → row_start n + 28 ≤ length index
row_whole index n has = omega (arith, has)

-- where the bytes of a row are the same, so is the row
pub same_row : (n : ℕ) (a b : List ℕ) → part (row_start n) 28 a ≡ part (row_start n) 28 b → row_at a n ≡ row_at b n
unfolding row_at
same_row n a b same = ap row_of same

length-rows_from : (index : List ℕ) (n count : ℕ) → length (rows_from index n count) ≡ count
unfolding rows_from
length-rows_from index n zero = refl
length-rows_from index n (suc count) = ap suc (length-rows_from index (n + 1) count)

pub length-rows_of : (index : List ℕ) → length (rows_of index) ≡ row_count index
length-rows_of index = length-rows_from index 0 (row_count index)
