-- Whether the rows of an index can be used, by their places alone, and where the last entry ends.
use Rattle.std.specs.Prelude.{ℕ, zero, suc, ◌+◌, ◌≤◌, ◌<◌, max, List, [], ◌∷◌, length}
use Rattle.db_format.specs.declared.row.IdxRow.{IdxRow}
use Rattle.db_table.specs.Heads.{Agree}
use Rattle.db_table.specs.Rows.{HasRow, row_at, row_count}
use Rattle.db_table.specs.Truth.{row_end}

-- each entry begins where the one of the row before ends, or later, and the first behind the head
pub record InOrder (index : List ℕ) : Type 0 where
  pub first : HasRow index 0 → 20 ≤ (row_at index 0).place
  pub next : (n : ℕ) → HasRow index (n + 1) → row_end (row_at index n) ≤ (row_at index (n + 1)).place

-- the heads agree, and each entry stands behind the one before and within the file
pub record IsUsable (main index : List ℕ) : Type 0 where
  pub agree : Agree main index
  pub order : InOrder index
  pub within : (n : ℕ) → HasRow index n → row_end (row_at index n) ≤ length main

-- the greatest end of the entries of so many rows, and the head's where there is none
unfoldable pub end_of : List ℕ → ℕ → ℕ
end_of index zero = 20
end_of index (suc n) = max (row_end (row_at index n)) (end_of index n)

-- the end of all entries
abbrev pub live_end : List ℕ → ℕ
live_end index = end_of index (row_count index)

-- ---- the same of rows that are looked at in pieces

-- the entries stand one behind another, the first at a place or later, and end within so many bytes
abbrev pub StandInOrder : ℕ → ℕ → List IdxRow → Type 0
StandInOrder len start [] = Unit {0}
StandInOrder len start (row ∷ rows) = (start ≤ row.place) × (row_end row ≤ len) × StandInOrder len (row_end row) rows

-- where the last of them ends
abbrev pub last_end : ℕ → List IdxRow → ℕ
last_end start [] = start
last_end start (row ∷ rows) = last_end (row_end row) rows
