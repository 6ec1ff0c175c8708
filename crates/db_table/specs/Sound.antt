-- Files of which every row is true, and has an item that was put.
use Rattle.std.specs.Prelude.{ℕ, List}
use Rattle.cache_types.specs.declared.key.Key.{Key}
use Rattle.db_table.specs.Heads.{Agree}
use Rattle.db_table.specs.Rows.{HasRow, row_at}
use Rattle.db_table.specs.Truth.{IsTrueRow}
use Rattle.db_table.specs.Usable.{InOrder}

-- a row is true, and its item was put under the entry's key
pub record IsPutRow (was_put : Key → List ℕ → Type 0) (main index : List ℕ) (n : ℕ) : Type 0 where
  pub key : Key
  pub item : List ℕ
  pub is_true : IsTrueRow main (row_at index n) key item
  pub put : was_put key item

-- the rows are in the order of their entries, and each is true, and was put
pub record RowsAreSound (was_put : Key → List ℕ → Type 0) (main index : List ℕ) : Type 0 where
  pub order : InOrder index
  pub rows : (n : ℕ) → HasRow index n → IsPutRow was_put main index n

-- so it is where the heads agree
abbrev pub FilesAreSound : (Key → List ℕ → Type 0) → List ℕ → List ℕ → Type 0
FilesAreSound was_put main index = Agree main index → RowsAreSound was_put main index
