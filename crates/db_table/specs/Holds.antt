-- Which blob the two files of a database have for a driver and a key.
use Rattle.std.specs.Prelude.{ℕ, ◌<◌, List}
use Rattle.cache_types.specs.Driver.{DriverKeys}
use Rattle.cache_types.specs.declared.key.Key.{Key}
use Rattle.item_frame.specs.Item.{Reads}
use Rattle.db_table.specs.Heads.{Agree}
use Rattle.db_table.specs.Rows.{HasRow, row_at}
use Rattle.db_table.specs.Truth.{IsTrueRow}

-- the index has a row of this number, which is true, and whose item reads for the driver as the blob
pub record GivesAt (main index : List ℕ) (driver : DriverKeys) (key : Key) (n : ℕ) (blob : List ℕ) : Type 0 where
  pub there : HasRow index n
  pub item : List ℕ
  pub is_true : IsTrueRow main (row_at index n) key item
  pub reads : Reads driver item blob

-- the heads agree, and some row gives the blob
pub record FilesGive (main index : List ℕ) (driver : DriverKeys) (key : Key) (blob : List ℕ) : Type 0 where
  pub agree : Agree main index
  pub row : ℕ
  pub gives : GivesAt main index driver key row blob

-- the heads agree, and of the rows that give a blob the last one gives this
pub record FilesHold (main index : List ℕ) (driver : DriverKeys) (key : Key) (blob : List ℕ) : Type 0 where
  pub agree : Agree main index
  pub row : ℕ
  pub gives : GivesAt main index driver key row blob
  pub is_last : (n : ℕ) (other : List ℕ) → row < n → GivesAt main index driver key n other → ⊥
