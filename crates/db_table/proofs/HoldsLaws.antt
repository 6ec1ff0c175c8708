-- What two files hold they give, and it is one blob.
use Rattle.std.proofs.Common.{◌≡◌, ℕ, ◌<◌, List, sym, subst, ◌∙◌, inl, inr}
use Rattle.std.proofs.lemmas.Bool.{cases_order}
use Rattle.cache_types.specs.Driver.{DriverKeys}
use Rattle.cache_types.specs.declared.key.Key.{Key}
use Rattle.item_frame.specs.Item.{Reads}
use Rattle.item_frame.proofs.Laws.{reads_one}
use Rattle.db_table.specs.Holds.{GivesAt, FilesGive, FilesHold}
use Rattle.db_table.specs.Rows.{row_at}
use Rattle.db_table.proofs.TruthLaws.{one_true}

pub gives-from_holds : (main index : List ℕ) (driver : DriverKeys) (key : Key) (blob : List ℕ) → FilesHold main index driver key blob → FilesGive main index driver key blob
gives-from_holds main index driver key blob h = record { agree = h.agree; row = h.row; gives = h.gives }

-- one row gives one blob
pub gives_one : (main index : List ℕ) (driver : DriverKeys) (key : Key) (n : ℕ) (a b : List ℕ) → GivesAt main index driver key n a → GivesAt main index driver key n b → a ≡ b
gives_one main index driver key n a b g h =
    let items = (one_true main (row_at index n) key key g.item h.item g.is_true h.is_true).1 in
    reads_one driver h.item a b (subst (λ (x : List ℕ). Reads driver x a) items g.reads) h.reads

-- two files hold one blob under a driver and a key
pub holds_one : (main index : List ℕ) (driver : DriverKeys) (key : Key) (a b : List ℕ) → FilesHold main index driver key a → FilesHold main index driver key b → a ≡ b
holds_one main index driver key a b g h = elim (cases_order g.row h.row) [
  | inl same ↦ gives_one main index driver key h.row a b (subst (λ (n : ℕ). GivesAt main index driver key n a) same g.gives) h.gives
  | inr t ↦ elim t [
    | inl before ↦ absurd (g.is_last h.row b before h.gives)
    | inr past ↦ absurd (h.is_last g.row a past g.gives)
  ]
]
