-- Names that were seen, in order, beside the list of them.
use Rattle.std.specs.Prelude.{◌≡◌, ℕ, Bool, not, ◌&&◌, if◌then◌else◌, List, [], ◌∷◌, ◌++◌, bytes_eq}
use Rattle.std.specs.Borrow.{Bor}
use Rattle.std.specs.BTreeSet.{BTreeSet, contains_by}
use Rattle.std.specs.Cmp.Lexicographic.{slice_cmp}
use Rattle.std.specs.List.{list_any}
use Rattle.std.specs.Ordering.{nat_cmp}
use Rattle.path_names.specs.RoNames.{is_ro_name}

-- a name is one of these
abbrev pub has_name : List (List ℕ) → List ℕ → Bool
has_name names name = list_any (bytes_eq name) names

-- the set has these names, and no others
abbrev pub IsSeen : BTreeSet (Bor (List ℕ)) → List (List ℕ) → Type 0
IsSeen seen names = (name : List ℕ) → contains_by (λ key. slice_cmp nat_cmp name key.now) seen ≡ has_name names name

-- the names and a piece, where it is a name and isn't one of them
abbrev pub with_name : List (List ℕ) → List ℕ → List (List ℕ)
with_name names piece = if is_ro_name piece && not (has_name names piece) then names ++ piece ∷ [] else names
