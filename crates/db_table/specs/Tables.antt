-- What a table remembers of the rows of an index.
use Rattle.std.specs.Prelude.{ℕ, ◌+◌, ◌==◌, List, [], ◌∷◌, if◌then◌else◌}

-- the identity of the head in front of some rows, and the hashes of these rows, in their order
pub record Scanned : Type 0 where
  pub identity : ℕ
  pub hashes : List ℕ

-- the numbers of those that are this hash, where the first has a number
abbrev pub places_from : ℕ → List ℕ → ℕ → List ℕ
places_from first [] hash = []
places_from first (other ∷ hashes) hash =
    if other == hash then first ∷ places_from (first + 1) hashes hash else places_from (first + 1) hashes hash

-- the same, counted from 0
abbrev pub places_of : List ℕ → ℕ → List ℕ
places_of hashes hash = places_from 0 hashes hash
