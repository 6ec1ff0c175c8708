-- Names with commas between them, as they are written one after another.
use Rattle.std.proofs.Common.{◌≡◌, ℕ, List, [], ◌∷◌, ◌++◌, ap, append-nil}
use Rattle.std.specs.List.{flat_map, join_with_byte}

-- the first name, and each other one behind a byte
pub joined : (byte : ℕ) (name : List ℕ) (names : List (List ℕ)) → name ++ flat_map (λ other. byte ∷ other) names ≡ join_with_byte byte (name ∷ names)
joined byte name [] = append-nil name
joined byte name (other ∷ names) = ap (λ (rest : List ℕ). name ++ (byte ∷ rest)) (joined byte other names)
