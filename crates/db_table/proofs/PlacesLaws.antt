-- A search for the places of a hash, step by step.
use Rattle.std.proofs.Common.{◌≡◌, ℕ, ◌+◌, Bool, false, true, cond, eqb, List, [], ◌∷◌, ◌++◌, length, sym, ap, ◌∙◌, append_assoc, arith}
use Rattle.std.proofs.lemmas.List.{append-nil}
use Rattle.db_table.specs.Tables.{places_from}

-- one turn of the search
pub found_one : (is_one : Bool) (place hash : ℕ) (rest found after whole : List ℕ) → after ≡ cond is_one (found ++ place ∷ []) found
    → found ++ cond is_one (place ∷ places_from (place + 1) rest hash) (places_from (place + 1) rest hash) ≡ whole → after ++ places_from (place + 1) rest hash ≡ whole
found_one true place hash rest found after whole e so_far =
    ap (λ (x : List ℕ). x ++ places_from (place + 1) rest hash) e ∙ append_assoc found (place ∷ []) (places_from (place + 1) rest hash) ∙ so_far
found_one false place hash rest found after whole e so_far = ap (λ (x : List ℕ). x ++ places_from (place + 1) rest hash) e ∙ so_far

-- and its end
pub found_all : (rest : List ℕ) (place hash : ℕ) (found whole : List ℕ) → length rest ≡ 0 → found ++ places_from place rest hash ≡ whole → found ≡ whole
found_all [] place hash found whole none so_far = sym (append-nil found) ∙ so_far
found_all (x ∷ rest) place hash found whole none so_far = absurd (omega (arith, none))
