-- Each table has so many steps of each byte.
use Rattle.std.proofs.Common.{zero, suc, ◌+◌, ◌*◌, length, arith, eqb, ap, ◌∙◌, ◌≡◌, ℕ, ◌<◌, Bool, true, false, ◌&&◌, List, [], ◌∷◌, get_or, refl}
use Rattle.std.specs.List.{enumerate_from, list_all}
use Rattle.std.proofs.lemmas.Bool.{eqb-true}
use Rattle.crc_small.specs.declared.tables.TheConstants.{TABLES}
use Rattle.crc_small.specs.Tables.{shifts}

has_steps : ℕ → ℕ × ℕ → Bool
has_steps count entry = eqb entry.1 (shifts count entry.0)

is_right : ℕ × List ℕ → Bool
is_right table = eqb (length table.1) 256 && list_all (has_steps (8 * (table.0 + 1))) (enumerate_from 0 table.1)

tables_are_right : list_all is_right (enumerate_from 0 TABLES) ≡ true
unfolding shifts has_steps is_right
tables_are_right = refl

both_true : (a b : Bool) → (a && b) ≡ true → (a ≡ true) × (b ≡ true)
both_true true b e = (refl, e)
both_true false b e = absurd cc

-- what a test of each entry says of one
at_entry : {X : Type 0} (p : ℕ × X → Bool) (n : ℕ) (xs : List X) (d : X) (k i : ℕ) → i ≡ n + k → list_all p (enumerate_from n xs) ≡ true → k < length xs → p (i, get_or xs k d) ≡ true
at_entry p n [] d k i is e lt = absurd (omega arith)
at_entry p n (x ∷ xs) d zero i is e lt = let at : i ≡ n = omega arith in ap (λ (j : ℕ). p (j, x)) at ∙ (both_true (p (n, x)) _ e).0
at_entry p n (x ∷ xs) d (suc k) i is e lt = at_entry p (n + 1) xs d k i (omega arith) (both_true (p (n, x)) _ e).1 (omega arith)

-- what the tests say of an entry of a table
pub entry_is : (t b : ℕ) → t < 8 → b < 256 → get_or (get_or TABLES t []) b 0 ≡ shifts (8 * (t + 1)) b
unfolding has_steps is_right
entry_is t b t_lt b_lt =
    let table : is_right (t, get_or TABLES t []) ≡ true = at_entry is_right 0 TABLES [] t t (omega arith) tables_are_right t_lt in
    let parts = both_true (eqb (length (get_or TABLES t [])) 256) _ table in
    let whole : length (get_or TABLES t []) ≡ 256 = eqb-true _ _ parts.0 in
    eqb-true _ _ (at_entry (has_steps (8 * (t + 1))) 0 (get_or TABLES t []) 0 b b (omega arith) parts.1 (omega arith))
