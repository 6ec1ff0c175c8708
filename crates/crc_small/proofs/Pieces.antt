-- The state over pieces is the state over the bytes that they make together.
use Rattle.std.proofs.Common.{◌≡◌, ℕ, zero, suc, ◌+◌, ◌*◌, List, ◌++◌, take, drop, fold, arith, ap, sym, ◌∙◌}
use Rattle.std.specs.Simd.{first_chunks}
use Rattle.std.proofs.lemmas.List.{drop-drop, take-append-drop}
use Rattle.std.proofs.lemmas.List.Sums.{fold-append}
use Rattle.crc_small.specs.Sum.{byte_step, state_after}

pub state_after-append : (state : ℕ) (left right : List ℕ) → state_after state (left ++ right) ≡ state_after (state_after state left) right
state_after-append state left right = fold-append byte_step state left right

-- so many pieces of eight bytes, and the rest
pub state_after_eights : (count from state : ℕ) (bytes : List ℕ) → from ≡ count * 8 → state_after (fold state_after state (first_chunks 8 count bytes)) (drop from bytes) ≡ state_after state bytes
state_after_eights zero from state bytes e = let none : from ≡ 0 = omega arith in ap (λ (n : ℕ). state_after state (drop n bytes)) none
state_after_eights (suc count) from state bytes e =
    let later : from ≡ 8 + count * 8 = omega arith in
    ap (λ (l : List ℕ). state_after (fold state_after (state_after state (take 8 bytes)) (first_chunks 8 count (drop 8 bytes))) l) (ap (λ (n : ℕ). drop n bytes) later ∙ sym (drop-drop (count * 8) 8 bytes))
    ∙ state_after_eights count (count * 8) (state_after state (take 8 bytes)) (drop 8 bytes) (omega arith)
    ∙ sym (state_after-append state (take 8 bytes) (drop 8 bytes))
    ∙ ap (state_after state) (take-append-drop 8 bytes)
