-- A text up to its zero byte, in front of some bytes.
use Rattle.std.proofs.Common.{◌≡◌, ◌≢◌, ◌==◌, ℕ, suc, ◌+◌, ◌-◌, ◌<◌, ◌≤◌, Bool, not, cond, List, [], ◌∷◌, ◌++◌, length, take, drop, Some, None, refl, sym, ap, ◌∙◌, arith, length-append, add-one, drop-cons}
use Rattle.std.proofs.Math.Seq.{take-length}
use Rattle.std.specs.Prelude.{position}
use Rattle.std.specs.List.{AllByRecursion, position_or_len}
use Rattle.std.proofs.lemmas.Bool.{ne_eqb, eqb-true, eqb-false, lt-ltb}
use Rattle.std.proofs.lemmas.List.{length-drop, length-take-le, get_or-take, take-append-drop}
use Rattle.std.proofs.lemmas.List.Elements.{recursion_from_All}
use Rattle.std.proofs.lemmas.List.Quantifiers.{position-Some}
use Rattle.cache_types.specs.Front.{SplitsText}

zero_place : (text rest : List ℕ) → AllByRecursion (λ b. b ≢ 0) text → position_or_len (λ b. b == 0) (text ++ (0 ∷ rest)) ≡ length text
zero_place [] rest no_zero = refl
zero_place (x ∷ text) rest no_zero =
    let place : Bool → ℕ = λ t. cond (not t) (1 + position_or_len (λ b. b == 0) (text ++ (0 ∷ rest))) 0 in
    ap place (ne_eqb x 0 no_zero.0) ∙ ap (λ (n : ℕ). 1 + n) (zero_place text rest no_zero.1) ∙ omega arith

-- the first zero byte stands behind the text
zero_found : (bytes text rest : List ℕ) → SplitsText bytes text rest → position (λ b. b == 0) bytes ≡ Some (length text)
zero_found bytes text rest s =
    let place : position_or_len (λ b. b == 0) bytes ≡ length text = ap (position_or_len (λ b. b == 0)) s.bytes_are ∙ zero_place text rest s.text_is.1 in
    let size : length bytes ≡ length text + (length rest + 1) = ap length s.bytes_are ∙ length-append text (0 ∷ rest) ∙ omega arith in
    let within : position_or_len (λ b. b == 0) bytes < length bytes = omega arith in
    ap (λ (t : Bool). cond t (Some (position_or_len (λ b. b == 0) bytes)) None) (lt-ltb (position_or_len (λ b. b == 0) bytes) (length bytes) within) ∙ ap (λ (n : ℕ). Some n) place

pub no_zero : (bytes text rest : List ℕ) → position (λ b. b == 0) bytes ≡ None → SplitsText bytes text rest → ⊥
no_zero bytes text rest none s =
    let some = sym (zero_found bytes text rest s) ∙ none in
    absurd cc

pub too_long : (bytes text rest : List ℕ) (end : ℕ) → position (λ b. b == 0) bytes ≡ Some end → 255 < end → SplitsText bytes text rest → ⊥
too_long bytes text rest end found long s =
    let same : Some (length text) ≡ Some end = sym (zero_found bytes text rest s) ∙ found in
    let size : length text ≡ end = cc in
    absurd (omega (arith, s.text_is.0))

pub text_split : (bytes : List ℕ) (end : ℕ) → position (λ b. b == 0) bytes ≡ Some end → end ≤ 255 → SplitsText bytes (take end bytes) (take (length bytes - (end + 1)) (drop (end + 1) bytes))
text_split bytes end found short =
    let at = position-Some (λ b. b == 0) bytes end 0 found in
    let within : end < length bytes = at.0 in
    let size : length (take end bytes) ≡ end = length-take-le end bytes (omega arith) in
    let here : drop end bytes ≡ 0 ∷ drop (suc end) bytes = drop-cons bytes end 0 at.0 ∙ ap (λ (b : ℕ). b ∷ drop (suc end) bytes) (eqb-true _ _ at.1) in
    let all : drop (end + 1) bytes ≡ take (length bytes - (end + 1)) (drop (end + 1) bytes) = sym (ap (λ (n : ℕ). take n (drop (end + 1) bytes)) (sym (length-drop (end + 1) bytes)) ∙ take-length (drop (end + 1) bytes)) in
    record {
      text_is = (omega arith, recursion_from_All (λ b. b ≢ 0) (take end bytes) (λ k d below e. let earlier : k < end = omega arith in eqb-false _ _ ((position-Some (λ b. b == 0) bytes end d found).2 k earlier) (sym (get_or-take end bytes k d earlier) ∙ e)));
      bytes_are = sym (take-append-drop end bytes) ∙ ap (λ (xs : List ℕ). take end bytes ++ xs) (here ∙ ap (λ (xs : List ℕ). 0 ∷ xs) (ap (λ (k : ℕ). drop k bytes) (sym (add-one end)) ∙ all));
    }
