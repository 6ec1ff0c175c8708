-- What a line ends in, where its last part stands after a space.
use Rattle.std.proofs.Common.{◌≡◌, ◌-◌, ℕ, Bool, true, false, ◌||◌, List, [], ◌∷◌, ◌++◌, length, suc, eqb, refl, sym, arith, inl, inr, codes}
use Rattle.std.specs.List.{ends_with}
use Rattle.std.specs.Cmp.Lexicographic.{pointwise, unequal, nat_list_eq_equiv}
use Rattle.std.proofs.Math.Bool.{or-false, and-false}
use Rattle.std.proofs.lemmas.Bool.{cases_lt}
use Rattle.report_text.specs.Outcomes.{ends_well, is_no_damage}

left_false : (a b : Bool) → (a || b) ≡ false → a ≡ false
left_false false b none = refl
left_false true b none = none

right_false : (a b : Bool) → (a || b) ≡ false → b ≡ false
right_false false b none = none
right_false true b none = absurd cc

or_shuffled : (a b c d e f : Bool) → ((a || b) || (c || d) || (e || f)) ≡ ((a || c || e) || (b || d || f))
or_shuffled true b c d e f = refl
or_shuffled false true true d e f = refl
or_shuffled false true false d true f = refl
or_shuffled false true false d false f = refl
or_shuffled false false true d e f = refl
or_shuffled false false false true true f = refl
or_shuffled false false false true false f = refl
or_shuffled false false false false e f = refl

-- a line ends in a word where it is the word, or where the line without its first byte does
ends-cons : (x : ℕ) (xs word : List ℕ) → ends_with eqb (x ∷ xs) word ≡ (pointwise eqb word (x ∷ xs) || ends_with eqb xs word)
ends-cons x xs word = elim (cases_lt (length xs) (length word)) [
  | inl short ↦
      let whole : length (x ∷ xs) - length word ≡ 0 = omega arith in
      let rest : length xs - length word ≡ 0 = omega arith in
      rw (whole, rest, unequal eqb word xs (omega arith)) (sym (or-false _))
  | inr long ↦
      let more : length (x ∷ xs) - length word ≡ suc (length xs - length word) = omega arith in
      rw (more, unequal eqb word (x ∷ xs) (omega arith)) refl
]

abbrev has_space : List ℕ → Bool
has_space [] = false
has_space (b ∷ bytes) = eqb b 32 || has_space bytes

-- a word without a space isn't a line with one
no_space : (word front last : List ℕ) → has_space word ≡ false → pointwise eqb word (front ++ 32 ∷ last) ≡ false
no_space [] [] last none = refl
no_space [] (x ∷ front) last none = refl
no_space (b ∷ word) [] last none = rw (left_false (eqb b 32) (has_space word) none) refl
no_space (b ∷ word) (x ∷ front) last none = rw (no_space word front last (right_false (eqb b 32) (has_space word) none)) (and-false _)

-- what stands before the last space changes nothing
spaced : (front last word : List ℕ) → has_space word ≡ false
    → ends_with eqb (front ++ 32 ∷ last) (32 ∷ word) ≡ ends_with eqb (32 ∷ last) (32 ∷ word)
spaced [] last word none = refl
spaced (x ∷ front) last word none =
    rw (ends-cons x (front ++ 32 ∷ last) (32 ∷ word), no_space word front last none, and-false) (spaced front last word none)

pub spaced_well : (front last : List ℕ) → ends_well (front ++ 32 ∷ last) ≡ ends_well (32 ∷ last)
spaced_well front last =
    rw (
      spaced front last (codes "ok") refl,
      spaced front last (codes "absent") refl,
      spaced front last (codes "OtherFormat") refl,
    ) refl

-- what a line ends in that begins with a space: the word is the rest, or the rest ends in it
after_space : (last word : List ℕ) → ends_with eqb (32 ∷ last) (32 ∷ word) ≡ (pointwise eqb last word || ends_with eqb last (32 ∷ word))
after_space last word = rw (nat_list_eq_equiv.symm last word) (ends-cons 32 last (32 ∷ word))

-- after a space stands a finding that tells of no damage, or a line that ends in one
pub closed : (last : List ℕ) → ends_well (32 ∷ last) ≡ (is_no_damage last || ends_well last)
closed last =
    rw (after_space last (codes "ok"), after_space last (codes "absent"), after_space last (codes "OtherFormat"))
    (or_shuffled (pointwise eqb last (codes "ok")) _ _ _ _ _)
