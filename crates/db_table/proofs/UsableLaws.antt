-- The end of all entries, and files that may be used.
use Rattle.std.proofs.Common.{◌≡◌, ℕ, zero, suc, ◌+◌, ◌<◌, ◌≤◌, List, length, max, refl, sym, subst, arith, inl, inr}
use Rattle.std.proofs.lemmas.Bool.{cases_order}
use Rattle.cache_types.specs.declared.key.Key.{Key}
use Rattle.db_table.specs.Heads.{Agree}
use Rattle.db_table.specs.Rows.{HasRow, row_at, row_count}
use Rattle.db_table.specs.Sound.{FilesAreSound}
use Rattle.db_table.specs.Truth.{row_end}
use Rattle.db_table.specs.Usable.{InOrder, IsUsable, end_of, live_end}

-- no entry of the first n rows ends later
pub end_covers : (index : List ℕ) (n k : ℕ) → k < n → row_end (row_at index k) ≤ end_of index n
unfolding end_of
end_covers index zero k less = absurd (omega (arith, less))
end_covers index (suc n) k less = elim (cases_order k n) [
  | inl e ↦ subst (λ (j : ℕ). row_end (row_at index j) ≤ max (row_end (row_at index n)) (end_of index n)) (sym e) (omega arith)
  | inr h ↦ elim h [
    | inl before ↦ let l = end_covers index n k before in omega (arith, l)
    | inr past ↦ absurd (omega (arith, past, less))
  ]
]

pub end_above : (index : List ℕ) (n : ℕ) → 20 ≤ end_of index n
unfolding end_of
end_above index zero = omega arith
end_above index (suc n) = let l = end_above index n in omega (arith, l)

-- nor does the end of all lie beyond what none of them passes
pub end_within : (index : List ℕ) (n m : ℕ) → 20 ≤ m → ((k : ℕ) → k < n → row_end (row_at index k) ≤ m) → end_of index n ≤ m
unfolding end_of
end_within index zero m head all = head
end_within index (suc n) m head all = let l = end_within index n m head (λ k less. all k (omega (arith, less))) in let r = all n (omega arith) in omega (arith, l, r)

-- in usable files of which the first has a head, everything ends within it
pub live_end_within : (main index : List ℕ) → IsUsable main index → 20 ≤ length main → live_end index ≤ length main
live_end_within main index usable head = end_within index (row_count index) (length main) head usable.within

-- where the heads agree, sound files are usable
pub sound_usable : (was_put : Key → List ℕ → Type 0) (main index : List ℕ) → FilesAreSound was_put main index → Agree main index → IsUsable main index
sound_usable was_put main index sound agree =
    let s = sound agree in
    record { agree = agree; order = s.order; within = λ n has. (s.rows n has).is_true.within }
