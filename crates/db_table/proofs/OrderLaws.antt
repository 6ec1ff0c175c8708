-- Rows that are looked at one after another: whether they stand in order, and where the last ends.
use Rattle.std.proofs.Common.{◌≡◌, ◌↔◌, ℕ, zero, suc, ◌+◌, ◌<◌, ◌≤◌, List, [], ◌∷◌, length, max, refl, sym, ap, subst, ◌∙◌, arith, inl, inr}
use Rattle.std.proofs.lemmas.Bool.{cases_order}
use Rattle.db_format.specs.declared.row.IdxRow.{IdxRow}
use Rattle.db_table.specs.Heads.{Agree}
use Rattle.db_table.specs.Rows.{HasRow, row_at, row_count, rows_from, rows_of}
use Rattle.db_table.specs.Truth.{row_end}
use Rattle.db_table.specs.Usable.{InOrder, IsUsable, StandInOrder, last_end, end_of, live_end}

-- ---- one turn of looking at them

-- what was found of the rows so far and of the rest is so of all
abbrev pub GoesOn : ℕ → ℕ → List IdxRow → ℕ → List IdxRow → Type 0
GoesOn len start rows end rest = (StandInOrder len start rows ↔ StandInOrder len end rest) × (last_end start rows ≡ last_end end rest)

pub goes_on : (len start : ℕ) (rows : List IdxRow) (end : ℕ) (row : IdxRow) (rest : List IdxRow) → GoesOn len start rows end (row ∷ rest) → end ≤ row.place → row_end row ≤ len → GoesOn len start rows (row_end row) rest
goes_on len start rows end row rest g above within =
    ((λ s. (g.0.0 s).2, λ s. g.0.1 (above, within, s)), g.1)

-- ---- rows in order, by their numbers

-- the first stands at the place or later
pub first_stands : (index : List ℕ) (len start n count : ℕ) → 0 < count → StandInOrder len start (rows_from index n count) → start ≤ (row_at index n).place
unfolding rows_from
first_stands index len start n zero some s = absurd (omega (arith, some))
first_stands index len start n (suc count) some s = s.0

-- each ends within so many bytes
pub each_within : (index : List ℕ) (len start n count k i : ℕ) → i ≡ n + k → k < count → StandInOrder len start (rows_from index n count) → row_end (row_at index i) ≤ len
unfolding rows_from
each_within index len start n zero k i e less s = absurd (omega (arith, less))
each_within index len start n (suc count) zero i e less s =
    let same : n ≡ i = omega (arith, e) in
    subst (λ (j : ℕ). row_end (row_at index j) ≤ len) same s.1
each_within index len start n (suc count) (suc k) i e less s = each_within index len (row_end (row_at index n)) (n + 1) count k i (omega (arith, e)) (omega (arith, less)) s.2

-- each stands behind the one before
pub each_behind : (index : List ℕ) (len start n count k i : ℕ) → i ≡ n + k → k + 1 < count → StandInOrder len start (rows_from index n count) → row_end (row_at index i) ≤ (row_at index (i + 1)).place
unfolding rows_from
each_behind index len start n zero k i e less s = absurd (omega (arith, less))
each_behind index len start n (suc count) zero i e less s =
    let same : n ≡ i = omega (arith, e) in
    subst (λ (j : ℕ). row_end (row_at index j) ≤ (row_at index (j + 1)).place) same (first_stands index len (row_end (row_at index n)) (n + 1) count (omega (arith, less)) s.2)
each_behind index len start n (suc count) (suc k) i e less s = each_behind index len (row_end (row_at index n)) (n + 1) count k i (omega (arith, e)) (omega (arith, less)) s.2

-- and where it is so of each, all stand in order
pub stand_in_order : (index : List ℕ) (len start n count : ℕ) → (0 < count → start ≤ (row_at index n).place) → ((i : ℕ) → n ≤ i → i < n + count → row_end (row_at index i) ≤ len)
    → ((i : ℕ) → n ≤ i → i + 1 < n + count → row_end (row_at index i) ≤ (row_at index (i + 1)).place) → StandInOrder len start (rows_from index n count)
unfolding rows_from
stand_in_order index len start n zero first within behind = tt
stand_in_order index len start n (suc count) first within behind = (
  first (omega arith),
  within n (omega arith) (omega arith),
  stand_in_order index len (row_end (row_at index n)) (n + 1) count (λ some. behind n (omega arith) (omega (arith, some))) (λ i le less. within i (omega (arith, le)) (omega (arith, less))) (λ i le less. behind i (omega (arith, le)) (omega (arith, less))),
)

-- the rows of an index
pub usable_by_rows : (main index : List ℕ) → Agree main index → StandInOrder (length main) 20 (rows_of index) ↔ IsUsable main index
usable_by_rows main index agree = (
  λ s. record {
    agree = agree;
    order = record {
      first = λ has. first_stands index (length main) 20 0 (row_count index) has s;
      next = λ n has. each_behind index (length main) 20 0 (row_count index) n n (omega arith) has s;
    };
    within = λ n has. each_within index (length main) 20 0 (row_count index) n n (omega arith) has s;
  },
  λ u. stand_in_order index (length main) 20 0 (row_count index) u.order.first (λ i le less. u.within i (omega (arith, less))) (λ i le less. u.order.next i (omega (arith, less))),
)

-- ---- the live end

last_of : (index : List ℕ) (start n m i : ℕ) → i ≡ n + m → last_end start (rows_from index n (suc m)) ≡ row_end (row_at index i)
unfolding rows_from
last_of index start n zero i e = ap (λ (j : ℕ). row_end (row_at index j)) (let same : n ≡ i = omega (arith, e) in same)
last_of index start n (suc m) i e = last_of index (row_end (row_at index n)) (n + 1) m i (omega (arith, e))

-- in rows that stand in order no earlier entry ends later
end_is : (index : List ℕ) (len m : ℕ) → ((i : ℕ) → i + 1 < suc m → row_end (row_at index i) ≤ (row_at index (i + 1)).place) → (0 < suc m → 20 ≤ (row_at index 0).place) → end_of index (suc m) ≡ row_end (row_at index m)
unfolding end_of
end_is index len zero behind first = let f = first (omega arith) in omega (arith, f)
end_is index len (suc m) behind first =
    let before = end_is index len m (λ i less. behind i (omega (arith, less))) (λ some. first (omega arith)) in
    let b = behind m (omega arith) in
    let e : m + 1 ≡ suc m = omega arith in
    let b' : row_end (row_at index m) ≤ (row_at index (suc m)).place = subst (λ (j : ℕ). row_end (row_at index m) ≤ (row_at index j).place) e b in
    omega (arith, before, b')

live_by : (index : List ℕ) (len count : ℕ) → StandInOrder len 20 (rows_from index 0 count) → last_end 20 (rows_from index 0 count) ≡ end_of index count
unfolding rows_from end_of
live_by index len zero s = refl
live_by index len (suc m) s =
    last_of index 20 0 m m (omega arith)
    ∙ sym (end_is index len m (λ i less. each_behind index len 20 0 (suc m) i i (omega arith) less s) (λ some. first_stands index len 20 0 (suc m) some s))

pub live_end_by_rows : (index : List ℕ) (len : ℕ) → StandInOrder len 20 (rows_of index) → last_end 20 (rows_of index) ≡ live_end index
live_end_by_rows index len s = live_by index len (row_count index) s
