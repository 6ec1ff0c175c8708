-- What is found in a list from which elements were taken out, and what is left in it.
use Rattle.std.proofs.Common.{◌≡◌, ◌≤◌, ℕ, ◌+◌, List, [], ◌∷◌, cond, Bool, true, false, not, ◌&&◌, nat_eq, Option, Some, None, refl, sym, ap, ◌∙◌, filter, arith, length}
use Rattle.std.specs.Prelude.{IsSome}
use Rattle.std.proofs.lemmas.Bool.{eqb-true, eq-eqb}
use Rattle.file_log.proofs.All.{seat_self}
use Rattle.cache_types.specs.declared.seat.Who.{Who}
use Rattle.cache_types.specs.declared.name.Name.{Name}
use Rattle.cache_types.specs.Names.{same_name}
use Rattle.cache_types.specs.Seats.{same_seat}
use Rattle.cache_types.proofs.Names.{same_name_decides}
use Rattle.world_tables.specs.declared.parts.NamedFile.{NamedFile}
use Rattle.world_tables.specs.declared.parts.OpenSlot.{OpenSlot}
use Rattle.world_tables.specs.Find.{find_by, number_of, file_in, total}

-- ---- lists of anything

abbrev nothing : {B : Type 0} → Option B
nothing {B} = None

at_cond : {A B : Type 0} (test : A → Bool) (value : A → B) (m : Bool) (xs ys : List A) → find_by test value (cond m xs ys) ≡ cond m (find_by test value xs) (find_by test value ys)
at_cond test value true xs ys = refl
at_cond test value false xs ys = refl

still : {B : Type 0} (k q : Bool) (x r : Option B) → (q ≡ true → k ≡ true) → cond k (cond q x r) r ≡ cond q x r
still true q x r h = refl
still false true x r h = let e : false ≡ true = h refl in absurd cc
still false false x r h = refl

left_out : {B : Type 0} (k q : Bool) (x : Option B) → (q ≡ true → k ≡ false) → cond k (cond q x nothing) nothing ≡ nothing
left_out true true x h = let e : true ≡ false = h refl in absurd cc
left_out true false x h = refl
left_out false q x h = refl

-- all elements that the test finds stay
kept : {A B : Type 0} (test : A → Bool) (value : A → B) (keep : A → Bool) (xs : List A) → ((x : A) → test x ≡ true → keep x ≡ true) → find_by test value (filter keep xs) ≡ find_by test value xs
kept test value keep [] h = refl
kept test value keep (x ∷ xs) h =
    at_cond test value (keep x) (x ∷ filter keep xs) (filter keep xs)
    ∙ still (keep x) (test x) (Some (value x)) (find_by test value (filter keep xs)) (h x)
    ∙ ap (λ r. cond (test x) (Some (value x)) r) (kept test value keep xs h)

-- none of them stays
dropped : {A B : Type 0} (test : A → Bool) (value : A → B) (keep : A → Bool) (xs : List A) → ((x : A) → test x ≡ true → keep x ≡ false) → find_by test value (filter keep xs) ≡ None
dropped test value keep [] h = refl
dropped test value keep (x ∷ xs) h =
    at_cond test value (keep x) (x ∷ filter keep xs) (filter keep xs)
    ∙ ap (λ r. cond (keep x) (cond (test x) (Some (value x)) r) r) (dropped test value keep xs h)
    ∙ left_out (keep x) (test x) (Some (value x)) (h x)

-- they go where q holds, and stay else
pub dropped_if : {A B : Type 0} (q : Bool) (test : A → Bool) (value : A → B) (keep : A → Bool) (xs : List A) → ((x : A) → test x ≡ true → q ≡ not (keep x)) → find_by test value (filter keep xs) ≡ cond q None (find_by test value xs)
dropped_if true test value keep xs h = dropped test value keep xs (λ x e. flip (keep x) (h x e))
  where
    flip : (k : Bool) → true ≡ not k → k ≡ false
    flip true e = absurd cc
    flip false e = refl
dropped_if false test value keep xs h = kept test value keep xs (λ x e. flip (keep x) (h x e))
  where
    flip : (k : Bool) → false ≡ not k → k ≡ true
    flip true e = refl
    flip false e = absurd cc

total_cond : {A : Type 0} (weight : A → ℕ) (k : Bool) (x : A) (xs : List A) → total weight (cond k (x ∷ xs) xs) ≤ weight x + total weight xs
total_cond weight true x xs = omega arith
total_cond weight false x xs = omega arith

-- what is left weighs no more
pub lighter : {A : Type 0} (weight : A → ℕ) (keep : A → Bool) (xs : List A) → total weight (filter keep xs) ≤ total weight xs
lighter weight keep [] = omega arith
lighter weight keep (x ∷ xs) = omega (arith, total_cond weight (keep x) x (filter keep xs), lighter weight keep xs)

lighter_here : {A : Type 0} (weight : A → ℕ) (x y : A) (kept xs : List A) (rest : Option A) (q k : Bool) → (q ≡ true → k ≡ false) → total weight kept ≤ total weight xs → (rest ≡ Some y → total weight kept + weight y ≤ total weight xs) → cond q (Some x) rest ≡ Some y → total weight (cond k (x ∷ kept) kept) + weight y ≤ weight x + total weight xs
lighter_here weight x y kept xs rest true true h less more e = let a : true ≡ false = h refl in absurd cc
lighter_here weight x y kept xs rest true false h less more e = let same : x ≡ y = cc in let a : weight x ≡ weight y = ap weight same in omega (arith, less)
lighter_here weight x y kept xs rest false true h less more e = omega (arith, more e)
lighter_here weight x y kept xs rest false false h less more e = omega (arith, more e)

-- where something was found and goes, it weighs less by at least that
pub lighter_by : {A : Type 0} (weight : A → ℕ) (test keep : A → Bool) (y : A) (xs : List A) → ((x : A) → test x ≡ true → keep x ≡ false) → find_by test (λ x. x) xs ≡ Some y → total weight (filter keep xs) + weight y ≤ total weight xs
lighter_by weight test keep y [] h e = absurd cc
lighter_by weight test keep y (x ∷ xs) h e = lighter_here weight x y (filter keep xs) xs (find_by test (λ z. z) xs) (test x) (keep x) (h x) (lighter weight keep xs) (lighter_by weight test keep y xs h) e

found_here : {A B : Type 0} (test : A → Bool) (x : A) (v : B) (rest : Option B) (xs : List A) (q : Bool) → (IsSome rest → (y : A) × (find_by test (λ z. z) xs ≡ Some y)) → IsSome (cond q (Some v) rest) → (y : A) × (cond q (Some x) (find_by test (λ z. z) xs) ≡ Some y)
found_here test x v rest xs true more e = (x, refl)
found_here test x v rest xs false more e = more e

-- where a value was found, its element was
pub found : {A B : Type 0} (test : A → Bool) (value : A → B) (xs : List A) → IsSome (find_by test value xs) → (y : A) × (find_by test (λ z. z) xs ≡ Some y)
found test value [] e = absurd cc
found test value (x ∷ xs) e = found_here test x (value x) (find_by test value xs) xs (test x) (found test value xs) e

-- ---- names and slots

not_not : (b : Bool) → b ≡ not (not b)
not_not true = refl
not_not false = refl

both : (a b : Bool) → (a && b) ≡ true → (a ≡ true) × (b ≡ true)
both true b e = (refl, e)
both false b e = absurd cc

pub same_seat-true : (a b : Who) → same_seat a b ≡ true → a ≡ b
same_seat-true a b e =
    let p = both (nat_eq a.process b.process) (nat_eq a.seat b.seat) e in
    let x : a.process ≡ b.process = eqb-true _ _ p.0 in
    let y : a.seat ≡ b.seat = eqb-true _ _ p.1 in
    ap (λ (n : ℕ). record { process = n; seat = a.seat }) x ∙ ap (λ (n : ℕ). record { process = b.process; seat = n }) y

nat_eq-sym : (a b : ℕ) → nat_eq a b ≡ nat_eq b a
nat_eq-sym a b = grind arith

pub same_name-sym : (a b : Name) (q : Bool) → same_name a b ≡ q → same_name b a ≡ q
same_name-sym a b true e = (same_name_decides b a).1 (sym ((same_name_decides a b).0 e))
same_name-sym a b false e = apart (same_name b a) refl
  where
    apart : (q : Bool) → same_name b a ≡ q → q ≡ false
    apart false k = refl
    apart true k = let x : a ≡ b = sym ((same_name_decides b a).0 k) in sym ((same_name_decides a b).1 x) ∙ e

-- a name that was removed
pub number_of-forgotten : (name : Name) (names : List NamedFile) (n : Name) → number_of (filter (λ x. not (same_name x.name name)) names) n ≡ cond (same_name name n) None (number_of names n)
number_of-forgotten name names n = dropped_if (same_name name n) (λ x. same_name x.name n) (λ x. x.file) (λ x. not (same_name x.name name)) names
    (λ x e. let same : x.name ≡ n = (same_name_decides x.name n).0 e in same_name-sym n name _ refl ∙ ap (λ (m : Name). same_name m name) (sym same) ∙ not_not (same_name x.name name))

abbrev pub is_other : Who → ℕ → OpenSlot → Bool
is_other who at x = not (same_seat x.who who && nat_eq x.slot at)

-- a slot that was emptied
goes_with : (who w : Who) (at a : ℕ) (x : OpenSlot) → (same_seat w x.who && nat_eq x.slot a) ≡ true → (same_seat w who && nat_eq at a) ≡ not (is_other who at x)
goes_with who w at a x e =
    let p = both (same_seat w x.who) (nat_eq x.slot a) e in
    let seat : w ≡ x.who = same_seat-true w x.who p.0 in
    let slot : x.slot ≡ a = eqb-true _ _ p.1 in
    ap (λ (v : Who). same_seat v who && nat_eq at a) seat ∙ ap (λ (b : ℕ). same_seat x.who who && nat_eq at b) (sym slot) ∙ ap (λ (b : Bool). same_seat x.who who && b) (nat_eq-sym at x.slot) ∙ not_not (same_seat x.who who && nat_eq x.slot at)

pub file_in-emptied : (who : Who) (at : ℕ) (slots : List OpenSlot) (w : Who) (a : ℕ) → file_in (filter (is_other who at) slots) w a ≡ cond (same_seat w who && nat_eq at a) None (file_in slots w a)
file_in-emptied who at slots w a = dropped_if (same_seat w who && nat_eq at a) (λ x. same_seat w x.who && nat_eq x.slot a) (λ x. x.file) (is_other who at) slots (goes_with who w at a)

pub slots-fewer : (who : Who) (at : ℕ) (slots : List OpenSlot) → IsSome (file_in slots who at) → total (λ (x : OpenSlot). 1) (filter (is_other who at) slots) + 1 ≤ total (λ (x : OpenSlot). 1) slots
slots-fewer who at slots some =
    let test : OpenSlot → Bool = λ x. same_seat who x.who && nat_eq x.slot at in
    let one = found test (λ x. x.file) slots some in
    let self : (same_seat who who && nat_eq at at) ≡ true = rw (seat_self who, eq-eqb at at refl) refl in
    lighter_by (λ x. 1) test (is_other who at) one.0 slots (λ x e. out (is_other who at x) (sym self ∙ goes_with who who at at x e)) one.1
  where
    out : (k : Bool) → true ≡ not k → k ≡ false
    out true e = absurd cc
    out false e = refl

-- ---- a process that was stopped

abbrev pub goes_on : ℕ → OpenSlot → Bool
goes_on process x = not (nat_eq x.who.process process)

pub file_in-stopped : (process : ℕ) (slots : List OpenSlot) (w : Who) (a : ℕ) → file_in (filter (goes_on process) slots) w a ≡ cond (nat_eq w.process process) None (file_in slots w a)
file_in-stopped process slots w a = dropped_if (nat_eq w.process process) (λ x. same_seat w x.who && nat_eq x.slot a) (λ x. x.file) (goes_on process) slots
    (λ x e.
    let seat : w ≡ x.who = same_seat-true w x.who (both (same_seat w x.who) (nat_eq x.slot a) e).0 in
    ap (λ (v : Who). nat_eq v.process process) seat ∙ not_not (nat_eq x.who.process process))
