-- Members of lists, and tests of them.
pub use Rattle.log_summary.specs.Telling.{In}
use Rattle.std.proofs.Common.{◌≡◌, ◌⊎◌, inl, inr, Bool, true, false, cond, ◌&&◌, ◌||◌, List, [], ◌∷◌, ◌++◌, refl, sym, ◌∙◌, subst}
use Rattle.std.specs.Prelude.{filter}
use Rattle.std.specs.List.{list_any, list_all}
use Rattle.std.proofs.lemmas.Bool.{false≢true}

pub in_left : {A : Type 0} (xs ys : List A) (x : A) → In xs x → In (xs ++ ys) x
in_left [] ys x i = absurd i
in_left (y ∷ xs) ys x (inl e) = inl e
in_left (y ∷ xs) ys x (inr i) = inr (in_left xs ys x i)

pub in_right : {A : Type 0} (xs ys : List A) (x : A) → In ys x → In (xs ++ ys) x
in_right [] ys x i = i
in_right (y ∷ xs) ys x i = inr (in_right xs ys x i)

pub in_cases : {A : Type 0} (xs ys : List A) (x : A) → In (xs ++ ys) x → In xs x ⊎ In ys x
in_cases [] ys x i = inr i
in_cases (y ∷ xs) ys x (inl e) = inl (inl e)
in_cases (y ∷ xs) ys x (inr i) = elim (in_cases xs ys x i) [ inl j ↦ inl (inr j) | inr j ↦ inr j ]

pub or_cases : (a b : Bool) → (a || b) ≡ true → (a ≡ true) ⊎ (b ≡ true)
or_cases true b e = inl refl
or_cases false b e = inr e

pub or_left : (a b : Bool) → a ≡ true → (a || b) ≡ true
or_left true b e = refl
or_left false b e = absurd (false≢true e)

pub or_right : (a b : Bool) → b ≡ true → (a || b) ≡ true
or_right true b e = refl
or_right false b e = e

pub or_neither : (a b : Bool) → (a || b) ≡ false → (a ≡ false) × (b ≡ false)
or_neither true b e = absurd (false≢true (sym e))
or_neither false b e = (refl, e)

pub and_parts : (a b : Bool) → (a && b) ≡ true → (a ≡ true) × (b ≡ true)
and_parts true b e = (refl, e)
and_parts false b e = absurd (false≢true e)

pub and_both : (a b : Bool) → a ≡ true → b ≡ true → (a && b) ≡ true
and_both true b e f = f
and_both false b e f = e

-- one that passes the test
pub any_in : {A : Type 0} (test : A → Bool) (xs : List A) → list_any test xs ≡ true → (x : A) × In xs x × (test x ≡ true)
any_in test [] e = absurd (false≢true e)
any_in test (y ∷ xs) e = elim (or_cases (test y) _ e) [
  | inl here ↦ (y, inl refl, here)
  | inr there ↦ let r = any_in test xs there in (r.0, inr r.1, r.2)
]

pub any_from : {A : Type 0} (test : A → Bool) (xs : List A) (x : A) → In xs x → test x ≡ true → list_any test xs ≡ true
any_from test [] x i e = absurd i
any_from {A = A} test (y ∷ xs) x (inl same) e = or_left (test y) _ (subst (λ (z : A). test z ≡ true) (sym same) e)
any_from test (y ∷ xs) x (inr i) e = or_right (test y) _ (any_from test xs x i e)

pub all_in : {A : Type 0} (test : A → Bool) (xs : List A) (x : A) → list_all test xs ≡ true → In xs x → test x ≡ true
all_in test [] x e i = absurd i
all_in {A = A} test (y ∷ xs) x e (inl same) = subst (λ (z : A). test z ≡ true) same (and_parts (test y) _ e).0
all_in test (y ∷ xs) x e (inr i) = all_in test xs x (and_parts (test y) _ e).1 i

pub all_out : {A : Type 0} (test : A → Bool) (xs : List A) → ((x : A) → In xs x → test x ≡ true) → list_all test xs ≡ true
all_out test [] h = refl
all_out test (y ∷ xs) h = and_both (test y) _ (h y (inl refl)) (all_out test xs (λ x i. h x (inr i)))

pub in_filter : {A : Type 0} (test : A → Bool) (xs : List A) (x : A) → In (filter test xs) x → In xs x × (test x ≡ true)
in_filter test [] x i = absurd i
in_filter {A = A} test (y ∷ xs) x i = by_test (test y) refl i (in_filter test xs x)
  where
    by_test : (b : Bool) → test y ≡ b → In (cond b (y ∷ filter test xs) (filter test xs)) x → (In (filter test xs) x → In xs x × (test x ≡ true)) → In (y ∷ xs) x × (test x ≡ true)
    by_test true e (inl same) again = (inl same, subst (λ (z : A). test z ≡ true) same e)
    by_test true e (inr i) again = (inr (again i).0, (again i).1)
    by_test false e i again = (inr (again i).0, (again i).1)

pub filter_in : {A : Type 0} (test : A → Bool) (xs : List A) (x : A) → In xs x → test x ≡ true → In (filter test xs) x
filter_in test [] x i e = absurd i
filter_in {A = A} test (y ∷ xs) x i e = by_test (test y) refl i (λ j. filter_in test xs x j e)
  where
    by_test : (b : Bool) → test y ≡ b → In (y ∷ xs) x → (In xs x → In (filter test xs) x) → In (cond b (y ∷ filter test xs) (filter test xs)) x
    by_test true b (inl same) again = inl same
    by_test true b (inr j) again = inr (again j)
    by_test false b (inl same) again = absurd (false≢true (sym b ∙ subst (λ (z : A). test z ≡ true) (sym same) e))
    by_test false b (inr j) again = again j
