-- A folder has one listing: two ascending lists of the same keys are one.
use Rattle.std.proofs.Common.{◌≡◌, ◌<◌, ◌⊎◌, inl, inr, ◌∙◌, ℕ, zero, suc, List, [], ◌∷◌, length, get_or, refl, sym, ap, subst, arith}
use Rattle.std.specs.List.{Contains}
use Rattle.cache_types.specs.declared.key.Key.{Key}
use Rattle.file_log.specs.Legal.{ComesBefore, AreAscending}
use Rattle.world_tables.proofs.Listings.{first_or_later}

not_before_itself : (a : List ℕ) → ComesBefore a a → ⊥
not_before_itself [] h = h
not_before_itself (x ∷ xs) h =
    elim h [
      | inl less ↦ omega (arith, less)
      | inr e ↦ not_before_itself xs e.1
    ]

before_both : (a b c : List ℕ) → ComesBefore a b → ComesBefore b c → ComesBefore a c
before_both [] [] c h k = absurd h
before_both [] (y ∷ ys) [] h k = absurd k
before_both [] (y ∷ ys) (z ∷ zs) h k = tt
before_both (x ∷ xs) [] c h k = absurd h
before_both (x ∷ xs) (y ∷ ys) [] h k = absurd k
before_both (x ∷ xs) (y ∷ ys) (z ∷ zs) h k =
    elim h [
      | inl p ↦ elim k [ inl q ↦ inl (omega (arith, p, q)) | inr q ↦ inl (omega (arith, p, q.0)) ]
      | inr p ↦ elim k [ inl q ↦ inl (omega (arith, p.0, q)) | inr q ↦ inr (p.0 ∙ q.0, before_both xs ys zs p.1 q.1) ]
    ]

rest_ascending : (key : Key) (keys : List Key) → AreAscending (key ∷ keys) → AreAscending keys
rest_ascending key [] a = tt
rest_ascending key (next ∷ keys) a = a.1

-- the first key comes before each later one
first_before : (key other : Key) (keys : List Key) → AreAscending (key ∷ keys) → Contains keys other → ComesBefore key.bytes other.bytes
first_before key other [] a h = absurd (omega (arith, h.1))
first_before key other (next ∷ keys) a h =
    elim (first_or_later next other keys h) [
      | inl same ↦ subst (λ (k : Key). ComesBefore key.bytes k.bytes) same a.0
      | inr later ↦ before_both key.bytes next.bytes other.bytes a.0 (first_before next other keys a.1 later)
    ]

here : (x : Key) (xs : List Key) → Contains (x ∷ xs) x
here x xs = (0, omega arith, refl)

later : (y x : Key) (xs : List Key) → Contains xs x → Contains (y ∷ xs) x
later y x xs h = (suc h.0, omega (arith, h.1), h.2)

-- the keys of one list are in the other
abbrev pub Within : List Key → List Key → Type 0
Within xs ys = (key : Key) → Contains xs key → Contains ys key

same_first : (x y : Key) (xs ys : List Key) → AreAscending (x ∷ xs) → AreAscending (y ∷ ys) → (y ≡ x) ⊎ Contains ys x → (x ≡ y) ⊎ Contains xs y → x ≡ y
same_first x y xs ys a b p q =
    elim p [
      | inl same ↦ sym same
      | inr there ↦ elim q [
        | inl same ↦ same
        | inr here' ↦ absurd (not_before_itself x.bytes (before_both x.bytes y.bytes x.bytes (first_before x y xs a here') (first_before y x ys b there)))
      ]
    ]

-- without the first key of both
rest_within : (x y : Key) (xs ys : List Key) → x ≡ y → AreAscending (x ∷ xs) → Within (x ∷ xs) (y ∷ ys) → Within xs ys
rest_within x y xs ys same a f key h =
    elim (first_or_later y key ys (f key (later x key xs h))) [
      | inl e ↦ absurd (not_before_itself x.bytes (subst (λ (k : Key). ComesBefore x.bytes k.bytes) (sym (same ∙ e)) (first_before x key xs a h)))
      | inr there ↦ there
    ]

pub one_listing : (xs ys : List Key) → AreAscending xs → AreAscending ys → Within xs ys → Within ys xs → xs ≡ ys
one_listing [] [] a b f g = refl
one_listing [] (y ∷ ys) a b f g = absurd (omega (arith, (g y (here y ys)).1))
one_listing (x ∷ xs) [] a b f g = absurd (omega (arith, (f x (here x xs)).1))
one_listing (x ∷ xs) (y ∷ ys) a b f g =
    let same : x ≡ y = same_first x y xs ys a b (first_or_later y x ys (f x (here x xs))) (first_or_later x y xs (g y (here y ys))) in
    ap (λ (k : Key). k ∷ xs) same
    ∙ ap (λ (ks : List Key). y ∷ ks) (one_listing xs ys (rest_ascending x xs a) (rest_ascending y ys b) (rest_within x y xs ys same a f) (rest_within y x ys xs (sym same) b g))
