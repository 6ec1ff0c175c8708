-- The keys of a folder's entries, sorted and each once, are its listing.
use Rattle.std.proofs.Common.{◌≡◌, ◌<◌, ◌⊎◌, inl, inr, ℕ, zero, suc, nat_eq, Bool, true, false, cond, ◌&&◌, List, [], ◌∷◌, length, get_or, Option, Some, None, refl, sym, ap, subst, ◌∙◌, arith}
use Rattle.std.specs.Prelude.{IsSome}
use Rattle.std.specs.List.{Contains, cons_option}
use Rattle.std.specs.List.Sorted.{IsStrictlySortedBy}
use Rattle.std.specs.Map.{keys_of, lookup}
use Rattle.std.specs.Cmp.{IsTotalOrder, IsEquivalence, unsigned_ties}
use Rattle.std.specs.Cmp.Lexicographic.{slice_cmp, pointwise, bytes_decides, lists_ties}
use Rattle.std.specs.Ordering.{nat_cmp, ordering_then, eq_by_cmp}
use Rattle.std.specs.declared.cmp.Ordering.{Ordering}
use Rattle.std.specs.declared.cmp.Ordering.TheVariants.{Less, Greater}
use Rattle.std.proofs.lemmas.Bool.{eqb-true, eq-eqb}
use Rattle.std.proofs.lemmas.Cmp.{ranked, by_ranked, on_total, on_equiv, nat_list_cmp_total, nat_list_eq_equiv}
use Rattle.cache_types.specs.declared.key.Key.{Key}
use Rattle.file_log.specs.Legal.{ComesBefore, AreAscending}
use Rattle.world_tables.specs.declared.names.KeyPlace.{KeyPlace}
use Rattle.world_tables.specs.Find.{same_place}
use Rattle.world_tables.specs.Listing.{key_in, keys_in}

-- ---- their order

comes_before : (a b : List ℕ) → slice_cmp nat_cmp a b ≡ Less → ComesBefore a b
comes_before [] [] e = absurd cc
comes_before [] (y ∷ ys) e = tt
comes_before (x ∷ xs) [] e = absurd cc
comes_before (x ∷ xs) (y ∷ ys) e =
    let rest : Ordering → Ordering = λ (o : Ordering). ordering_then o (slice_cmp nat_cmp xs ys) in
    by_ranked (x < y) (x ≡ y) (y < x) (nat_cmp x y) (ranked x y (nat_cmp x y) refl)
    (λ o h. inl h)
    (λ o h. inr (h, comes_before xs ys (sym (ap rest o) ∙ e)))
    (λ o h. let wrong : Greater ≡ Less = sym (ap rest o) ∙ e in absurd cc)

-- keys go by their bytes
abbrev pub key_order : Key → Key → Ordering
key_order a b = slice_cmp nat_cmp a.bytes b.bytes

pub key_order-total : IsTotalOrder key_order
key_order-total = on_total (λ (k : Key). k.bytes) nat_list_cmp_total

-- keys are one where their bytes are
abbrev pub same_key : Key → Key → Bool
same_key a b = pointwise nat_eq a.bytes b.bytes

pub same_key-ties : (a b : Key) → same_key a b ≡ eq_by_cmp key_order a b
same_key-ties a b = lists_ties nat_cmp unsigned_ties a.bytes b.bytes

pub same_key-true : (a b : Key) → same_key a b ≡ true → a ≡ b
same_key-true a b e = let bytes : a.bytes ≡ b.bytes = (bytes_decides a.bytes b.bytes).0 e in ap (λ (n : List ℕ). record { bytes = n }) bytes

pub same_key-equiv : IsEquivalence same_key
same_key-equiv = on_equiv (λ (k : Key). k.bytes) nat_list_eq_equiv

pub ascending : (keys : List Key) → IsStrictlySortedBy key_order keys → AreAscending keys
unfolding IsStrictlySortedBy
ascending [] s = tt
ascending (key ∷ []) s = tt
ascending (key ∷ next ∷ keys) s = (comes_before key.bytes next.bytes s.0.0, ascending (next ∷ keys) s.1)

-- ---- which they are

at_first : {A : Type 0} (y x : A) (xs : List A) (k : ℕ) → k < length (y ∷ xs) → get_or (y ∷ xs) k x ≡ x → (y ≡ x) ⊎ Contains xs x
at_first y x xs zero less is = inl is
at_first y x xs (suc k) less is = inr (k, omega (arith, less), is)

pub first_or_later : {A : Type 0} (y x : A) (xs : List A) → Contains (y ∷ xs) x → (y ≡ x) ⊎ Contains xs x
first_or_later y x xs h = at_first y x xs h.0 h.1 h.2

later : {A : Type 0} (o : Option A) (x : A) (xs : List A) → Contains xs x → Contains (cons_option o xs) x
later None x xs h = h
later (Some y) x xs h = (suc h.0, omega (arith, h.1), h.2)

abbrev place_of : ℕ → Key → KeyPlace
place_of root key = record { root = root; key = key }

both : (a b : Bool) → (a && b) ≡ true → (a ≡ true) × (b ≡ true)
both true b e = (refl, e)
both false b e = absurd cc

same_place-true : (a b : KeyPlace) → same_place a b ≡ true → a ≡ b
same_place-true a b e =
    let p = both (nat_eq a.root b.root) (same_key a.key b.key) e in
    let root : a.root ≡ b.root = eqb-true a.root b.root p.0 in
    ap (λ (n : ℕ). place_of n a.key) root ∙ ap (λ (k : Key). place_of b.root k) (same_key-true a.key b.key p.1)

same_place-self : (a : KeyPlace) → same_place a a ≡ true
same_place-self a = rw (eq-eqb a.root a.root refl, (bytes_decides a.key.bytes a.key.bytes).1 refl) refl

-- the folder has this entry
abbrev IsThere : ℕ → ℕ → List (KeyPlace × ℕ) → Key → Type 0
IsThere root byte entries key = IsSome (lookup (same_place (place_of root key)) entries) × (get_or key.bytes 0 0 ≡ byte)

is_entry : (root byte : ℕ) (place : KeyPlace) (key : Key) → key_in root byte place ≡ Some key → (place ≡ place_of root key) × (get_or key.bytes 0 0 ≡ byte)
is_entry root byte place key e = chosen (nat_eq place.root root) (nat_eq (get_or place.key.bytes 0 0) byte) refl refl e
  where
    chosen : (p q : Bool) → nat_eq place.root root ≡ p → nat_eq (get_or place.key.bytes 0 0) byte ≡ q → cond (p && q) (Some place.key) None ≡ Some key → (place ≡ place_of root key) × (get_or key.bytes 0 0 ≡ byte)
    chosen true true a b e =
        let same : place.key ≡ key = cc in
        (ap (λ (n : ℕ). place_of n place.key) (eqb-true place.root root a) ∙ ap (λ (k : Key). place_of root k) same, ap (λ (k : Key). get_or k.bytes 0 0) (sym same) ∙ eqb-true (get_or place.key.bytes 0 0) byte b)
    chosen true false a b e = absurd cc
    chosen false q a b e = absurd cc

entry_is : (root byte : ℕ) (key : Key) → get_or key.bytes 0 0 ≡ byte → key_in root byte (place_of root key) ≡ Some key
entry_is root byte key e = rw (eq-eqb root root refl, eq-eqb (get_or key.bytes 0 0) byte e) refl

here_or_later : (q : Bool) (file : ℕ) (o : Option ℕ) → IsSome o → IsSome (cond q (Some file) o)
here_or_later true file o h = refl
here_or_later false file o h = h

found_here : (q : Bool) (file : ℕ) (o : Option ℕ) → q ≡ true → IsSome (cond q (Some file) o)
found_here true file o e = refl
found_here false file o e = absurd cc

is_there_by : (root byte : ℕ) (place : KeyPlace) (file : ℕ) (entries : List (KeyPlace × ℕ)) (key : Key) (o : Option Key) → key_in root byte place ≡ o
    → (Contains (keys_in root byte (keys_of entries)) key → IsThere root byte entries key)
    → Contains (cons_option o (keys_in root byte (keys_of entries))) key → IsThere root byte ((place, file) ∷ entries) key
is_there_by root byte place file entries key None e more h =
    let r = more h in (here_or_later (same_place (place_of root key) place) file (lookup (same_place (place_of root key)) entries) r.0, r.1)
is_there_by root byte place file entries key (Some own) e more h =
    elim (first_or_later own key (keys_in root byte (keys_of entries)) h) [
      | inl same ↦
          let r = is_entry root byte place key (e ∙ ap Some same) in
          (found_here (same_place (place_of root key) place) file (lookup (same_place (place_of root key)) entries) (ap (same_place (place_of root key)) r.0 ∙ same_place-self (place_of root key)), r.1)
      | inr there ↦ let r = more there in (here_or_later (same_place (place_of root key) place) file (lookup (same_place (place_of root key)) entries) r.0, r.1)
    ]

pub is_there : (root byte : ℕ) (entries : List (KeyPlace × ℕ)) (key : Key) → Contains (keys_in root byte (keys_of entries)) key → IsThere root byte entries key
is_there root byte [] key h = absurd (omega (arith, h.1))
is_there root byte (x ∷ entries) key h = is_there_by root byte x.0 x.1 entries key (key_in root byte x.0) refl (is_there root byte entries key) h

is_listed_by : (root byte : ℕ) (place : KeyPlace) (file : ℕ) (entries : List (KeyPlace × ℕ)) (key : Key) (q : Bool) → same_place (place_of root key) place ≡ q → get_or key.bytes 0 0 ≡ byte
    → (IsSome (lookup (same_place (place_of root key)) entries) → Contains (keys_in root byte (keys_of entries)) key)
    → IsSome (cond q (Some file) (lookup (same_place (place_of root key)) entries)) → Contains (cons_option (key_in root byte place) (keys_in root byte (keys_of entries))) key
is_listed_by root byte place file entries key true e b more h =
    let same : place ≡ place_of root key = sym (same_place-true (place_of root key) place e) in
    let is : key_in root byte place ≡ Some key = ap (key_in root byte) same ∙ entry_is root byte key b in
    let first : Contains (key ∷ keys_in root byte (keys_of entries)) key = (0, omega arith, refl) in
    subst (λ (o : Option Key). Contains (cons_option o (keys_in root byte (keys_of entries))) key) (sym is) first
is_listed_by root byte place file entries key false e b more h = later (key_in root byte place) key (keys_in root byte (keys_of entries)) (more h)

pub is_listed : (root byte : ℕ) (entries : List (KeyPlace × ℕ)) (key : Key) → IsThere root byte entries key → Contains (keys_in root byte (keys_of entries)) key
is_listed root byte [] key h = let none : false ≡ true = h.0 in absurd cc
is_listed root byte (x ∷ entries) key h = is_listed_by root byte x.0 x.1 entries key (same_place (place_of root key) x.0) refl h.1 (λ some. is_listed root byte entries key (some, h.1)) h.0
