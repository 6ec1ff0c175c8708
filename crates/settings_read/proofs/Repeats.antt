-- Names, each once, and one piece more.
use Rattle.std.proofs.Common.{◌≡◌, ℕ, ◌+◌, ◌<◌, Bool, true, false, not, cond, ◌&&◌, ◌||◌, List, [], ◌∷◌, ◌++◌, length, get_or, take, filter, bytes_eq, refl, sym, ap, ◌∙◌, append-nil}
use Rattle.std.specs.Cmp.Lexicographic.{nat_list_eq_equiv}
use Rattle.std.specs.List.{list_any}
use Rattle.std.proofs.lemmas.List.{take_more}
use Rattle.std.proofs.lemmas.List.Elements.{filter-append}
use Rattle.path_names.specs.RoNames.{is_ro_name}
use Rattle.settings_read.specs.Names.{first_of_each, names_among}
use Rattle.settings_read.specs.Seen.{has_name, with_name}

-- the names that differ from y
abbrev others : List ℕ → List (List ℕ) → List (List ℕ)
others y names = filter (λ z. not (bytes_eq y z)) names

any_of : (p : List ℕ → Bool) (b : Bool) (z : List ℕ) (names : List (List ℕ)) → list_any p (cond b (z ∷ names) names) ≡ cond b (p z || list_any p names) (list_any p names)
any_of p true z names = refl
any_of p false z names = refl

-- yz, yx and xz say which of the names x, y and z are equal
one_more : (yz yx xz among left : Bool) → (yz ≡ true → yx ≡ xz) → (yz ≡ false → yx ≡ true → xz ≡ false) → left ≡ (not yx && among) → cond (not yz) (xz || left) left ≡ (not yx && (xz || among))
one_more true true xz among left same apart e = e
one_more true false true among left same apart e = absurd (let clash : false ≡ true = same refl in cc)
one_more true false false among left same apart e = e
one_more false true true among left same apart e = absurd (let clash : true ≡ false = apart refl refl in cc)
one_more false true false among left same apart e = e
one_more false false true among left same apart e = refl
one_more false false false among left same apart e = e

-- among them x is found where it differs from y
has_other : (y x : List ℕ) (names : List (List ℕ)) → has_name (others y names) x ≡ (not (bytes_eq y x) && has_name names x)
has_other y x [] = no_more (bytes_eq y x)
  where
    no_more : (b : Bool) → false ≡ (not b && false)
    no_more true = refl
    no_more false = refl
has_other y x (z ∷ names) =
    let laws = nat_list_eq_equiv in
    any_of (bytes_eq x) (not (bytes_eq y z)) z (others y names)
    ∙ one_more (bytes_eq y z) (bytes_eq y x) (bytes_eq x z) (has_name names x) (has_name (others y names) x) (λ e. laws.congr y z x e ∙ laws.symm z x) (λ n e. sym (laws.congr y x z e) ∙ n) (has_other y x names)

-- a last name is kept where it is neither y nor among the rest
last_name : (keep : List (List ℕ) → List (List ℕ)) (rest : List (List ℕ)) (y x : List ℕ) (is_y among : Bool) → keep (rest ++ x ∷ []) ≡ keep rest ++ cond (not is_y) (x ∷ []) [] → y ∷ keep (cond (not among) (rest ++ x ∷ []) rest) ≡ cond (not (is_y || (not is_y && among))) ((y ∷ keep rest) ++ x ∷ []) (y ∷ keep rest)
last_name keep rest y x true true e = refl
last_name keep rest y x false true e = refl
last_name keep rest y x true false e = ap (λ (names : List (List ℕ)). y ∷ names) (e ∙ append-nil (keep rest))
last_name keep rest y x false false e = ap (λ (names : List (List ℕ)). y ∷ names) e

first_of_each-push : (names : List (List ℕ)) (x : List ℕ) → first_of_each (names ++ x ∷ []) ≡ cond (not (has_name (first_of_each names) x)) (first_of_each names ++ x ∷ []) (first_of_each names)
first_of_each-push [] x = refl
first_of_each-push (y ∷ names) x =
    let rest = first_of_each names in
    let whole : List (List ℕ) = y ∷ others y rest in
    let found : has_name whole x ≡ (bytes_eq y x || (not (bytes_eq y x) && has_name rest x)) = cc (nat_list_eq_equiv.symm x y, has_other y x rest) in
    ap (λ (all : List (List ℕ)). y ∷ others y all) (first_of_each-push names x)
    ∙ last_name (others y) rest y x (bytes_eq y x) (has_name rest x) (filter-append (λ z. not (bytes_eq y z)) rest (x ∷ []))
    ∙ ap (λ (b : Bool). cond (not b) (whole ++ x ∷ []) whole) (sym found)

with_piece : (names : List (List ℕ)) (x : List ℕ) (is_name : Bool) → first_of_each (names ++ cond is_name (x ∷ []) []) ≡ cond (is_name && not (has_name (first_of_each names) x)) (first_of_each names ++ x ∷ []) (first_of_each names)
with_piece names x true = first_of_each-push names x
with_piece names x false = ap first_of_each (append-nil names)

names_among-push : (pieces : List (List ℕ)) (x : List ℕ) → names_among (pieces ++ x ∷ []) ≡ with_name (names_among pieces) x
names_among-push pieces x = ap first_of_each (filter-append is_ro_name pieces (x ∷ [])) ∙ with_piece (filter is_ro_name pieces) x (is_ro_name x)

-- the names among the first pieces, and one piece more
pub names_among_more : (all : List (List ℕ)) (n : ℕ) (names : List (List ℕ)) (piece : List ℕ) → n < length all → piece ≡ get_or all n piece → names ≡ names_among (take n all) → with_name names piece ≡ names_among (take (n + 1) all)
names_among_more all n names piece within is e =
    ap (λ (kept : List (List ℕ)). with_name kept piece) e
    ∙ sym (names_among-push (take n all) piece)
    ∙ ap names_among (ap (λ (x : List ℕ). take n all ++ x ∷ []) is ∙ sym (take_more all n piece within))
