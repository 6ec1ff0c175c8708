-- The value of a variable, by the pair that was found.
use Rattle.std.proofs.Common.{◌≡◌, ℕ, Bool, true, false, cond, List, [], ◌∷◌, map, find, Option, Some, None, option_map, option_and_then, String, string_bytes, bytes_eq, refl, sym, ap, ◌∙◌}
use Rattle.settings_read.specs.Variables.{texts_of, value_of, unless_empty}

some_or : {X Y : Type 0} (f : X → Y) (b : Bool) (x : X) (o : Option X) → cond b (Some (f x)) (option_map f o) ≡ option_map f (cond b (Some x) o)
some_or f true x o = refl
some_or f false x o = refl

find-map : {X Y : Type 0} (p : Y → Bool) (f : X → Y) (xs : List X) → find p (map f xs) ≡ option_map f (find (λ x. p (f x)) xs)
find-map p f [] = refl
find-map p f (x ∷ xs) = ap (cond (p (f x)) (Some (f x))) (find-map p f xs) ∙ some_or f (p (f x)) x (find (λ y. p (f y)) xs)

-- the value in the pair that was found first
pub value_found : {A : Type 0} (pairs : List (String A × String A)) (name : List ℕ) (found : Option (String A × String A)) → found ≡ find (λ pair. bytes_eq (string_bytes pair.0) name) pairs → value_of (texts_of pairs) name ≡ option_and_then (λ pair. unless_empty (string_bytes pair.1)) found
value_found pairs name found e =
    ap (λ (o : Option (List ℕ × List ℕ)). option_and_then unless_empty (option_map (λ pair. pair.1) o)) (find-map (λ pair. bytes_eq pair.0 name) (λ pair. (string_bytes pair.0, string_bytes pair.1)) pairs ∙ ap (option_map (λ pair. (string_bytes pair.0, string_bytes pair.1))) (sym e))
    ∙ by_pair found
  where
    by_pair : {A : Type 0} (o : Option (String A × String A)) → option_and_then unless_empty (option_map (λ (pair : List ℕ × List ℕ). pair.1) (option_map (λ (pair : String A × String A). (string_bytes pair.0, string_bytes pair.1)) o)) ≡ option_and_then (λ pair. unless_empty (string_bytes pair.1)) o
    by_pair None = refl
    by_pair (Some pair) = refl
