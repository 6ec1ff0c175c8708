-- Parts before some words, and the parts of those words.
use Rattle.std.proofs.Common.{◌≡◌, Bool, true, false, cond, not, ◌&&◌, ◌==◌, List, [], ◌∷◌, ◌++◌, length, Option, Some, None, refl, sym, ap, ap₂, ◌∙◌, append_assoc}
use Rattle.std.specs.Prelude.{option_map}
use Rattle.clap.specs.Walk.{Text}
use Rattle.cmd_words.specs.declared.option_list.OptionPair.{OptionPair}
use Rattle.cmd_words.specs.Options.{has_option}
use Rattle.cmd_words.specs.Reading.{Parts, with_option, with_place}

abbrev pub pair : Text → Text → OptionPair
pair name value = record { name = name; value = value }

-- an option may come after these
abbrev pub is_new : (Text → Bool) → List OptionPair → Text → Text → Bool
is_new is_name before name value = is_name name && (not (has_option before name) && not (length value == 0))

-- so may each of these
abbrev pub are_new : (Text → Bool) → List OptionPair → List OptionPair → Bool
are_new is_name before [] = true
are_new is_name before (option ∷ rest) = is_new is_name before option.name option.value && are_new is_name (before ++ option ∷ []) rest

abbrev pub joined : (Text → Bool) → Parts → Parts → Option Parts
joined is_name before parts = cond (are_new is_name before.options parts.options) (Some (record { options = before.options ++ parts.options; places = before.places ++ parts.places })) None

-- the parts before and those after, where there are any
abbrev pub after : (Text → Bool) → Parts → Option Parts → Option Parts
after is_name before None = None
after is_name before (Some parts) = joined is_name before parts

pub cond_same : {A : Type 0} (b : Bool) (x : A) → cond b x x ≡ x
cond_same true x = refl
cond_same false x = refl

and_cond : {A : Type 0} (a b : Bool) (x y : A) → cond (a && b) x y ≡ cond a (cond b x y) y
and_cond true b x y = refl
and_cond false b x y = refl

parts_are : (a b : List OptionPair) (s t : List Text) → a ≡ b → s ≡ t → ◌≡◌ {A = Parts} (record { options = a; places = s }) (record { options = b; places = t })
parts_are a b s t e f = ap₂ (λ (options : List OptionPair) (places : List Text). record { options = options; places = places }) e f

pub after_option : (is_name : Text → Bool) (before : Parts) (name value : Text) (next : Option Parts)
    → after is_name before (option_map (with_option name value) next) ≡ cond (is_new is_name before.options name value) (after is_name (record { options = before.options ++ pair name value ∷ []; places = before.places }) next) None
after_option is_name before name value None = sym (cond_same (is_new is_name before.options name value) None)
after_option is_name before name value (Some parts) =
    ap (λ (p : Parts). cond (is_new is_name before.options name value && are_new is_name (before.options ++ pair name value ∷ []) parts.options) (Some p) None)
    (parts_are (before.options ++ pair name value ∷ parts.options) ((before.options ++ pair name value ∷ []) ++ parts.options) (before.places ++ parts.places) (before.places ++ parts.places) (sym (append_assoc before.options (pair name value ∷ []) parts.options)) refl)
    ∙ and_cond (is_new is_name before.options name value) (are_new is_name (before.options ++ pair name value ∷ []) parts.options) _ None

pub after_place : (is_name : Text → Bool) (before : Parts) (word : Text) (next : Option Parts)
    → after is_name before (option_map (with_place word) next) ≡ after is_name (record { options = before.options; places = before.places ++ word ∷ [] }) next
after_place is_name before word None = refl
after_place is_name before word (Some parts) =
    ap (λ (p : Parts). cond (are_new is_name before.options parts.options) (Some p) None)
    (parts_are (before.options ++ parts.options) (before.options ++ parts.options) (before.places ++ word ∷ parts.places) ((before.places ++ word ∷ []) ++ parts.places) refl (sym (append_assoc before.places (word ∷ []) parts.places)))

append_none : {A : Type 0} (xs : List A) → xs ++ [] ≡ xs
append_none [] = refl
append_none (x ∷ xs) = ap (λ ys. x ∷ ys) (append_none xs)

pub after_nothing : (is_name : Text → Bool) (before : Parts) → after is_name before (Some (record { options = []; places = [] })) ≡ Some before
after_nothing is_name before = ap (λ (p : Parts). Some p) (parts_are _ _ _ _ (append_none before.options) (append_none before.places))

pub after_rest : (is_name : Text → Bool) (before : Parts) (words : List Text) → after is_name before (Some (record { options = []; places = words })) ≡ Some (record { options = before.options; places = before.places ++ words })
after_rest is_name before words = ap (λ (p : Parts). Some p) (parts_are _ _ _ _ (append_none before.options) refl)
