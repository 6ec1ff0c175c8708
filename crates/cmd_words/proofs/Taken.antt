-- The options that the walk takes one by one are those that are taken as a list.
use Rattle.std.proofs.Common.{◌≡◌, Bool, true, false, cond, not, ◌&&◌, ◌||◌, ◌==◌, List, [], ◌∷◌, ◌++◌, length, Option, Some, None, refl, sym, ap, ap₂, ◌∙◌, true≢false}
use Rattle.std.specs.Prelude.{bytes_eq, option_and_then, option_map}
use Rattle.std.specs.Cmp.Lexicographic.{nat_list_eq_equiv}
use Rattle.std.specs.List.{list_all}
use Rattle.std.proofs.Math.Bool.{and-false, and-true}
use Rattle.clap.specs.Walk.{Text}
use Rattle.cmd_words.specs.declared.option_list.OptionPair.{OptionPair}
use Rattle.cmd_words.specs.Options.{has_no_empty_value, has_no_repeat, has_option}
use Rattle.cmd_words.specs.Parsed.{has_stray, is_taken, option_names, stray_at, taken_parts}
use Rattle.cmd_words.specs.Reading.{Parts, Shape, begins_with_dash, ends_options, option_name, parts_at, parts_of, place, shape_of, stray, whole_option, with_option, with_place}
use Rattle.cmd_words.proofs.Joins.{after, are_new, cond_same}
use Rattle.cmd_words.proofs.Looks.{Look, at_end, at_name, at_place, at_stray, at_whole, look}
use Rattle.cmd_words.proofs.Rules.{is_among}

-- none of these stands before
abbrev apart : List OptionPair → List OptionPair → Bool
apart before options = list_all (λ o. not (has_option before o.name)) options

regroup : (known all_known some all_some lone all_lone fresh all_fresh : Bool)
    → ((known && (fresh && some)) && (((all_known && all_some) && all_lone) && (all_fresh && lone))) ≡ ((((known && all_known) && (some && all_some)) && (lone && all_lone)) && (fresh && all_fresh))
regroup false all_known some all_some lone all_lone fresh all_fresh = refl
regroup true false some all_some lone all_lone fresh all_fresh = and-false (fresh && some)
regroup true true false all_some lone all_lone true all_fresh = refl
regroup true true false all_some lone all_lone false all_fresh = refl
regroup true true true false lone all_lone fresh all_fresh = and-false (fresh && true)
regroup true true true true false all_lone fresh all_fresh =
    ap (λ (x : Bool). (fresh && true) && (all_lone && x)) (and-false all_fresh) ∙ ap (λ (x : Bool). (fresh && true) && x) (and-false all_lone) ∙ and-false (fresh && true)
regroup true true true true true false fresh all_fresh = and-false (fresh && true)
regroup true true true true true true true true = refl
regroup true true true true true true true false = refl
regroup true true true true true true false true = refl
regroup true true true true true true false false = refl

has_option_push : (before : List OptionPair) (o : OptionPair) (name : Text) → has_option (before ++ o ∷ []) name ≡ (has_option before name || bytes_eq o.name name)
has_option_push [] o name = or_false (bytes_eq o.name name)
  where
    or_false : (b : Bool) → (b || false) ≡ b
    or_false true = refl
    or_false false = refl
has_option_push (p ∷ before) o name = ap (λ (b : Bool). bytes_eq p.name name || b) (has_option_push before o name) ∙ or_assoc (bytes_eq p.name name)
  where
    or_assoc : (b : Bool) → (b || (has_option before name || bytes_eq o.name name)) ≡ ((b || has_option before name) || bytes_eq o.name name)
    or_assoc true = refl
    or_assoc false = refl

apart_push : (before : List OptionPair) (o : OptionPair) (options : List OptionPair) → apart (before ++ o ∷ []) options ≡ (apart before options && not (has_option options o.name))
apart_push before o [] = refl
apart_push before o (p ∷ options) =
    ap₂ (λ (b rest : Bool). not b && rest) (has_option_push before o p.name ∙ ap (λ (b : Bool). has_option before p.name || b) (nat_list_eq_equiv.symm o.name p.name)) (apart_push before o options)
    ∙ split (has_option before p.name) (bytes_eq p.name o.name) (apart before options) (has_option options o.name)
  where
    split : (had same all other : Bool) → (not (had || same) && (all && not other)) ≡ ((not had && all) && not (same || other))
    split true same all other = refl
    split false true true other = refl
    split false true false other = refl
    split false false all other = refl

are_new_is : (before options : List OptionPair)
    → are_new (is_among option_names) before options ≡ (((list_all (λ o. is_among option_names o.name) options && has_no_empty_value options) && has_no_repeat options) && apart before options)
are_new_is before [] = refl
are_new_is before (o ∷ options) =
    ap (λ (rest : Bool). (is_among option_names o.name && (not (has_option before o.name) && not (length o.value == 0))) && rest)
    (are_new_is (before ++ o ∷ []) options ∙ ap (λ (b : Bool). ((list_all (λ p. is_among option_names p.name) options && has_no_empty_value options) && has_no_repeat options) && b) (apart_push before o options))
    ∙ regroup (is_among option_names o.name) (list_all (λ p. is_among option_names p.name) options) (not (length o.value == 0)) (has_no_empty_value options) (not (has_option options o.name)) (has_no_repeat options) (not (has_option before o.name)) (apart before options)

nothing_before : (options : List OptionPair) → apart [] options ≡ true
nothing_before [] = refl
nothing_before (o ∷ options) = nothing_before options

are_taken : (options : List OptionPair) → are_new (is_among option_names) [] options ≡ is_taken options
are_taken options = are_new_is [] options ∙ ap (λ (b : Bool). is_taken options && b) (nothing_before options) ∙ and-true (is_taken options)

-- with nothing before them, the parts are those that clap takes
pub taken_is : (words : List Text) → after (is_among option_names) (record { options = []; places = [] }) (parts_of None words) ≡ taken_parts words
taken_is words = go (parts_of None words)
  where
    go : (o : Option Parts) → after (is_among option_names) (record { options = []; places = [] }) o ≡ option_and_then (λ (parts : Parts). cond (is_taken parts.options) (Some parts) None) o
    go None = refl
    go (Some parts) = ap (λ (b : Bool). cond b (Some parts) None) (are_taken parts.options)

-- ---- stray words

none_by_shape : (s : Shape) (word : Text) (rest : List Text) → stray_at s (has_stray rest) ≡ true → (has_stray rest ≡ true → (waiting : Option Text) → parts_of waiting rest ≡ None)
    → parts_at s word rest (parts_of None rest) (λ name. parts_of (Some name) rest) ≡ None
none_by_shape ends_options word rest e none = absurd (true≢false (sym e))
none_by_shape (whole_option name value) word rest e none = ap (option_map (with_option name value)) (none e None)
none_by_shape (option_name name) word rest e none = none e (Some name)
none_by_shape stray word rest e none = refl
none_by_shape place word rest e none = ap (option_map (with_place word)) (none e None)

dash_none : (name word : Text) (rest : List Text) → begins_with_dash word ≡ true → parts_of (Some name) (word ∷ rest) ≡ None
dash_none name word rest e = ap (λ (dash : Bool). cond dash None (option_map (with_option name word) (parts_of None rest))) e

none_by_look : (name word : Text) (rest : List Text) → Look word → has_stray (word ∷ rest) ≡ true → (has_stray rest ≡ true → (waiting : Option Text) → parts_of waiting rest ≡ None) → parts_of (Some name) (word ∷ rest) ≡ None
none_by_look name word rest (at_end looks) strays none = dash_none name word rest looks.dash_is
none_by_look name word rest (at_whole other value looks) strays none = dash_none name word rest looks.dash_is
none_by_look name word rest (at_name other looks) strays none = dash_none name word rest looks.dash_is
none_by_look name word rest (at_stray e dash) strays none = dash_none name word rest dash
none_by_look name word rest (at_place looks short) strays none =
    let later : has_stray rest ≡ true = ap (λ (s : Shape). stray_at s (has_stray rest)) (sym looks.shape_is) ∙ strays in
    ap (λ (o : Option Parts). cond (begins_with_dash word) None (option_map (with_option name word) o)) (none later None) ∙ cond_same (begins_with_dash word) None

-- words with a stray one have no parts
pub stray_none : (words : List Text) → has_stray words ≡ true → (waiting : Option Text) → parts_of waiting words ≡ None
stray_none [] strays waiting = absurd (true≢false (sym strays))
stray_none (word ∷ rest) strays None = none_by_shape (shape_of word) word rest strays (stray_none rest)
stray_none (word ∷ rest) strays (Some name) = none_by_look name word rest (look word) strays (stray_none rest)
