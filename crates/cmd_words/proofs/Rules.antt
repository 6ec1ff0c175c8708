-- The command that clap is given, once it is built: how it finds an option and the positional words.
use Rattle.std.proofs.Common.{◌≡◌, Bool, true, false, cond, ◌||◌, List, [], ◌∷◌, Some, None, refl, sym, ap, ◌∙◌, true≢false}
use Rattle.std.specs.Prelude.{codes, bytes_eq}
use Rattle.std.specs.Cmp.Lexicographic.{nat_list_eq_equiv}
use Rattle.std.specs.List.{list_any}
use Rattle.std.proofs.lemmas.Slice.Eq.{bytes_eq-Decides}
use Rattle.clap.specs.Simple.{Shape, built, is_simple, names_of, new_rule, new_shape}
use Rattle.clap.specs.Faults.{is_simple_and_free}
use Rattle.clap.specs.Walk.{Rule, Text, arg_by_id, arg_by_index, arg_by_long}
use Rattle.clap.specs.declared.builder.action.ArgAction.TheVariants.{Append, Set}
use Rattle.clap.specs.declared.builder.range.ValueRange.{ValueRange}
use Rattle.clap.specs.declared.builder.value_parser.ValueParser.TheVariants as parsers
use Rattle.cmd_words.specs.Parsed.{option_names, words_app}

-- one value
abbrev pub one : ValueRange
one = record { start_inclusive = 1; end_inclusive = 1 }

-- an option
abbrev pub built_option : Text → Rule
built_option name = record (new_rule name) { long = Some name; action = Some Set; parser = Some parsers.NonEmptyString; range = Some one }

-- the positional words
abbrev pub built_place : Rule
built_place = record (new_rule (codes "places")) { action = Some Append; parser = Some parsers.String; range = Some one; index = Some 1 }

-- options, and the positional words after them
abbrev pub rules_of : List Text → List Rule
rules_of [] = built_place ∷ []
rules_of (name ∷ names) = built_option name ∷ rules_of names

-- a built command of some rules
abbrev pub shape_with : List Rule → Shape
shape_with rules = record (new_shape (codes "words")) { rules = rules; no_binary_name = true; disable_help_flag = true; disable_help_subcommand = true; disable_version_flag = true; is_built = true }

-- a name is one of these
abbrev pub is_among : List Text → Text → Bool
is_among names name = list_any (bytes_eq name) names

pub top_is : (built words_app).top ≡ shape_with (rules_of option_names)
top_is = refl

pub no_names : names_of (built words_app) ≡ []
no_names = refl

pub simple : is_simple words_app ≡ true
simple = refl

pub simple_and_free : is_simple_and_free words_app ≡ true
simple_and_free = refl

pub same_text : (a b : Text) → bytes_eq a b ≡ true → a ≡ b
same_text a b e = (bytes_eq-Decides a b).0 e

pub long_found : (names : List Text) (name : Text) → arg_by_long (rules_of names) name ≡ cond (is_among names name) (Some (built_option name)) None
long_found [] name = refl
long_found (n ∷ names) name = ap (λ b. cond (b || false) (Some (built_option n)) (arg_by_long (rules_of names) name)) (nat_list_eq_equiv.symm n name) ∙ go (bytes_eq name n) refl (long_found names name)
  where
    go : (b : Bool) → bytes_eq name n ≡ b → arg_by_long (rules_of names) name ≡ cond (is_among names name) (Some (built_option name)) None → cond (b || false) (Some (built_option n)) (arg_by_long (rules_of names) name) ≡ cond (b || is_among names name) (Some (built_option name)) None
    go true e rest = ap (λ m. Some (built_option m)) (sym (same_text name n e))
    go false e rest = rest

pub id_found : (names : List Text) (name : Text) → is_among names name ≡ true → arg_by_id (rules_of names) name ≡ Some (built_option name)
id_found [] name among = absurd (true≢false (sym among))
id_found (n ∷ names) name among = ap (λ b. cond b (Some (built_option n)) (arg_by_id (rules_of names) name)) (nat_list_eq_equiv.symm n name) ∙ go (bytes_eq name n) refl (id_found names name) among
  where
    go : (b : Bool) → bytes_eq name n ≡ b → (is_among names name ≡ true → arg_by_id (rules_of names) name ≡ Some (built_option name)) → (b || is_among names name) ≡ true → cond b (Some (built_option n)) (arg_by_id (rules_of names) name) ≡ Some (built_option name)
    go true e rest among = ap (λ m. Some (built_option m)) (sym (same_text name n e))
    go false e rest among = rest among

-- what the walk needs of the rules
pub record Knows (rules : List Rule) (is_name : Text → Bool) : Type 0 where
  pub long : (name : Text) → arg_by_long rules name ≡ cond (is_name name) (Some (built_option name)) None
  pub id : (name : Text) → is_name name ≡ true → arg_by_id rules name ≡ Some (built_option name)
  pub place : arg_by_id rules (codes "places") ≡ Some built_place
  pub index : arg_by_index rules 1 ≡ Some built_place
  pub apart : (name : Text) → is_name name ≡ true → bytes_eq (codes "places") name ≡ false

not_places : (b : Bool) (name : Text) → bytes_eq (codes "places") name ≡ b → is_among option_names name ≡ true → b ≡ false
not_places false name e among = refl
not_places true name e among = sym among ∙ ap (is_among option_names) (sym (same_text (codes "places") name e))

pub known_rules : Knows (rules_of option_names) (is_among option_names)
known_rules = record {
  long = long_found option_names;
  id = id_found option_names;
  place = refl;
  index = refl;
  apart = λ name among. not_places (bytes_eq (codes "places") name) name refl among;
}
