-- The row's test, where clap takes the options.
use Rattle.std.proofs.Common.{◌≡◌, ℕ, Bool, true, false, cond, ◌&&◌, ◌||◌, List, [], ◌∷◌, Option, Some, None, refl, sym, ap, ap₂, ◌∙◌, true≢false}
use Rattle.std.specs.Prelude.{bytes_eq, option_and_then}
use Rattle.std.specs.List.{list_all}
use Rattle.std.proofs.lemmas.Bool.{and_parts}
use Rattle.cmd_words.specs.declared.command.Command.{Command}
use Rattle.cmd_words.specs.declared.option_list.OptionPair.{OptionPair}
use Rattle.cmd_words.specs.declared.word.Word.{Word}
use Rattle.cmd_words.specs.declared.word.Word.TheVariants as words
use Rattle.cmd_words.specs.Options.{has_fit_value}
use Rattle.cmd_words.specs.Parsed.{is_taken, option_names, taken_parts}
use Rattle.cmd_words.specs.Reading.{Parts, command_of, has_fit_places, has_fit_turns, is_fit, parts_of, reading_of}
use Rattle.cmd_words.specs.Table.{row_of, word_of}
use Rattle.cmd_words.proofs.Parses.{taken_once}
use Rattle.cmd_words.proofs.Rules.{is_among, same_text}

abbrev own : Word → List OptionPair → Bool
own word options = list_all (λ option. is_among (row_of word).options option.name) options

-- clap has tested that no value is empty and no name stands twice
pub fit_is : (word : Word) (parts : Parts) → is_taken parts.options ≡ true
    → (own word parts.options && (list_all has_fit_value parts.options && (has_fit_places (row_of word).places parts.places && has_fit_turns parts))) ≡ is_fit (row_of word) parts
fit_is word parts taken =
    let halves = and_parts _ _ taken in
    let front = and_parts _ _ halves.0 in
    regroup (own word parts.options) (list_all has_fit_value parts.options) (has_fit_places (row_of word).places parts.places) (has_fit_turns parts)
    ∙ sym (ap₂ (λ (some once : Bool). ((((own word parts.options && some) && once) && list_all has_fit_value parts.options) && has_fit_places (row_of word).places parts.places) && has_fit_turns parts) front.1 halves.1)
  where
    regroup : (a b c d : Bool) → (a && (b && (c && d))) ≡ (((((a && true) && true) && b) && c) && d)
    regroup false b c d = refl
    regroup true false c d = refl
    regroup true true false d = refl
    regroup true true true d = refl

-- each command's options are among all
all_among : (word : Word) → list_all (is_among option_names) (row_of word).options ≡ true
all_among words.Key = refl
all_among words.Put = refl
all_among words.Get = refl
all_among words.Mark = refl
all_among words.Has = refl
all_among words.List = refl
all_among words.Verify = refl
all_among words.Trim = refl
all_among words.Settings = refl
all_among words.Batch = refl
all_among words.Drill = refl

among_all : (names : List (List ℕ)) (name : List ℕ) → list_all (is_among option_names) names ≡ true → is_among names name ≡ true → is_among option_names name ≡ true
among_all [] name all among = absurd (true≢false (sym among))
among_all (n ∷ names) name all among = go (bytes_eq name n) refl among (among_all names name (and_parts _ _ all).1)
  where
    go : (b : Bool) → bytes_eq name n ≡ b → (b || is_among names name) ≡ true → (is_among names name ≡ true → is_among option_names name ≡ true) → is_among option_names name ≡ true
    go true e among rest = ap (is_among option_names) (same_text name n e) ∙ (and_parts _ _ all).0
    go false e among rest = rest among

own_known : (word : Word) (options : List OptionPair) → own word options ≡ true → list_all (λ option. is_among option_names option.name) options ≡ true
own_known word [] all = refl
own_known word (option ∷ options) all =
    let parts = and_parts _ _ all in
    ap₂ (λ (a b : Bool). a && b) (among_all (row_of word).options option.name (all_among word) parts.0) (own_known word options parts.1)

-- what is fit is taken
fit_taken : (word : Word) (parts : Parts) → is_fit (row_of word) parts ≡ true → is_taken parts.options ≡ true
fit_taken word parts fit =
    let options = and_parts _ _ (and_parts _ _ (and_parts _ _ fit).0).0 in
    let once = and_parts _ _ options.0 in
    let some = and_parts _ _ once.0 in
    ap₂ (λ (a b : Bool). a && b) (ap₂ (λ (a b : Bool). a && b) (own_known word parts.options some.0) some.1) once.1

-- ---- what was read

reading_is : (first : List ℕ) (rest : List (List ℕ)) (word : Word) → word_of first ≡ Some word → reading_of (first ∷ rest) ≡ option_and_then (command_of word) (parts_of None rest)
reading_is first rest word e = ap (option_and_then (λ (w : Word). option_and_then (command_of w) (parts_of None rest))) e

pub reading_of_fit : (first : List ℕ) (rest : List (List ℕ)) (word : Word) (parts : Parts) (fit : Bool) → word_of first ≡ Some word → taken_parts rest ≡ Some parts → is_fit (row_of word) parts ≡ fit
    → reading_of (first ∷ rest) ≡ cond fit (Some (record { word = word; options = parts.options; places = parts.places })) None
reading_of_fit first rest word parts fit e taken is =
    reading_is first rest word e
    ∙ ap (option_and_then (command_of word)) (taken_once rest parts taken).0
    ∙ ap (λ (b : Bool). cond b (Some (record { word = word; options = parts.options; places = parts.places })) None) is

pub reading_of_none : (first : List ℕ) (rest : List (List ℕ)) (word : Word) → word_of first ≡ Some word → taken_parts rest ≡ None → reading_of (first ∷ rest) ≡ None
reading_of_none first rest word e none = reading_is first rest word e ∙ go (parts_of None rest) none
  where
    by_fit : (parts : Parts) (fit : Bool) → is_fit (row_of word) parts ≡ fit → cond (is_taken parts.options) (Some parts) None ≡ None → cond {A = Option Command} fit (Some (record { word = word; options = parts.options; places = parts.places })) None ≡ None
    by_fit parts false is none = refl
    by_fit parts true is none = let taken : ◌≡◌ {A = Option Parts} (Some parts) None = sym (ap (λ (b : Bool). cond b (Some parts) None) (fit_taken word parts is)) ∙ none in cc

    go : (o : Option Parts) → option_and_then (λ (p : Parts). cond (is_taken p.options) (Some p) None) o ≡ None → option_and_then (command_of word) o ≡ None
    go None none = refl
    go (Some parts) none = by_fit parts (is_fit (row_of word) parts) refl none
