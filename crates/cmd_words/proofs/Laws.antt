-- What is known of each command that was read.
use Rattle.std.proofs.Common.{◌≡◌, ℕ, suc, arith, ◌==◌, ◌<◌, ◌≤◌, ◌^◌, Bool, true, false, cond, ◌&&◌, nat_lt, List, [], ◌∷◌, length, Option, Some, None, refl, sym, ap, ap₂, ◌∙◌, subst}
use Rattle.std.specs.Prelude.{codes, bytes_eq, nat_le, option_and_then, option_map, unwrap_or, IfSome, find}
use Rattle.std.specs.List.{list_all, slice_split}
use Rattle.std.specs.Option.{option_map_or}
use Rattle.std.specs.Str.Parse.{digits_value}
use Rattle.std.proofs.lemmas.Bool.{and_parts, leb-true, ltb-true}
use Rattle.cache_types.specs.Driver.{IsDriverText}
use Rattle.cmd_words.specs.declared.command.Command.{Command}
use Rattle.cmd_words.specs.declared.option_list.OptionPair.{OptionPair}
use Rattle.cmd_words.specs.declared.word.Word.{Word}
use Rattle.cmd_words.specs.Known.{IsKnown}
use Rattle.cmd_words.specs.Numbers.{is_numeral, number_of}
use Rattle.cmd_words.specs.Options.{has_fit_value, value_of}
use Rattle.cmd_words.specs.Reading.{Parts, command_of, has_fit_places, is_fit, parts_of, reading_of}
use Rattle.cmd_words.specs.Table.{row_of, word_of}
use Rattle.cmd_words.proofs.Rules.{same_text}
use Rattle.cmd_words.proofs.Texts.{driver_text}

abbrev named : List ℕ → List ℕ → OptionPair
named name value = record { name = name; value = value }

-- an option that was found has a value that it may have
value_fit : (options : List OptionPair) (name value : List ℕ) → list_all has_fit_value options ≡ true → value_of options name ≡ Some value → has_fit_value (named name value) ≡ true
value_fit [] name value all e = cc
value_fit (option ∷ options) name value all e = go (bytes_eq option.name name) refl e (value_fit options name value (and_parts _ _ all).1)
  where
    go : (b : Bool) → bytes_eq option.name name ≡ b → option_map (λ o. o.value) (cond b (Some option) (find (λ o. bytes_eq o.name name) options)) ≡ Some value
        → (value_of options name ≡ Some value → has_fit_value (named name value) ≡ true) → has_fit_value (named name value) ≡ true
    go true same e rest =
        let is : option.value ≡ value = cc in
        sym (ap₂ (λ (n v : List ℕ). has_fit_value (named n v)) (same_text option.name name same) is) ∙ (and_parts _ _ all).0
    go false other e rest = rest e

abbrev Fits : List OptionPair → Type 0
Fits options = list_all has_fit_value options ≡ true

text_known : (o : Option (List ℕ)) (other : List ℕ) → ((text : List ℕ) → o ≡ Some text → IsDriverText text) → IsDriverText other → IsDriverText (unwrap_or o other)
text_known None other fit default = default
text_known (Some text) other fit default = fit text refl

number_below : (text : List ℕ) (number : ℕ) → number_of text ≡ Some number → number < 2 ^ 64
number_below text number = go (is_numeral text && nat_lt (digits_value 10 text) (2 ^ 64)) refl
  where
    go : (b : Bool) → (is_numeral text && nat_lt (digits_value 10 text) (2 ^ 64)) ≡ b → cond b (Some (digits_value 10 text)) None ≡ Some number → number < 2 ^ 64
    go true e is =
        let same : digits_value 10 text ≡ number = cc in
        subst (λ (n : ℕ). n < 2 ^ 64) same (ltb-true (digits_value 10 text) (2 ^ 64) (and_parts _ _ e).1)
    go false e is = cc

flags_known : (o : Option (List ℕ)) → unwrap_or (option_and_then number_of o) 0 < 2 ^ 64
flags_known None = omega arith
flags_known (Some text) = go (number_of text) refl
  where
    go : (o : Option ℕ) → number_of text ≡ o → unwrap_or o 0 < 2 ^ 64
    go None e = omega arith
    go (Some number) e = number_below text number e

limit_known : (o : Option (List ℕ)) → ((text : List ℕ) → o ≡ Some text → option_map_or (λ number. nat_le number (2 ^ 40)) (number_of text) false ≡ true) → IfSome (option_and_then number_of o) (λ limit. limit ≤ 2 ^ 40)
limit_known None fit = tt
limit_known (Some text) fit = go (number_of text) (fit text refl)
  where
    go : (o : Option ℕ) → option_map_or (λ number. nat_le number (2 ^ 40)) o false ≡ true → IfSome o (λ limit. limit ≤ 2 ^ 40)
    go None e = tt
    go (Some number) e = leb-true number (2 ^ 40) e

meta_known : (o : Option (List ℕ)) → ((text : List ℕ) → o ≡ Some text → nat_le (length (slice_split (λ byte. byte == 44) text)) 64 ≡ true) → IfSome o (λ text. length (slice_split (λ byte. byte == 44) text) ≤ 64)
meta_known None fit = tt
meta_known (Some text) fit = leb-true _ 64 (fit text refl)

places_known : (forms : List (List ℕ → Bool)) (places : List (List ℕ)) → has_fit_places forms places ≡ true → length places ≡ length forms
places_known [] [] fit = refl
places_known [] (place ∷ places) fit = cc
places_known (form ∷ forms) [] fit = cc
places_known (form ∷ forms) (place ∷ places) fit = ap (λ (n : ℕ). suc n) (places_known forms places (and_parts _ _ fit).1)

fit_known : (word : Word) (parts : Parts) → is_fit (row_of word) parts ≡ true → IsKnown (record { word = word; options = parts.options; places = parts.places })
fit_known word parts fit =
    let halves = and_parts _ _ fit in
    let front = and_parts _ _ halves.0 in
    let values : Fits parts.options = (and_parts _ _ front.0).1 in
    record {
      driver = record {
        id = text_known (value_of parts.options (codes "id")) (codes "mesa") (λ text e. (driver_text text).0 (value_fit parts.options (codes "id") text values e)) ((driver_text (codes "mesa")).0 refl);
        gpu = text_known (value_of parts.options (codes "gpu")) (codes "generic") (λ text e. (driver_text text).0 (value_fit parts.options (codes "gpu") text values e)) ((driver_text (codes "generic")).0 refl);
        flags = flags_known (value_of parts.options (codes "flags"));
      };
      limit = limit_known (value_of parts.options (codes "limit")) (λ text e. value_fit parts.options (codes "limit") text values e);
      meta = meta_known (value_of parts.options (codes "meta")) (λ text e. value_fit parts.options (codes "meta") text values e);
      places = places_known (row_of word).places parts.places front.1;
    }

with_parts : (word : Word) (o : Option Parts) (command : Command) → option_and_then (command_of word) o ≡ Some command → IsKnown command
with_parts word None command e = cc
with_parts word (Some parts) command e = go (is_fit (row_of word) parts) refl e
  where
    go : (b : Bool) → is_fit (row_of word) parts ≡ b → cond b (Some (record { word = word; options = parts.options; places = parts.places })) None ≡ Some command → IsKnown command
    go true fit e = let same : record { word = word; options = parts.options; places = parts.places } ≡ command = cc in subst IsKnown same (fit_known word parts fit)
    go false fit e = cc

-- a command that words read as is known
pub known : (words : List (List ℕ)) (command : Command) → reading_of words ≡ Some command → IsKnown command
known [] command e = cc
known (first ∷ rest) command e = go (word_of first) e
  where
    go : (o : Option Word) → option_and_then (λ word. option_and_then (command_of word) (parts_of None rest)) o ≡ Some command → IsKnown command
    go None e = cc
    go (Some word) e = with_parts word (parts_of None rest) command e
