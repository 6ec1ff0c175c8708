-- What clap is asked to read of the words behind the command, and what its matches say.
use Rattle.std.specs.Prelude.{ℕ, Bool, false, true, ◌&&◌, if◌then◌else◌, List, [], ◌∷◌, ◌++◌, map, fold, codes, bytes_eq, slice_get, Option, Some, None, option_and_then, unwrap_or}
use Rattle.std.specs.List.{list_all, list_any}
use Rattle.clap.specs.Simple.{App, new_app, new_rule, on_top, with_rule}
use Rattle.clap.specs.Walk.{Row, Rule, all_of, first_of}
use Rattle.clap.specs.declared.builder.action.ArgAction.TheVariants.{Append, Set}
use Rattle.clap.specs.declared.builder.value_parser.ValueParser.TheVariants as parsers
use Rattle.cmd_words.specs.declared.option_list.OptionPair.{OptionPair}
use Rattle.cmd_words.specs.Options.{has_no_empty_value, has_no_repeat, option_table}
use Rattle.cmd_words.specs.Reading.{Parts, parts_of, shape_of, Shape, ends_options, stray}

-- ---- what is asked

-- the names of all options of all commands
abbrev pub option_names : List (List ℕ)
option_names = map (λ row. row.0) option_table

-- an option: it has one value, which isn't empty, and is given once
abbrev pub option_rule : List ℕ → Rule
option_rule name = record (new_rule name) { long = Some name; action = Some Set; parser = Some parsers.NonEmptyString }

-- the positional words, however many
abbrev pub place_rule : Rule
place_rule = record (new_rule (codes "places")) { action = Some Append }

-- no help, no version, and no program's name in front of the words
abbrev pub bare_app : App
bare_app = on_top (λ top. record top { no_binary_name = true; disable_help_flag = true; disable_version_flag = true }) (new_app (codes "words"))

-- with these options
abbrev pub with_options : App → List (List ℕ) → App
with_options app names = fold (λ made name. with_rule made (option_rule name)) app names

-- all of them
abbrev pub words_app : App
words_app = with_rule (with_options bare_app option_names) place_rule

-- ---- what its matches say

-- the option of a row
abbrev pub option_in : Row → OptionPair
option_in row = record { name = row.id; value = unwrap_or (slice_get row.values 0) [] }

-- the options, in the order of the words
abbrev pub options_in : List Row → List OptionPair
options_in [] = []
options_in (row ∷ rows) = if bytes_eq (codes "places") row.id then options_in rows else option_in row ∷ options_in rows

-- the options of these names, by their first values; the positional words are none
abbrev pub options_named : List Row → List (List ℕ) → List OptionPair
options_named rows [] = []
options_named rows (name ∷ names) = (if bytes_eq (codes "places") name then [] else record { name = name; value = unwrap_or (first_of name rows) [] } ∷ []) ++ options_named rows names

-- the positional words
abbrev pub places_in : List Row → List (List ℕ)
places_in rows = unwrap_or (all_of (codes "places") rows) []

-- both
abbrev pub parts_in : List Row → Parts
parts_in rows = record { options = options_in rows; places = places_in rows }

-- ---- which words it takes

-- options that clap takes: each is some command's and is given once, and none is empty
abbrev pub is_taken : List OptionPair → Bool
is_taken options = list_all (λ option. list_any (bytes_eq option.name) option_names) options && has_no_empty_value options && has_no_repeat options

-- the parts of words that clap takes
abbrev pub taken_parts : List (List ℕ) → Option Parts
taken_parts words = option_and_then (λ parts. if is_taken parts.options then Some parts else None) (parts_of None words)

-- what a word before any `--` says of whether a stray word stands there
abbrev pub stray_at : Shape → Bool → Bool
stray_at ends_options rest = false
stray_at stray rest = true
stray_at _ rest = rest

-- a word before any `--` begins with one dash
abbrev pub has_stray : List (List ℕ) → Bool
has_stray [] = false
has_stray (word ∷ rest) = stray_at (shape_of word) (has_stray rest)
