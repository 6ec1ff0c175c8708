-- How words read as a command.
use Rattle.std.specs.Prelude.{ℕ, Bool, true, false, not, ◌==◌, ◌&&◌, ◌||◌, if◌then◌else◌, List, [], ◌∷◌, codes, slice_get, bytes_eq, Option, Some, None, option_map, option_and_then, unwrap_or}
use Rattle.std.specs.List.{list_all, list_any, before_first, after_first}
use Rattle.cmd_words.specs.declared.command.Command.{Command}
use Rattle.cmd_words.specs.declared.option_list.OptionPair.{OptionPair}
use Rattle.cmd_words.specs.Numbers.{is_number_up_to}
use Rattle.cmd_words.specs.Options.{has_fit_value, has_no_empty_value, has_no_repeat, value_of}
use Rattle.cmd_words.specs.Table.{Row, row_of, word_of}
use Rattle.cmd_words.specs.declared.word.Word.{Word}

-- ---- the words behind the command

-- what a word is, before any `--`
pub data Shape : Type 0 where
  -- `--`: all words after it are positional
  ends_options : Shape
  -- `--name=value`
  whole_option : List ℕ → List ℕ → Shape
  -- `--name`, whose value is the next word
  option_name : List ℕ → Shape
  -- any other word that begins with a dash: it has no reading
  stray : Shape
  -- a positional word
  place : Shape

-- the equals sign, between a name and a value
abbrev pub is_equals : ℕ → Bool
is_equals byte = byte == 61

-- what follows two dashes; a name ends before the first equals sign
abbrev pub shape_after_dashes : List ℕ → Shape
shape_after_dashes [] = ends_options
shape_after_dashes (byte ∷ text) =
    if list_any is_equals (byte ∷ text) then whole_option (before_first is_equals (byte ∷ text)) (after_first is_equals (byte ∷ text))
    else option_name (before_first is_equals (byte ∷ text))

-- what follows a dash
abbrev pub shape_after_dash : List ℕ → Shape
shape_after_dash [] = stray
shape_after_dash (byte ∷ text) = if byte == 45 then shape_after_dashes text else stray

-- what a word is
abbrev pub shape_of : List ℕ → Shape
shape_of [] = place
shape_of (byte ∷ text) = if byte == 45 then shape_after_dash text else place

-- a word that begins with a dash
abbrev pub begins_with_dash : List ℕ → Bool
begins_with_dash [] = false
begins_with_dash (byte ∷ text) = byte == 45

-- the options and the positional words, in the order of the words
pub record Parts : Type 0 where
  pub options : List OptionPair
  pub places : List (List ℕ)

-- an option in front of them
abbrev pub with_option : List ℕ → List ℕ → Parts → Parts
with_option name value parts = record parts { options = record { name = name; value = value } ∷ parts.options }

-- a positional word in front of them
abbrev pub with_place : List ℕ → Parts → Parts
with_place word parts = record parts { places = word ∷ parts.places }

-- the parts from a word on, by what those after it are: `next`, or `waiting` where an option waits for its value
abbrev pub parts_at : Shape → List ℕ → List (List ℕ) → Option Parts → (List ℕ → Option Parts) → Option Parts
parts_at ends_options word rest next waiting = Some (record { options = []; places = rest })
parts_at (whole_option name value) word rest next waiting = option_map (with_option name value) next
parts_at (option_name name) word rest next waiting = waiting name
parts_at stray word rest next waiting = None
parts_at place word rest next waiting = option_map (with_place word) next

-- the parts of some words; an option before them may wait for its value, which doesn't begin with a dash
abbrev pub parts_of : Option (List ℕ) → List (List ℕ) → Option Parts
parts_of None [] = Some (record { options = []; places = [] })
parts_of (Some name) [] = None
parts_of None (word ∷ rest) = parts_at (shape_of word) word rest (parts_of None rest) (λ name. parts_of (Some name) rest)
parts_of (Some name) (word ∷ rest) = if begins_with_dash word then None else option_map (with_option name word) (parts_of None rest)

-- ---- the command's row

-- there are as many positional words as the command has, and each may be what it is
abbrev pub has_fit_places : List (List ℕ → Bool) → List (List ℕ) → Bool
has_fit_places [] [] = true
has_fit_places (is_fit ∷ forms) (word ∷ places) = is_fit word && has_fit_places forms places
has_fit_places forms places = false

-- the options are the command's, each at most once, and have values that they may have
abbrev pub has_fit_options : List (List ℕ) → List OptionPair → Bool
has_fit_options names options = list_all (λ option. list_any (bytes_eq option.name) names) options
    && has_no_empty_value options
    && has_no_repeat options
    && list_all has_fit_value options

-- a drill in threads has at most 200 turns
abbrev pub has_fit_turns : Parts → Bool
has_fit_turns parts = not (bytes_eq (unwrap_or (value_of parts.options (codes "mode")) []) (codes "threads"))
    || is_number_up_to 200 (unwrap_or (slice_get parts.places 0) [])

-- the words behind the command are those of its row
abbrev pub is_fit : Row → Parts → Bool
is_fit row parts = has_fit_options row.options parts.options && has_fit_places row.places parts.places && has_fit_turns parts

-- the command with these parts, where they are those of its row
abbrev pub command_of : Word → Parts → Option Command
command_of word parts = if is_fit (row_of word) parts then Some (record { word = word; options = parts.options; places = parts.places }) else None

-- the command that words read as, where they have a reading
abbrev pub reading_of : List (List ℕ) → Option Command
reading_of [] = None
reading_of (first ∷ rest) = option_and_then (λ word. option_and_then (command_of word) (parts_of None rest)) (word_of first)
