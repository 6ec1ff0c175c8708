-- The commands: their options and their positional words.
use Rattle.std.specs.Prelude.{ℕ, Bool, List, [], ◌∷◌, ◌++◌, length, find, codes, bytes_eq, Option}
use Rattle.cmd_words.specs.declared.word.Word.{Word}
use Rattle.cmd_words.specs.declared.word.Word.TheVariants as words
use Rattle.cmd_words.specs.Numbers.{is_number_up_to}
use Rattle.cmd_words.specs.Options.{is_number, is_size, is_text}

-- a row: the first word, the names of the options, and which texts the positional words may be
pub record Row : Type 0 where
  pub name : List ℕ
  pub options : List (List ℕ)
  pub places : List (List ℕ → Bool)

-- a row of the table, from the left to the right
abbrev pub row : List ℕ → List (List ℕ) → List (List ℕ → Bool) → Row
row name options places = record { name = name; options = options; places = places }

-- a number of turns of a drill
abbrev pub is_turns : List ℕ → Bool
is_turns text = is_number_up_to 20000 text

-- the options that name a driver
abbrev pub driver_options : List (List ℕ)
driver_options = codes "id" ∷ codes "gpu" ∷ codes "flags" ∷ []

-- the options that name a store
abbrev pub store_options : List (List ℕ)
store_options = codes "root" ∷ codes "layout" ∷ []

-- the table: the row of each command
abbrev pub row_of : Word → Row
row_of words.Key = row (codes "key") driver_options []
row_of words.Put = row (codes "put") (driver_options ++ store_options ++ codes "limit" ∷ codes "meta" ∷ []) (is_text ∷ [])
row_of words.Get = row (codes "get") (driver_options ++ store_options) (is_text ∷ [])
row_of words.Mark = row (codes "mark") store_options (is_text ∷ [])
row_of words.Has = row (codes "has") store_options (is_text ∷ [])
row_of words.List = row (codes "list") (driver_options ++ store_options) []
row_of words.Verify = row (codes "verify") store_options []
row_of words.Trim = row (codes "trim") store_options (is_size ∷ [])
row_of words.Settings = row (codes "settings") [] []
row_of words.Batch = row (codes "batch") (driver_options ++ store_options ++ codes "limit" ∷ []) []
row_of words.Drill = row (codes "drill") (codes "mode" ∷ []) (is_turns ∷ is_number ∷ [])

-- all commands
abbrev pub commands : List Word
commands = words.Key ∷ words.Put ∷ words.Get ∷ words.Mark ∷ words.Has ∷ words.List ∷ words.Verify ∷ words.Trim ∷ words.Settings ∷ words.Batch ∷ words.Drill ∷ []

-- the command of a first word
abbrev pub word_of : List ℕ → Option Word
word_of first = find (λ word. bytes_eq (row_of word).name first) commands

-- how many positional words a command has
abbrev pub place_count : Word → ℕ
place_count word = length (row_of word).places
