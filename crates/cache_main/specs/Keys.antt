-- The keys that words spell.
use Rattle.std.specs.Prelude.{◌≡◌, ℕ, ◌==◌, List, [], map, Option, Some, None, Ok, IsSomeAnd, unwrap_or}
use Rattle.std.specs.List.{AllByRecursion, slice_split}
use Rattle.hex.specs.Hex.{decode_of}
use Rattle.cache_key.specs.Digits.{IsKeyText}
use Rattle.cache_types.specs.declared.key.Key.{Key}
use Rattle.cache_types.specs.declared.meta.Meta.{Meta}
use Rattle.cache_types.specs.declared.meta.Meta.TheVariants.{Unknown, Glsl}
use Rattle.cmd_words.specs.declared.command.Command.{Command}
use Rattle.cmd_words.specs.declared.word.Word.{Word}
use Rattle.cmd_words.specs.declared.word.Word.TheVariants as commands
use Rattle.cmd_words.specs.Asked.{key_asked, meta_asked}
use Rattle.settings_read.specs.Variables.{Environment}
use Rattle.cache_main.specs.Words.{IsOperation}
use Rattle.cache_main.specs.Settings.{LiesInFolder}

-- KEY: the command's positional word
abbrev pub key_word : Command → List ℕ
key_word command = unwrap_or (key_asked command) []

-- the texts between commas
abbrev pub pieces_of : List ℕ → List (List ℕ)
pieces_of text = slice_split (λ byte. byte == 44) text

-- `--meta`, which a put alone has
abbrev pub meta_for : Word → Command → Option (List ℕ)
meta_for commands.Put command = meta_asked command
meta_for word command = None

-- a command's `--meta`: texts with commas between them
abbrev pub meta_text : Command → Option (List ℕ)
meta_text command = meta_for command.word command

-- its texts; none without it
abbrev pub meta_words : Option (List ℕ) → List (List ℕ)
meta_words None = []
meta_words (Some text) = pieces_of text

-- KEY, and each text of `--meta`, is 40 hexadecimal digits
pub record HasKeys (command : Command) : Type 0 where
  pub key : IsKeyText (key_word command)
  pub meta : AllByRecursion IsKeyText (meta_words (meta_text command))

-- an operation on a store that is built, under a KEY or with a text of `--meta` that is no key
abbrev pub HasBadKey : Option Command → Environment → Type 0
HasBadKey asked vars = IsSomeAnd asked (λ command. IsOperation command.word × LiesInFolder command vars × (HasKeys command → ⊥))

-- the texts spell the keys, one by one, in digits of either case
abbrev pub SpellEach : List (List ℕ) → List Key → Type 0
SpellEach texts keys = map decode_of texts ≡ map (λ key. Ok key.bytes) keys

-- what `--meta` says of a blob: the keys of its sources; nothing without it
abbrev pub IsMetaOf : Option (List ℕ) → Meta → Type 0
IsMetaOf None meta = meta ≡ Unknown
IsMetaOf (Some text) meta = (keys : List Key) × (meta ≡ Glsl keys) × SpellEach (pieces_of text) keys
