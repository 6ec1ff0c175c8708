-- What the words of the command line ask for.
use Rattle.std.specs.Prelude.{◌≡◌, ℕ, Bool, true, false, if◌then◌else◌, List, Option, Some, None}
use Rattle.cmd_words.specs.declared.command.Command.{Command}
use Rattle.cmd_words.specs.declared.word.Word.{Word}
use Rattle.cmd_words.specs.declared.word.Word.TheVariants as commands
use Rattle.cmd_words.specs.Reading.{reading_of}

-- the commands that are served today
abbrev pub is_served : Word → Bool
is_served commands.Key = true
is_served commands.Put = true
is_served commands.Get = true
is_served commands.Settings = true
is_served word = false

-- a reading, where its command is served
abbrev pub served_of : Option Command → Option Command
served_of None = None
served_of (Some command) = if is_served command.word then Some command else None

-- the command that the words ask for: their reading, where it is served
unfoldable pub asked : List (List ℕ) → Option Command
asked words = served_of (reading_of words)

-- they ask for nothing that is served
abbrev pub HasNoReading : Option Command → Type 0
HasNoReading asked = asked ≡ None

-- ---- what the commands have in common

-- every command but `key` needs settings
abbrev pub NeedsSettings : Word → Type 0
NeedsSettings commands.Key = ⊥
NeedsSettings word = Unit {0}

-- a put and a get are operations on the store
abbrev pub IsOperation : Word → Type 0
IsOperation commands.Put = Unit {0}
IsOperation commands.Get = Unit {0}
IsOperation word = ⊥

-- a put and `key` read the source
abbrev pub ReadsSource : Word → Type 0
ReadsSource commands.Put = Unit {0}
ReadsSource commands.Key = Unit {0}
ReadsSource word = ⊥

-- every other command leaves it
abbrev pub LeavesSource : Word → Type 0
LeavesSource word = ReadsSource word → ⊥
