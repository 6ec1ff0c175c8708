-- How a call of the program ends, and when.
use Rattle.std.specs.Prelude.{◌≡◌, ◌<◌, ◌⊎◌, ℕ, List, length, Option, Some, None, Result, Err, IsSomeAnd}
use Rattle.cache_types.specs.declared.limits.TheConstants.{MAX_BLOB}
use Rattle.cmd_words.specs.declared.command.Command.{Command}
use Rattle.cmd_words.specs.declared.word.Word.{Word}
use Rattle.cmd_words.specs.declared.word.Word.TheVariants as commands
use Rattle.report_text.specs.declared.status.Status.{Status}
use Rattle.report_text.specs.declared.status.Status.TheVariants as statuses
use Rattle.settings_read.specs.Variables.{Environment}
use Rattle.cache_main.specs.Keys.{HasKeys}
use Rattle.cache_main.specs.Reading.{TakesTooMany}
use Rattle.cache_main.specs.Settings.{LiesInFolder, IsSettingsRefusal}
use Rattle.cache_main.specs.Words.{ReadsSource, LeavesSource, IsOperation}

-- an answer comes exactly where this holds, but that the answer for want of memory may stand in its place
pub record Exactly {T : Type 0} (given answer wanting : T) (P : Type 0) : Type 0 where
  pub only : given ≡ answer → P
  pub always : P → (given ≡ answer) ⊎ (given ≡ wanting)

-- a call ends in this status exactly where this holds
abbrev pub EndsExactly : Status → Status → Type 0 → Type 0
EndsExactly status answer P = Exactly status answer statuses.NoMemory P

-- a step of it is refused with this status exactly where this holds
abbrev pub RefusesExactly : {T : Type 0} → Result T Status → Status → Type 0 → Type 0
RefusesExactly result answer P = Exactly result (Err answer) (Err statuses.NoMemory) P

-- the words or the variables were refused, before anything was done
abbrev pub IsRefused : Status → Type 0
IsRefused statuses.Usage = Unit {0}
IsRefused statuses.Off = Unit {0}
IsRefused statuses.NoRoot = Unit {0}
IsRefused (statuses.TooManyReadOnly n) = Unit {0}
IsRefused statuses.NotBuilt = Unit {0}
IsRefused statuses.BadKey = Unit {0}
IsRefused status = ⊥

-- the source gave no blob and no content
abbrev pub IsUnread : Status → Type 0
IsUnread statuses.ReadFault = Unit {0}
IsUnread (statuses.TooLarge count) = Unit {0}
IsUnread status = ⊥

-- a command that reads the source
abbrev pub AsksToRead : Option Command → Type 0
AsksToRead asked = IsSomeAnd asked (λ command. ReadsSource command.word)

-- a command that leaves it as it is
abbrev pub AsksNoSource : Option Command → Type 0
AsksNoSource asked = IsSomeAnd asked (λ command. LeavesSource command.word)

-- a command that makes no call of the files
abbrev pub AsksNoFiles : Option Command → Type 0
AsksNoFiles asked = IsSomeAnd asked (λ command. IsOperation command.word → ⊥)

-- nothing refuses the command before it reads the source: `key` reads it at once, a put where its store is built and its keys are keys
abbrev pub ComesToRead : Word → Command → Environment → Type 0
ComesToRead commands.Key command vars = Unit {0}
ComesToRead commands.Put command vars = LiesInFolder command vars × HasKeys command
ComesToRead word command vars = ⊥

-- it comes to read the source, which has more bytes than the longest blob, where it tells them
abbrev pub HasLargeSource : Option Command → Environment → Option (List ℕ) → Type 0
HasLargeSource asked vars None = ⊥
HasLargeSource asked vars (Some bytes) = IsSomeAnd asked (λ command. ComesToRead command.word command vars) × (MAX_BLOB < length bytes)

-- it was refused after so many bytes of the source
pub record RefusesSource (asked : Option Command) (count : ℕ) (left left' : Option (List ℕ)) : Type 0 where
  pub asks : AsksToRead asked
  pub taken : TakesTooMany count left left'

-- a status that refuses the paths
abbrev pub RefusesPaths : Status → Type 0
RefusesPaths statuses.Usage = Unit {0}
RefusesPaths status = IsSettingsRefusal status
