-- Where the store lies for a command, by its words and the variables.
use Rattle.std.specs.Prelude.{◌≡◌, ◌≢◌, ℕ, Option, IsSomeAnd}
use Rattle.cache_types.specs.declared.store.Layout.TheVariants.{Folder}
use Rattle.cmd_words.specs.declared.command.Command.{Command}
use Rattle.cmd_words.specs.Asked.{root_asked, layout_asked, limit_asked}
use Rattle.settings_read.specs.declared.cache_settings.CacheSettings.{CacheSettings}
use Rattle.settings_read.specs.declared.cache_settings.SettingsRefusal.{SettingsRefusal}
use Rattle.settings_read.specs.declared.cache_settings.SettingsRefusal.TheVariants as refusals
use Rattle.report_text.specs.declared.status.Status.{Status}
use Rattle.report_text.specs.declared.status.Status.TheVariants as statuses
use Rattle.settings_read.specs.declared.overrides.Overrides.{Overrides}
use Rattle.settings_read.specs.Settings.{IsOff, HasNoRoot, HasTooMany, HasSettings, AreGiven}
use Rattle.settings_read.specs.Overridden.{layout_of}
use Rattle.settings_read.specs.Variables.{Environment}
use Rattle.cache_main.specs.Words.{NeedsSettings, IsOperation}

-- what the words of a command say in place of variables
abbrev pub over_of : Command → Overrides
over_of command = record { root = root_asked command; layout = layout_asked command; limit = limit_asked command }

-- the settings of a command
abbrev pub AreSettingsFor : Command → Environment → CacheSettings → Type 0
AreSettingsFor command vars settings = AreGiven vars (over_of command) settings

-- the status of variables that give no settings
abbrev pub status_of_settings : SettingsRefusal → Status
status_of_settings refusals.Off = statuses.Off
status_of_settings refusals.NoRoot = statuses.NoRoot
status_of_settings (refusals.TooManyReadOnly n) = statuses.TooManyReadOnly n
status_of_settings refusals.NoMemory = statuses.NoMemory

-- one of these
abbrev pub IsSettingsRefusal : Status → Type 0
IsSettingsRefusal statuses.Off = Unit {0}
IsSettingsRefusal statuses.NoRoot = Unit {0}
IsSettingsRefusal (statuses.TooManyReadOnly n) = Unit {0}
IsSettingsRefusal statuses.NoMemory = Unit {0}
IsSettingsRefusal status = ⊥

-- ---- commands that are refused, by the first of these that applies

-- one that needs settings, where the cache is turned off
abbrev pub IsTurnedOff : Option Command → Environment → Type 0
IsTurnedOff asked vars = IsSomeAnd asked (λ command. NeedsSettings command.word × IsOff vars)

-- one that needs settings, where nothing says where the cache lies
abbrev pub LacksRoot : Option Command → Environment → Type 0
LacksRoot asked vars = IsSomeAnd asked (λ command. NeedsSettings command.word × HasNoRoot vars (over_of command))

-- one that needs settings, where so many read-only databases are named, too many
abbrev pub NamesTooMany : Option Command → Environment → ℕ → Type 0
NamesTooMany asked vars n = IsSomeAnd asked (λ command. NeedsSettings command.word × HasTooMany vars (over_of command) n)

-- it has settings, and its store has one file for each entry, the layout that is built
pub record LiesInFolder (command : Command) (vars : Environment) : Type 0 where
  pub allowed : HasSettings vars (over_of command)
  pub layout : layout_of vars (over_of command) ≡ Folder

-- it has settings, and its store another layout
pub record LiesElsewhere (command : Command) (vars : Environment) : Type 0 where
  pub allowed : HasSettings vars (over_of command)
  pub layout : layout_of vars (over_of command) ≢ Folder

-- an operation on a store in another layout
abbrev pub IsUnbuilt : Option Command → Environment → Type 0
IsUnbuilt asked vars = IsSomeAnd asked (λ command. IsOperation command.word × LiesElsewhere command vars)
