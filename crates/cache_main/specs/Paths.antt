-- The paths that real files need.
use Rattle.std.specs.Prelude.{◌≡◌, [], ◌∷◌, Option, None, IsSomeAnd}
use Rattle.cmd_words.specs.declared.command.Command.{Command}
use Rattle.cmd_words.specs.declared.word.Word.{Word}
use Rattle.cmd_words.specs.declared.word.Word.TheVariants as commands
use Rattle.path_names.specs.declared.paths.Paths.{Paths}
use Rattle.settings_read.specs.declared.cache_settings.CacheSettings.{CacheSettings}
use Rattle.settings_read.specs.Variables.{Environment}
use Rattle.cache_main.specs.Settings.{AreSettingsFor}

-- one root, that of the settings, and their list of read-only databases
pub record AreOfSettings (command : Command) (vars : Environment) (paths : Paths) : Type 0 where
  pub settings : CacheSettings
  pub given : AreSettingsFor command vars settings
  pub roots : paths.roots ≡ settings.root ∷ []
  pub list : paths.list ≡ settings.list

-- no root and no list
pub record AreNone (paths : Paths) : Type 0 where
  pub roots : paths.roots ≡ []
  pub list : paths.list ≡ None

-- `key` needs none, every other command those of its settings
abbrev pub ArePathsFor : Word → Command → Environment → Paths → Type 0
ArePathsFor commands.Key command vars paths = AreNone paths
ArePathsFor word command vars paths = AreOfSettings command vars paths

-- the paths are those of the command that was asked for
abbrev pub HasPaths : Option Command → Environment → Paths → Type 0
HasPaths asked vars paths = IsSomeAnd asked (λ command. ArePathsFor command.word command vars paths)
