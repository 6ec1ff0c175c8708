-- What a put or a get is done with, and why one isn't.
use Rattle.std.specs.Prelude.{◌≡◌, ℕ, Result, IfErr}
use Rattle.cache_key.specs.Digits.{Spells}
use Rattle.cache_types.specs.declared.store.Layout.TheVariants.{Folder}
use Rattle.cmd_words.specs.declared.command.Command.{Command}
use Rattle.report_text.specs.declared.status.Status.{Status}
use Rattle.report_text.specs.declared.status.Status.TheVariants as statuses
use Rattle.settings_read.specs.Settings.{IsOff, HasNoRoot, HasTooMany}
use Rattle.settings_read.specs.Variables.{Environment}
use Rattle.cache_main.specs.declared.admission.Admitted.{Admitted}
use Rattle.cache_main.specs.Keys.{key_word, meta_text, HasKeys, IsMetaOf}
use Rattle.cache_main.specs.Settings.{over_of, AreSettingsFor, LiesInFolder, LiesElsewhere}
use Rattle.cache_main.specs.Top.{RefusesExactly}

-- the settings are those of a store that is built, and the keys are those that the words spell
pub record IsAdmitted (command : Command) (vars : Environment) (admitted : Admitted) : Type 0 where
  pub given : AreSettingsFor command vars admitted.settings
  pub layout : admitted.settings.layout ≡ Folder
  pub spells : Spells (key_word command) admitted.keys.key
  pub meta_is : IsMetaOf (meta_text command) admitted.keys.meta
  pub good : HasKeys command

-- a status that refuses a put or a get before anything is done
abbrev pub RefusesOperation : Status → Type 0
RefusesOperation statuses.Off = Unit {0}
RefusesOperation statuses.NoRoot = Unit {0}
RefusesOperation (statuses.TooManyReadOnly n) = Unit {0}
RefusesOperation statuses.NotBuilt = Unit {0}
RefusesOperation statuses.BadKey = Unit {0}
RefusesOperation statuses.NoMemory = Unit {0}
RefusesOperation status = ⊥

-- each refusal comes exactly where its cause holds
pub record Admits (command : Command) (vars : Environment) (result : Result Admitted Status) : Type 0 where
  pub off : RefusesExactly result statuses.Off (IsOff vars)
  pub no_root : RefusesExactly result statuses.NoRoot (HasNoRoot vars (over_of command))
  pub too_many : (n : ℕ) → RefusesExactly result (statuses.TooManyReadOnly n) (HasTooMany vars (over_of command) n)
  pub not_built : RefusesExactly result statuses.NotBuilt (LiesElsewhere command vars)
  pub bad_key : RefusesExactly result statuses.BadKey (LiesInFolder command vars × (HasKeys command → ⊥))
  pub refused : IfErr result RefusesOperation
