-- How the commands end, each by its status.
use Rattle.std.specs.Prelude.{◌≡◌, ◌≤◌, ◌⊎◌, ℕ, List, Option}
use Rattle.cache_types.specs.declared.seat.Who.{Who}
use Rattle.cmd_words.specs.declared.command.Command.{Command}
use Rattle.file_log.specs.Log.{History}
use Rattle.file_log.specs.Told.{Rose}
use Rattle.report_text.specs.declared.status.Status.{Status}
use Rattle.report_text.specs.declared.status.Status.TheVariants as statuses
use Rattle.settings_read.specs.Variables.{Environment}
use Rattle.cache_main.specs.Keys.{HasBadKey}
use Rattle.cache_main.specs.Reading.{EndsUnread}
use Rattle.cache_main.specs.Served.{KeyServed, SettingsServed, Served}
use Rattle.settings_read.specs.Settings.{IsOff, HasNoRoot, HasTooMany}
use Rattle.cache_main.specs.Settings.{over_of, IsTurnedOff, LacksRoot, NamesTooMany, IsUnbuilt, IsSettingsRefusal}
use Rattle.cache_main.specs.Top.{EndsExactly, IsRefused, IsUnread, AsksToRead, HasLargeSource, RefusesSource}

-- All that is said of the end of a call that asks for a command, but that its files are idle. `Files`, `Source` and `Sink` say that
-- these are as they were; then come the files, the source and the sink before and after the call.
pub record Ends (asked : Option Command) (vars : Environment) (me : Who) (status : Status) (Files Source Sink : Type 0) (old new : Option History) (before now : ℕ) (left left' : Option (List ℕ)) (lost lost' : ℕ) (written written' : Option (List ℕ)) (failed failed' : ℕ) : Type 0 where
  pub read : status ≡ statuses.Usage → ⊥
  pub off : EndsExactly status statuses.Off (IsTurnedOff asked vars)
  pub no_root : EndsExactly status statuses.NoRoot (LacksRoot asked vars)
  pub too_many : (n : ℕ) → EndsExactly status (statuses.TooManyReadOnly n) (NamesTooMany asked vars n)
  pub not_built : EndsExactly status statuses.NotBuilt (IsUnbuilt asked vars)
  pub bad_key : EndsExactly status statuses.BadKey (HasBadKey asked vars)
  pub refused : IsRefused status → Files × Source × Sink
  pub read_fault : status ≡ statuses.ReadFault → AsksToRead asked × Rose lost lost'
  pub too_large : (count : ℕ) → status ≡ statuses.TooLarge count → RefusesSource asked count left left'
  pub large : HasLargeSource asked vars left → IsUnread status ⊎ (status ≡ statuses.NoMemory)
  pub unread : IsUnread status → Files × Sink
  pub served : IsRefused status ⊎ IsUnread status ⊎ ((status ≡ statuses.NoMemory) × Files × Sink)
      ⊎ Served asked vars me status old new before now left left' written written' failed failed'
  pub files_fault : status ≡ statuses.FilesFault → Rose before now
  pub write_fault : status ≡ statuses.WriteFault → Rose failed failed'
  pub counts : (before ≤ now) × (lost ≤ lost') × (failed ≤ failed')

-- `key` was served, or the source gave no content; `Sink` says that the sink is as it was
abbrev pub KeyEnds : Command → Status → Type 0 → Option (List ℕ) → Option (List ℕ) → ℕ → ℕ → Option (List ℕ) → Option (List ℕ) → ℕ → ℕ → Type 0
KeyEnds command status Sink left left' lost lost' written written' failed failed' =
    KeyServed command status left left' written written' failed failed' ⊎ (EndsUnread status left left' lost lost' × Sink)

-- `settings` was served, or the variables give no settings, or there was no memory; `Sink` says that the sink is as it was
pub record SettingsEnd (command : Command) (vars : Environment) (status : Status) (Sink : Type 0) (written written' : Option (List ℕ)) (failed failed' : ℕ) : Type 0 where
  pub off : EndsExactly status statuses.Off (IsOff vars)
  pub no_root : EndsExactly status statuses.NoRoot (HasNoRoot vars (over_of command))
  pub too_many : (n : ℕ) → EndsExactly status (statuses.TooManyReadOnly n) (HasTooMany vars (over_of command) n)
  pub ended : SettingsServed command vars status written written' failed failed' ⊎ (IsSettingsRefusal status × Sink)
