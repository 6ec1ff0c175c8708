-- What a command that is served does.
use Rattle.std.specs.Prelude.{◌≡◌, ◌++◌, ℕ, List, Option, IsSomeAnd}
use Rattle.sha1.specs.Sha1.{sha1}
use Rattle.cache_key.specs.Digits.{Spells}
use Rattle.cache_types.specs.declared.answer.Answer.{Answer}
use Rattle.cache_types.specs.declared.key.Key.{Key}
use Rattle.cache_types.specs.declared.meta.Meta.{Meta}
use Rattle.cache_types.specs.declared.seat.Who.{Who}
use Rattle.cache_types.specs.declared.store.Layout.TheVariants.{Folder}
use Rattle.cache_types.specs.Driver.{blob_of}
use Rattle.cmd_words.specs.declared.command.Command.{Command}
use Rattle.cmd_words.specs.declared.word.Word.{Word}
use Rattle.cmd_words.specs.declared.word.Word.TheVariants as commands
use Rattle.cmd_words.specs.Asked.{driver_asked}
use Rattle.file_log.specs.Log.{History}
use Rattle.op_union.specs.Requests.{Operates}
use Rattle.report_text.specs.declared.status.Status.{Status}
use Rattle.report_text.specs.declared.status.Status.TheVariants.{Ok}
use Rattle.report_text.specs.Lines.{key_line}
use Rattle.report_text.specs.SettingsLines.{settings_lines}
use Rattle.settings_read.specs.declared.cache_settings.CacheSettings.{CacheSettings}
use Rattle.settings_read.specs.Variables.{Environment}
use Rattle.cache_main.specs.Keys.{key_word, meta_text, IsMetaOf}
use Rattle.cache_main.specs.Printing.{IsPrinted, IsWritten}
use Rattle.cache_main.specs.Reading.{IsWholeBlob}
use Rattle.cache_main.specs.Requests.{request_of, IsBlobFor}
use Rattle.cache_main.specs.Settings.{AreSettingsFor}

-- `key` printed the key of some content, the whole of the source: the SHA-1 of the driver's blob and the content. First come the
-- bytes that the source had left and has left, then the bytes and the faults of the sink.
pub record KeyServed (command : Command) (status : Status) (left left' : Option (List ℕ)) (written written' : Option (List ℕ)) (failed failed' : ℕ) : Type 0 where
  pub content : List ℕ
  pub whole : IsWholeBlob left left' content
  pub key : Key
  pub key_is : key.bytes ≡ sha1 (blob_of (driver_asked command) ++ content)
  pub printed : IsWritten (key_line key) Ok status written written' failed failed'

-- `settings` printed the settings
pub record SettingsServed (command : Command) (vars : Environment) (status : Status) (written written' : Option (List ℕ)) (failed failed' : ℕ) : Type 0 where
  pub settings : CacheSettings
  pub given : AreSettingsFor command vars settings
  pub printed : IsWritten (settings_lines settings) Ok status written written' failed failed'

-- One operation did what a put or a get asks for, by its words, the variables and the source, and its answer was printed. The
-- first two histories and counts are the files', then come the source and the sink.
pub record OperationServed (command : Command) (vars : Environment) (me : Who) (status : Status) (old new : Option History) (before now : ℕ) (left left' : Option (List ℕ)) (written written' : Option (List ℕ)) (failed failed' : ℕ) : Type 0 where
  pub settings : CacheSettings
  pub given : AreSettingsFor command vars settings
  pub layout : settings.layout ≡ Folder
  pub key : Key
  pub spells : Spells (key_word command) key
  pub meta : Meta
  pub meta_is : IsMetaOf (meta_text command) meta
  pub blob : List ℕ
  pub taken : IsBlobFor command.word left left' blob
  pub answer : Answer
  pub done : Operates me (request_of command settings key meta blob) old new before now answer
  pub printed : IsPrinted (request_of command settings key meta blob) answer status written written' failed failed'

-- the command did what it is there for
abbrev pub ServedBy : Word → Command → Environment → Who → Status → Option History → Option History → ℕ → ℕ → Option (List ℕ) → Option (List ℕ) → Option (List ℕ) → Option (List ℕ) → ℕ → ℕ → Type 0
ServedBy commands.Key command vars me status old new before now left left' written written' failed failed' =
    KeyServed command status left left' written written' failed failed'
ServedBy commands.Settings command vars me status old new before now left left' written written' failed failed' =
    SettingsServed command vars status written written' failed failed'
ServedBy word command vars me status old new before now left left' written written' failed failed' =
    OperationServed command vars me status old new before now left left' written written' failed failed'

-- the command that was asked for did so
abbrev pub Served : Option Command → Environment → Who → Status → Option History → Option History → ℕ → ℕ → Option (List ℕ) → Option (List ℕ) → Option (List ℕ) → Option (List ℕ) → ℕ → ℕ → Type 0
Served asked vars me status old new before now left left' written written' failed failed' =
    IsSomeAnd asked (λ command. ServedBy command.word command vars me status old new before now left left' written written' failed failed')
