-- What is asked of the store.
use Rattle.std.specs.Prelude.{◌≡◌, ℕ, false, List, [], Option, Result, Ok, Err}
use Rattle.cache_types.specs.declared.key.Key.{Key}
use Rattle.cache_types.specs.declared.meta.Meta.{Meta}
use Rattle.cache_types.specs.declared.request.Request.{Request}
use Rattle.cache_types.specs.declared.request.Request.TheVariants as requests
use Rattle.cache_types.specs.Driver.{DriverKeys}
use Rattle.cmd_words.specs.declared.command.Command.{Command}
use Rattle.cmd_words.specs.declared.word.Word.{Word}
use Rattle.cmd_words.specs.declared.word.Word.TheVariants as commands
use Rattle.cmd_words.specs.Asked.{driver_asked}
use Rattle.folder_rules.specs.Whole.{folder_of}
use Rattle.settings_read.specs.declared.cache_settings.CacheSettings.{CacheSettings}
use Rattle.cache_main.specs.declared.reading.ReadRefusal.{ReadRefusal}
use Rattle.cache_main.specs.Reading.{IsWholeBlob, ReadsToEnd}

-- of the folder store of root 0: a put into at most so many bytes, or a lookup that asks no read-only database
abbrev pub request_for : Word → DriverKeys → ℕ → Key → Meta → List ℕ → Request
request_for commands.Put driver max key meta blob = requests.Put (folder_of 0) driver key meta blob max
request_for word driver max key meta blob = requests.Get (folder_of 0) driver key (record { names = []; list = false })

-- what a command asks for with these settings, under this key, with this meta and this blob
abbrev pub request_of : Command → CacheSettings → Key → Meta → List ℕ → Request
request_of command settings key meta blob = request_for command.word (driver_asked command) settings.max key meta blob

-- the blob that comes from the source: a put takes all of it, and a get none
abbrev pub IsBlobFor : Word → Option (List ℕ) → Option (List ℕ) → List ℕ → Type 0
IsBlobFor commands.Put old new blob = IsWholeBlob old new blob
IsBlobFor word old new blob = blob ≡ []

-- what taking it gave: a get is never refused one
abbrev pub TakesBlob : Word → Result (List ℕ) ReadRefusal → Option (List ℕ) → Option (List ℕ) → ℕ → ℕ → Type 0
TakesBlob commands.Put result old new before now = ReadsToEnd result old new before now
TakesBlob word (Ok blob) old new before now = blob ≡ []
TakesBlob word (Err refusal) old new before now = ⊥
