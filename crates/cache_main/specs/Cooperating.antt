-- What the miss of a get says among seats that keep the rules.
use Rattle.std.specs.Prelude.{◌≡◌, Option, IsSomeAnd}
use Rattle.cache_key.specs.Digits.{Spells}
use Rattle.cache_types.specs.declared.key.Key.{Key}
use Rattle.cache_types.specs.declared.seat.Who.{Who}
use Rattle.cmd_words.specs.declared.command.Command.{Command}
use Rattle.cmd_words.specs.declared.word.Word.TheVariants.{Get}
use Rattle.cmd_words.specs.Asked.{driver_asked}
use Rattle.file_log.specs.Log.{History}
use Rattle.file_log.specs.Told.{Grows}
use Rattle.folder_store.specs.Keeping.{HasKept, OthersKeepRules, WasLacking}
use Rattle.report_text.specs.declared.status.Status.{Status}
use Rattle.report_text.specs.declared.status.Status.TheVariants.{Miss}
use Rattle.cache_main.specs.Keys.{key_word}

-- It was a get. Where no place before broke a rule and no new item of another seat breaks one, after one of the own items the folder
-- store of root 0 held no blob for the command's driver and the key that its KEY spells.
pub record WasMissing (command : Command) (me : Who) (old new : Option History) : Type 0 where
  pub gets : command.word ≡ Get
  pub key : Key
  pub spells : Spells (key_word command) key
  pub lacking : Grows old new (λ h news. HasKept h → OthersKeepRules me h news → WasLacking me 0 (driver_asked command) key h news)

-- a call that ends in a miss says so
abbrev pub MissesTruly : Option Command → Who → Status → Option History → Option History → Type 0
MissesTruly asked me status old new = status ≡ Miss → IsSomeAnd asked (λ command. WasMissing command me old new)
