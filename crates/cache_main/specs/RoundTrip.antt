-- A put, and then a get of what was put.
use Rattle.std.specs.Prelude.{◌≡◌, ◌⊎◌, ℕ, List, ◌++◌, codes, Option, Some, None}
use Rattle.std.specs.List.{AllByRecursion}
use Rattle.cache_key.specs.Digits.{IsKeyText, Spells}
use Rattle.cache_types.specs.declared.key.Key.{Key}
use Rattle.cache_types.specs.declared.seat.Who.{Who}
use Rattle.cache_types.specs.Driver.{DriverKeys}
use Rattle.cmd_words.specs.declared.command.Command.{Command}
use Rattle.cmd_words.specs.declared.word.Word.TheVariants.{Put, Get}
use Rattle.cmd_words.specs.Asked.{driver_asked, meta_asked}
use Rattle.file_log.specs.Log.{History, own}
use Rattle.file_log.specs.State.{disk_of}
use Rattle.file_log.specs.Told.{Rose}
use Rattle.files_api.specs.Streams.{IsAdded}
use Rattle.folder_rules.specs.Holds.{FolderHolds}
use Rattle.report_text.specs.declared.status.Status.{Status}
use Rattle.report_text.specs.declared.status.Status.TheVariants as statuses
use Rattle.settings_read.specs.Overridden.{root_of}
use Rattle.settings_read.specs.Variables.{Environment}
use Rattle.cache_main.specs.Keys.{key_word, meta_words}
use Rattle.cache_main.specs.Reading.{IsReadOut, TakesTooMany}
use Rattle.cache_main.specs.Settings.{over_of, LiesInFolder}

-- the files tell one seat alone: each item of their log is its own
abbrev pub IsLone : Who → Option History → Type 0
IsLone me None = ⊥
IsLone me (Some h) = own me h.log ≡ h.log

-- and before as well as after
abbrev pub AreLone : Who → Option History → Option History → Type 0
AreLone me old new = IsLone me old × IsLone me new

-- the text is the key, in digits of either case
abbrev pub IsTextOf : List ℕ → Key → Type 0
IsTextOf text key = IsKeyText text × Spells text key

-- a put is asked for, and a get of the same key for the same driver and root, by their settings
pub record ArePair (put get : Option Command) (vars : Environment) : Type 0 where
  pub stores : Command
  pub puts : put ≡ Some stores
  pub is_put : stores.word ≡ Put
  pub looks : Command
  pub gets : get ≡ Some looks
  pub is_get : looks.word ≡ Get
  pub driver : driver_asked looks ≡ driver_asked stores
  pub put_lies : LiesInFolder stores vars
  pub get_lies : LiesInFolder looks vars
  pub root : root_of vars (over_of looks) ≡ root_of vars (over_of stores)
  pub key : Key
  pub put_key : IsTextOf (key_word stores) key
  pub get_key : IsTextOf (key_word looks) key
  pub meta : AllByRecursion IsKeyText (meta_words (meta_asked stores))

-- the put ends well, unless memory ran out, a fault was counted, or its blob is too large; it is busy only where `Alone` doesn't hold,
-- which says that no other seat acts
abbrev pub PutEnds : Type 0 → Status → ℕ → ℕ → Option (List ℕ) → Option (List ℕ) → ℕ → ℕ → ℕ → ℕ → Type 0
PutEnds Alone statuses.Ok before now left left' lost lost' failed failed' = Unit {0}
PutEnds Alone statuses.NoMemory before now left left' lost lost' failed failed' = Unit {0}
PutEnds Alone statuses.FilesFault before now left left' lost lost' failed failed' = Rose before now
PutEnds Alone statuses.ReadFault before now left left' lost lost' failed failed' = Rose lost lost'
PutEnds Alone statuses.WriteFault before now left left' lost lost' failed failed' = Rose failed failed'
PutEnds Alone (statuses.TooLarge count) before now left left' lost lost' failed failed' = TakesTooMany count left left'
PutEnds Alone statuses.Busy before now left left' lost lost' failed failed' = Alone → ⊥
PutEnds Alone status before now left left' lost lost' failed failed' = ⊥

-- the store holds the blob after this history
abbrev pub HoldsAfter : Option History → DriverKeys → Key → List ℕ → Type 0
HoldsAfter None driver key blob = ⊥
HoldsAfter (Some h) driver key blob = FolderHolds (disk_of h) 0 driver key blob

-- The put's line was printed, and then the blob that the store holds: behind `stored` the put's own, the whole of the source.
pub record GivesBack (history : Option History) (driver : DriverKeys) (key : Key) (left left' written written' : Option (List ℕ)) : Type 0 where
  pub line : List ℕ
  pub blob : List ℕ
  pub held : HoldsAfter history driver key blob
  pub lines : ((line ≡ codes "stored\n") × IsReadOut left left' blob) ⊎ (line ≡ codes "kept\n")
  pub printed : IsAdded written written' (line ++ blob)

-- the get that follows gives it back, unless memory ran out or a fault was counted
abbrev pub FindsAgain : Status → Option History → DriverKeys → Key → ℕ → ℕ → Option (List ℕ) → Option (List ℕ) → Option (List ℕ) → Option (List ℕ) → ℕ → ℕ → Type 0
FindsAgain statuses.Ok history driver key before now left left' written written' failed failed' = GivesBack history driver key left left' written written'
FindsAgain statuses.NoMemory history driver key before now left left' written written' failed failed' = Unit {0}
FindsAgain statuses.FilesFault history driver key before now left left' written written' failed failed' = Rose before now
FindsAgain statuses.WriteFault history driver key before now left left' written written' failed failed' = Rose failed failed'
FindsAgain status history driver key before now left left' written written' failed failed' = ⊥
