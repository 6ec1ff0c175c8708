-- What a lookup in a folder store does, as the log tells it.
use Rattle.std.specs.Prelude.{◌≡◌, ◌⊎◌, ◌↔◌, ℕ, true, List, [], Option}
use Rattle.std.specs.List.{list_any}
use Rattle.cache_types.specs.declared.answer.Answer.{Answer}
use Rattle.cache_types.specs.declared.answer.Answer.TheVariants.{Hit, Miss, FilesFault, NoMemory}
use Rattle.cache_types.specs.declared.key.Key.{Key}
use Rattle.cache_types.specs.declared.request.Request.{Request}
use Rattle.cache_types.specs.declared.seat.Who.{Who}
use Rattle.cache_types.specs.Driver.{DriverKeys}
use Rattle.file_log.specs.declared.item.LogItem.{LogItem}
use Rattle.file_log.specs.Along.{All}
use Rattle.file_log.specs.Log.{History, own}
use Rattle.file_log.specs.Operation.{IsOperation, LeavesAll, is_fault}
use Rattle.file_log.specs.State.{after, state_of, disk_of}
use Rattle.file_log.specs.Told.{Grows, Rose}
use Rattle.folder_rules.specs.Holds.{FolderHolds}
use Rattle.folder_store.specs.Finds.{FindsOrFails}
use Rattle.folder_store.specs.Rests.{RestsOn}
use Rattle.folder_store.specs.Keeping.{HasKept, KeepsRulesAmong, OthersKeepRules, WasLacking, AsksGet}

-- an answer that a lookup ends with
abbrev pub IsLookupAnswer : Answer → Type 0
IsLookupAnswer (Hit blob) = Unit {0}
IsLookupAnswer Miss = Unit {0}
IsLookupAnswer FilesFault = Unit {0}
IsLookupAnswer NoMemory = Unit {0}
IsLookupAnswer answer = ⊥

-- A seat looked a key up in a folder store: a history h went on by these new items.
pub record LooksUp (me : Who) (request : Request) (root : ℕ) (driver : DriverKeys) (key : Key) (answer : Answer) (h : History) (news : List LogItem) : Type 0 where
  -- nothing was begun for want of memory, or its own items are one operation of at most four calls in this root
  pub operation : ((own me news ≡ []) × (answer ≡ NoMemory)) ⊎ IsOperation me request root 4 answer (own me news)
  -- where all new items are its own, the answer is what the store held before, or that a call failed
  pub finds : own me news ≡ news → FindsOrFails (FolderHolds (disk_of h) root driver key) answer
  -- its own items change no name and no file, whatever stands between them
  pub still : All after (LeavesAll me) (state_of h) news
  -- it answers a fault exactly where one of its calls failed other than for want of memory
  pub fault : (answer ≡ FilesFault) ↔ (list_any is_fault (own me news) ≡ true)
  -- whatever others do, the answer rests on what its own items read
  pub rests : RestsOn me root key (own me news) driver answer
  -- among seats that keep the rules it keeps them too, where this lookup was asked for
  pub keeps : AsksGet request root driver key → KeepsRulesAmong me h news
  -- and its miss says, also after stops and failed calls, that after one of its items the store held no such blob
  pub misses : AsksGet request root driver key → HasKept h → OthersKeepRules me h news → answer ≡ Miss → WasLacking me root driver key h news

-- The same where the log may not be told: the answer is one of a lookup, and a fault has its cause in the count of faults.
pub record LookedUp (me : Who) (request : Request) (root : ℕ) (driver : DriverKeys) (key : Key) (old new : Option History) (before now : ℕ) (answer : Answer) : Type 0 where
  pub kind : IsLookupAnswer answer
  pub cause : answer ≡ FilesFault → Rose before now
  pub told : Grows old new (LooksUp me request root driver key answer)
