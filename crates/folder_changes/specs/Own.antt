-- What a seat's own items may change on a folder store and keep the rules.
use Rattle.std.specs.Prelude.{◌≡◌, ◌⊎◌, ℕ, true, false, List, Option, Some, None}
use Rattle.cache_types.specs.Driver.{DriverKeys, IsDriver, Fronts, HasNoFront}
use Rattle.cache_types.specs.declared.key.Key.{Key}
use Rattle.cache_types.specs.declared.name.Name.{Name}
use Rattle.cache_types.specs.declared.name.Name.TheVariants.{Entry, Temp}
use Rattle.cache_types.specs.declared.seat.Who.{Who}
use Rattle.file_log.specs.Disk.{file_of, made_at, rewritten}
use Rattle.file_log.specs.Effect.{applied}
use Rattle.file_log.specs.Log.{History}
use Rattle.file_log.specs.Operation.{IsStill}
use Rattle.file_log.specs.State.{disk_of}
use Rattle.file_log.specs.declared.call.Call.TheVariants.{Rename}
use Rattle.file_log.specs.declared.item.LogItem.{LogItem}
use Rattle.file_log.specs.declared.item.LogItem.TheVariants.{Did}
use Rattle.file_log.specs.declared.reply.Reply.TheVariants.{Done}
use Rattle.seat_rules.specs.Changes.{may_write}
use Rattle.seat_rules.specs.Address.{Address, address}
use Rattle.layout_rules.specs.Parts.{IsHeld}
use Rattle.seat_rules.specs.Kinds.{folder_byte, is_entry, comes_guarded, is_foreign}
use Rattle.seat_rules.specs.Operations.{EvictIsOpen}
use Rattle.layout_rules.specs.Rules.{AnswersAreEarned, Conforms}
use Rattle.folder_rules.specs.Whole.{folder_of, IsPutItem}
use Rattle.folder_changes.specs.Frame.{HasFolder}
use Rattle.folder_changes.specs.Order.{is_settled, InOrder}

-- an item that changes no name and no file
abbrev pub StillKeeps : Type 0
StillKeeps = (h : History) (item : LogItem) (me : Who) → InOrder h → AnswersAreEarned h item → IsStill (disk_of h) (applied (disk_of h) item) → Conforms h item me

-- one that opens a name and makes its file where it has none: a name of no entry and none of a read-only database, under its lock where it comes under one
abbrev pub MakingKeeps : Type 0
MakingKeeps = (h : History) (item : LogItem) (me : Who) (name : Name) → InOrder h → AnswersAreEarned h item → IsStill (made_at ((disk_of h).names name) (disk_of h) name) (applied (disk_of h) item)
    → is_entry name ≡ false → is_foreign name ≡ false → (may_write (disk_of h) me name ≡ true) ⊎ (comes_guarded name ≡ false) → Conforms h item me

-- one that writes the file of a name that the seat may write and that isn't settled
abbrev pub WritingKeeps : Type 0
WritingKeeps = (h : History) (item : LogItem) (me : Who) (name : Name) (file : ℕ) (change : List ℕ → List ℕ) → InOrder h → AnswersAreEarned h item → (disk_of h).names name ≡ Some file → IsStill (rewritten (disk_of h) (Some file) change) (applied (disk_of h) item)
    → is_settled name ≡ false → may_write (disk_of h) me name ≡ true → Conforms h item me

-- what the entry holds goes with an open Evict of the seat
abbrev pub IsEvicting : History → Who → ℕ → Key → Type 0
IsEvicting h me root key = (at : Address) → at.store.root ≡ root → at.key ≡ key → IsDriver at.driver → IsHeld (disk_of h) at → EvictIsOpen h.log me at

-- one that gives a whole item's file from a key's temporary name to its entry, by the holder of the folder's lock that evicts what stood there
abbrev pub InstallingKeeps : Type 0
InstallingKeeps = (h : History) (me : Who) (root : ℕ) (key : Key) (file : ℕ) → InOrder h → (disk_of h).names (Temp root key) ≡ Some file → HasFolder (disk_of h) me root (folder_byte key)
    → IsPutItem h.log root key ((disk_of h).files file) → IsEvicting h me root key → Conforms h (Did me (Rename (Temp root key) (Entry root key)) Done) me

-- ---- what replacing an entry evicts

-- the entry has no file, or one with no driver's blob in front, or one with a driver's of which the seat has an open Evict
abbrev pub IsReplacing : List LogItem → Who → ℕ → Key → Option (List ℕ) → Type 0
IsReplacing log me root key None = Unit {0}
IsReplacing log me root key (Some bytes) = HasNoFront bytes ⊎ ((driver : DriverKeys) × Fronts bytes driver × EvictIsOpen log me (address (folder_of root) driver key))

-- then all that the entry holds goes with an open Evict
abbrev pub ReplacingEvicts : Type 0
ReplacingEvicts = (h : History) (me : Who) (root : ℕ) (key : Key) → IsReplacing h.log me root key (file_of (disk_of h) (Entry root key)) → IsEvicting h me root key
