-- What a put into a folder store does, as the log tells it.
use Rattle.std.specs.Prelude.{◌≡◌, ◌⊎◌, ◌↔◌, ℕ, Bool, true, false, List, [], ◌∷◌, Option, Some, None, IsSomeAnd, filter}
use Rattle.std.specs.List.{list_any}
use Rattle.cache_types.specs.declared.answer.Answer.{Answer}
use Rattle.cache_types.specs.declared.answer.Answer.TheVariants.{Stored, Kept, Busy, FilesFault, NoMemory}
use Rattle.cache_types.specs.declared.key.Key.{Key}
use Rattle.cache_types.specs.declared.name.Name.{Name}
use Rattle.cache_types.specs.declared.name.Name.TheVariants.{Entry, Temp}
use Rattle.cache_types.specs.declared.request.Request.{Request}
use Rattle.cache_types.specs.declared.request.Request.TheVariants as requests
use Rattle.cache_types.specs.declared.seat.Who.{Who}
use Rattle.cache_types.specs.Driver.{DriverKeys, Fronts, HasNoFront}
use Rattle.file_log.specs.declared.item.LogItem.{LogItem}
use Rattle.file_log.specs.declared.item.LogItem.TheVariants as items
use Rattle.file_log.specs.Along.{All, Keeps}
use Rattle.file_log.specs.Disk.{Disk, file_of}
use Rattle.file_log.specs.Log.{History, with_items, is_own, own}
use Rattle.file_log.specs.Operation.{IsOperation, IsStill, is_fault}
use Rattle.file_log.specs.State.{after, state_of, disk_of}
use Rattle.file_log.specs.Told.{Grows, Rose}
use Rattle.item_frame.specs.Item.{item_of, ReadsAs}
use Rattle.seat_rules.specs.Changes.{with_item, is_rename}
use Rattle.seat_rules.specs.Address.{address}
use Rattle.layout_rules.specs.Parts.{IsHeld}
use Rattle.folder_rules.specs.Holds.{FolderHolds}
use Rattle.folder_rules.specs.Rules.{EntriesStayWhole}
use Rattle.folder_rules.specs.Whole.{folder_of, EntriesAreWhole}
use Rattle.folder_store.specs.Entries.{ReplacesTold, OthersSpare}
use Rattle.folder_store.specs.Keeping.{HasKept, KeepsRulesAmong, OthersKeepRules}
use Rattle.folder_store.specs.Locking.{lock_name, IsUnlocked, IsHeldOff, PausesBetweenTries, ChangesUnderLock, OwnMakesLockAlone}
use Rattle.folder_store.specs.OwnChanges.{IsElsewhere, KeepsToOwn, GivesUp}
use Rattle.folder_store.specs.PutPhases.{most_put_calls}
use Rattle.folder_store.specs.Readings.{ReadsItem}

-- an answer that a put ends with
abbrev pub IsPutAnswer : Answer → Type 0
IsPutAnswer Stored = Unit {0}
IsPutAnswer Kept = Unit {0}
IsPutAnswer Busy = Unit {0}
IsPutAnswer FilesFault = Unit {0}
IsPutAnswer NoMemory = Unit {0}
IsPutAnswer answer = ⊥

-- ---- what it is asked for

-- a request for a put of the blob of this item
abbrev pub AsksPut : Request → ℕ → DriverKeys → Key → List ℕ → Type 0
AsksPut (requests.Put store driver' key' meta blob limit) root driver key item = (store ≡ folder_of root) × (driver' ≡ driver) × (key' ≡ key) × ReadsAs driver item meta blob
AsksPut request root driver key item = ⊥

-- the item of a put's blob
abbrev pub item_in : Request → List ℕ
item_in (requests.Put store driver key meta blob limit) = item_of driver meta blob
item_in request = []

-- the blob that a put asks to be stored
abbrev pub blob_in : Request → List ℕ
blob_in (requests.Put store driver key meta blob limit) = blob
blob_in request = []

-- ---- what it leaves

-- the entry's whole file is the item of the driver, the meta and the blob that a put asks to be stored
abbrev pub HoldsItem : Request → Disk → Type 0
HoldsItem (requests.Put store driver key meta blob limit) d = file_of d (Entry store.root key) ≡ Some (item_of driver meta blob)
HoldsItem request d = ⊥

-- Stored: the store held none and now holds the put's own, and no temporary name is left. Kept: it held one, and nothing changed.
-- It isn't Busy. After a failure, or for want of memory, the entry is as it was.
abbrev pub Leaves : ℕ → DriverKeys → Key → List ℕ → Answer → Disk → Disk → Type 0
Leaves root driver key blob Stored old new = (IsHeld old (address (folder_of root) driver key) → ⊥) × FolderHolds new root driver key blob × (new.names (Temp root key) ≡ None)
Leaves root driver key blob Kept old new = IsHeld old (address (folder_of root) driver key) × IsStill old new
Leaves root driver key blob Busy old new = ⊥
Leaves root driver key blob answer old new = file_of new (Entry root key) ≡ file_of old (Entry root key)

-- the lock file has the bytes that it had; where it wasn't there, it still isn't, or is empty
abbrev pub KeepsLock : Option (List ℕ) → Option (List ℕ) → Type 0
KeepsLock None new = (new ≡ None) ⊎ (new ≡ Some [])
KeepsLock (Some bytes) new = new ≡ Some bytes

-- all names elsewhere have their files, with the same bytes, and the lock file at most came
pub record LeavesElsewhere (root : ℕ) (key : Key) (old new : Disk) : Type 0 where
  pub names : (name : Name) → IsElsewhere root key name → file_of new name ≡ file_of old name
  pub lock : KeepsLock (file_of old (lock_name root key)) (file_of new (lock_name root key))

-- ---- what it tells

abbrev pub is_evict : LogItem → Bool
is_evict (items.Evict who store driver key) = true
is_evict item = false

-- what replacing a key's entry tells: that the driver's goes whose blob stands in front of it, if one does
abbrev pub TellsReplaced : Who → ℕ → Key → Option (List ℕ) → List LogItem → Type 0
TellsReplaced me root key None evicts = evicts ≡ []
TellsReplaced me root key (Some bytes) evicts =
    ((driver : DriverKeys) × Fronts bytes driver × (evicts ≡ items.Evict me (folder_of root) driver key ∷ [])) ⊎ (HasNoFront bytes × (evicts ≡ []))

-- a put that stored told just that, and one that kept told nothing
abbrev pub TellsEvicts : Who → ℕ → Key → Option (List ℕ) → Answer → List LogItem → Type 0
TellsEvicts me root key entry Stored evicts = TellsReplaced me root key entry evicts
TellsEvicts me root key entry Kept evicts = evicts ≡ []
TellsEvicts me root key entry answer evicts = (evicts ≡ []) ⊎ TellsReplaced me root key entry evicts

-- the Evict names the key's entry in the folder store of this root, and the driver whose blob stands in front of its file
abbrev pub NamesFront : ℕ → Key → Disk → LogItem → Type 0
NamesFront root key d (items.Evict who store driver key') = (store ≡ folder_of root) × (key' ≡ key) × IsSomeAnd (file_of d (Entry root key)) (λ bytes. Fronts bytes driver)
NamesFront root key d item = Unit {0}

-- each of the seat's does
abbrev pub EvictsNameFronts : Who → ℕ → Key → History → List LogItem → Type 0
EvictsNameFronts me root key h news = All with_item (λ h' item. is_own me item ≡ true → NamesFront root key (disk_of h') item) h news

-- after each Evict the entry is replaced
abbrev pub EntryIsReplaced : ℕ → Key → List LogItem → Type 0
EntryIsReplaced root key [] = Unit {0}
EntryIsReplaced root key (item ∷ made) = (is_evict item ≡ true → list_any (is_rename (Temp root key) (Entry root key)) made ≡ true) × EntryIsReplaced root key made

-- A put that stored replaced the entry after each Evict, one that kept or was busy told none. After a fault, or for want of memory, what
-- was told may still be there.
abbrev pub ReplacesEvicted : ℕ → Key → Answer → List LogItem → Type 0
ReplacesEvicted root key Stored made = EntryIsReplaced root key made
ReplacesEvicted root key Kept made = list_any is_evict made ≡ false
ReplacesEvicted root key Busy made = list_any is_evict made ≡ false
ReplacesEvicted root key answer made = Unit {0}

-- ---- a put alone

-- A put where no other seat has an item or holds the folder's lock: what it leaves of the key's entry, that all else is as it
-- was, and which evictions it told.
pub record PutsAlone (me : Who) (root : ℕ) (driver : DriverKeys) (key : Key) (blob : List ℕ) (answer : Answer) (old new : Disk) (made : List LogItem) : Type 0 where
  pub leaves : Leaves root driver key blob answer old new
  pub elsewhere : LeavesElsewhere root key old new
  pub evicts : TellsEvicts me root key (file_of old (Entry root key)) answer (filter is_evict made)

-- ---- a put among others

-- A seat put a blob into a folder store: a history h went on by these new items.
pub record Puts (me : Who) (request : Request) (root : ℕ) (driver : DriverKeys) (key : Key) (blob : List ℕ) (answer : Answer) (h : History) (news : List LogItem) : Type 0 where
  -- nothing was begun for want of memory, or its own items are one operation of at most 143 calls in this root
  pub operation : ((own me news ≡ []) × (answer ≡ NoMemory)) ⊎ IsOperation me request root most_put_calls answer (own me news)
  -- what it does where all new items are its own, and at first no other seat holds the lock of the key's folder
  pub alone : own me news ≡ news → IsUnlocked me root key (disk_of h) → PutsAlone me root driver key blob answer (disk_of h) (disk_of (with_items h news)) (own me news)
  -- where others leave the key's entry and its temporary file alone, it is not the first whose item leaves an entry that isn't whole
  pub whole : All with_item (OthersSpare me root key) h news → EntriesAreWhole h → Keeps with_item EntriesStayWhole me h news
  -- and it replaces no entry of a driver before it told that this goes
  pub tells_first : All with_item (OthersSpare me root key) h news → Keeps with_item ReplacesTold me h news
  -- and where it stored, it left the entry the whole item that was asked for
  pub stores : All with_item (OthersSpare me root key) h news → answer ≡ Stored → HoldsItem request (disk_of (with_items h news))
  -- it kept only where it read the entry, and what it read is an item of the driver
  pub kept : answer ≡ Kept → ReadsItem root driver key (own me news)
  -- each of its items changes at most its own: the lock file comes, the temporary name and its bytes, and the entry by the renaming of that
  pub frame : All with_item (KeepsToOwn me root key) h news
  -- it changes names and files under the lock of the key's folder alone, as long as no other seat takes the lock file its name
  pub locked : Keeps after (ChangesUnderLock me root key) me (state_of h) news
  -- it is busy exactly where 64 of its tries in a row to take that lock, of one file, were answered that another seat holds it
  pub busy : (answer ≡ Busy) ↔ IsHeldOff root key (own me news)
  -- and between any two of its tries it pauses
  pub pauses : PausesBetweenTries (own me news)
  -- and then it has changed nothing, but that the lock file may be there now
  pub calm : answer ≡ Busy → All after (OwnMakesLockAlone me root key) (state_of h) news
  -- it answers a fault exactly where one of its calls failed other than for want of memory
  pub fault : (answer ≡ FilesFault) ↔ (list_any is_fault (own me news) ≡ true)
  -- one that gives up has not replaced the entry, and after it changed a file it answers want of memory only where a call was refused it
  pub gives_up : GivesUp root key answer (own me news)
  -- among seats that keep the rules it keeps them too
  pub keeps : KeepsRulesAmong me h news
  -- and each of its Evicts names what stands in front of the key's entry then
  pub evicts : HasKept h → OthersKeepRules me h news → EvictsNameFronts me root key h news
  -- which it replaces after that, unless it ends in a fault or for want of memory
  pub replaces : ReplacesEvicted root key answer (own me news)

-- The same where the log may not be told: the answer is one of a put, and a fault has its cause in the count of faults.
pub record PutDone (me : Who) (request : Request) (root : ℕ) (driver : DriverKeys) (key : Key) (blob : List ℕ) (old new : Option History) (before now : ℕ) (answer : Answer) : Type 0 where
  pub kind : IsPutAnswer answer
  pub cause : answer ≡ FilesFault → Rose before now
  pub told : Grows old new (Puts me request root driver key blob answer)
