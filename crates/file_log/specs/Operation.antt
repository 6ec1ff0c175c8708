-- Operations: the items of a seat from a Begin to its next End.
use Rattle.std.specs.Prelude.{◌≡◌, ◌≤◌, ℕ, ◌+◌, nat_eq, Bool, true, false, ◌&&◌, List, [], ◌∷◌, ◌++◌, Option, Some, None, if◌then◌else◌}
use Rattle.std.specs.List.{AllByRecursion}
use Rattle.cache_types.specs.declared.answer.Answer.{Answer}
use Rattle.cache_types.specs.declared.name.Name.{Name}
use Rattle.cache_types.specs.declared.name.Name.TheVariants as names
use Rattle.cache_types.specs.declared.request.Request.{Request}
use Rattle.cache_types.specs.declared.seat.Who.{Who}
use Rattle.file_log.specs.declared.call.Call.{Call}
use Rattle.file_log.specs.declared.call.Call.TheVariants as calls
use Rattle.file_log.specs.declared.item.LogItem.{LogItem}
use Rattle.file_log.specs.declared.item.LogItem.TheVariants as items
use Rattle.file_log.specs.Disk.{Disk}
use Rattle.file_log.specs.Effect.{applied}
use Rattle.file_log.specs.Log.{is_own}
use Rattle.file_log.specs.State.{State}

-- ---- how many calls there were

-- the slot and the place that a write would go on with
abbrev pub next_place : LogItem → Option (ℕ × ℕ)
next_place (items.Byte who slot at value) = Some (slot, at + 1)
next_place item = None

abbrev pub is_next : Option (ℕ × ℕ) → LogItem → Bool
is_next (Some place) (items.Byte who slot at value) = nat_eq place.0 slot && nat_eq place.1 at
is_next place item = false

-- each item counts as a call, but for a byte that goes on with the one before it
abbrev pub calls_from : Option (ℕ × ℕ) → List LogItem → ℕ
calls_from place [] = 0
calls_from place (item ∷ more) = (if is_next place item then 0 else 1) + calls_from (next_place item) more

abbrev pub calls_in : List LogItem → ℕ
calls_in log = calls_from None log

-- ---- what they speak of

-- the root that a name stands in
abbrev pub root_of_name : Name → Option ℕ
root_of_name (names.FolderLock root byte) = Some root
root_of_name (names.Entry root key) = Some root
root_of_name (names.Temp root key) = Some root
root_of_name (names.KeyIndex root) = Some root
root_of_name (names.Db root) = Some root
root_of_name (names.Idx root) = Some root
root_of_name (names.Foz root) = Some root
root_of_name (names.FozIdx root) = Some root
root_of_name (names.Ro root name) = Some root
root_of_name (names.RoIdx root name) = Some root
root_of_name names.List = None

-- the call names files of this root alone
abbrev pub NamesOnly : ℕ → Call → Type 0
NamesOnly root (calls.OpenOld slot name) = root_of_name name ≡ Some root
NamesOnly root (calls.OpenNew slot name) = root_of_name name ≡ Some root
NamesOnly root (calls.Rename from to) = (root_of_name from ≡ Some root) × (root_of_name to ≡ Some root)
NamesOnly root (calls.Remove name) = root_of_name name ≡ Some root
NamesOnly root (calls.ListFolder other byte) = other ≡ root
NamesOnly root call = Unit {0}

-- an item of a call within an operation in this root: no Begin and no End
abbrev pub IsWithinRoot : ℕ → LogItem → Type 0
IsWithinRoot root (items.Did who call reply) = NamesOnly root call
IsWithinRoot root (items.Byte who slot at value) = Unit {0}
IsWithinRoot root (items.Failed who memory) = Unit {0}
IsWithinRoot root (items.Evict who store driver key) = Unit {0}
IsWithinRoot root item = ⊥

-- A whole operation: its Begin, the items of at most so many calls in this root, and its End.
pub record IsOperation (me : Who) (request : Request) (root most : ℕ) (answer : Answer) (made : List LogItem) : Type 0 where
  pub inner : List LogItem
  pub whole : made ≡ items.Begin me request ∷ (inner ++ items.End me answer ∷ [])
  pub within : AllByRecursion (IsWithinRoot root) inner
  pub few : calls_in inner ≤ most

-- ---- what they do

-- no name and no file is changed
pub record IsStill (old new : Disk) : Type 0 where
  pub names : (name : Name) → new.names name ≡ old.names name
  pub files : (file : ℕ) → new.files file ≡ old.files file

-- an item of this seat changes no name and no file, whatever others do
abbrev pub LeavesAll : Who → State → LogItem → Type 0
LeavesAll me s item = is_own me item ≡ true → IsStill s.disk (applied s.disk item)

-- a call of this seat failed, other than for want of memory
abbrev pub is_fault : LogItem → Bool
is_fault (items.Failed who memory) = if memory then false else true
is_fault item = false

-- a call failed or was refused memory
abbrev pub is_failed : LogItem → Bool
is_failed (items.Failed who memory) = true
is_failed item = false

-- no call failed or was refused memory
abbrev pub NoneFailed : List LogItem → Type 0
NoneFailed [] = Unit {0}
NoneFailed (item ∷ log) = (is_failed item ≡ false) × NoneFailed log
