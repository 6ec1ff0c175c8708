-- The rules as tests of what a log says at a place, each at one name or of one list.
use Rattle.std.specs.Prelude.{◌≡◌, ℕ, nat_eq, Bool, true, false, not, ◌&&◌, ◌||◌, List, ◌∷◌, Option, Some, None, is_some, is_none}
use Rattle.std.specs.List.{list_all, list_any}
use Rattle.std.specs.Cmp.Lexicographic.{pointwise}
use Rattle.cache_types.specs.Driver.{DriverKeys}
use Rattle.cache_types.specs.Seats.{same_seat}
use Rattle.cache_types.specs.declared.answer.Answer.{Answer}
use Rattle.cache_types.specs.declared.answer.Answer.TheVariants as answers
use Rattle.cache_types.specs.declared.key.Key.{Key}
use Rattle.cache_types.specs.declared.name.Name.{Name}
use Rattle.cache_types.specs.declared.name.Name.TheVariants as names
use Rattle.cache_types.specs.declared.request.Request.{Request}
use Rattle.cache_types.specs.declared.request.Request.TheVariants as requests
use Rattle.cache_types.specs.declared.seat.Who.{Who}
use Rattle.cache_types.specs.declared.store.Layout.{Layout}
use Rattle.cache_types.specs.declared.store.Layout.TheVariants.{Folder, Database, Foz}
use Rattle.cache_types.specs.declared.store.Store.{Store}
use Rattle.file_log.specs.Disk.{Disk, file_of}
use Rattle.file_log.specs.Effect.{applied}
use Rattle.file_log.specs.Log.{seat_of}
use Rattle.file_log.specs.declared.item.LogItem.{LogItem}
use Rattle.file_log.specs.declared.item.LogItem.TheVariants as items
use Rattle.seat_rules.specs.Answers.{may_end, may_evict, is_too_large}
use Rattle.seat_rules.specs.Changes.{has_lock, may_write, is_rename, is_rename_of}
use Rattle.seat_rules.specs.Address.{Address}
use Rattle.seat_rules.specs.Kinds.{folder_byte, is_entry, is_temporary, comes_guarded, is_lasting, is_foreign, is_unwritten}
use Rattle.log_summary.specs.Summary.{BegunPut, OpenEvict, Operation, Summary, summed, read_for, given, given_for}
use Rattle.folder_rules.specs.Whole.{folder_of}

-- ---- when two are one

-- the second holds where the first does
abbrev pub implies : Bool → Bool → Bool
implies a b = not a || b

-- the same number, or none both times
abbrev pub same_number : Option ℕ → Option ℕ → Bool
same_number None None = true
same_number (Some a) (Some b) = nat_eq a b
same_number a b = false

-- the same blob, or none both times
abbrev pub same_blob : Option (List ℕ) → Option (List ℕ) → Bool
same_blob None None = true
same_blob (Some a) (Some b) = pointwise nat_eq a b
same_blob a b = false

-- the same layout
abbrev pub same_layout : Layout → Layout → Bool
same_layout Folder Folder = true
same_layout Database Database = true
same_layout Foz Foz = true
same_layout a b = false

-- the same root and layout
abbrev pub same_store : Store → Store → Bool
same_store a b = nat_eq a.root b.root && same_layout a.layout b.layout

-- the same id, GPU name and flags
abbrev pub same_driver : DriverKeys → DriverKeys → Bool
same_driver a b = pointwise nat_eq a.id b.id && pointwise nat_eq a.gpu b.gpu && nat_eq a.flags b.flags

-- the same bytes of a key
abbrev pub same_key : Key → Key → Bool
same_key a b = pointwise nat_eq a.bytes b.bytes

-- the same store, driver and key
abbrev pub same_address : Address → Address → Bool
same_address a b = same_store a.store b.store && same_driver a.driver b.driver && same_key a.key b.key

-- ---- entries are whole

-- the bytes read as the blob of a put into this root's folder store under the key
abbrev pub is_item_of : ℕ → Key → List ℕ → BegunPut → Bool
is_item_of root key bytes p = same_store p.at.store (folder_of root) && same_key p.at.key key && same_blob (read_for p.at.driver (Some bytes)) (Some p.blob)

-- an entry's file, if there is one, is such an item of some put
abbrev pub is_whole : List BegunPut → ℕ → Key → Option (List ℕ) → Bool
is_whole puts root key None = true
is_whole puts root key (Some bytes) = list_any (is_item_of root key bytes) puts

-- ---- what becomes of a name

-- the file that it had has the same bytes
abbrev pub keeps_bytes_of : Disk → Disk → Option ℕ → Bool
keeps_bytes_of old new None = true
keeps_bytes_of old new (Some file) = pointwise nat_eq (new.files file) (old.files file)

-- it had the file that it has
abbrev pub had_before : Disk → Name → Option ℕ → Bool
had_before old name None = true
had_before old name (Some file) = same_number (old.names name) (Some file)

-- it has the file that it had
abbrev pub has_still : Disk → Name → Option ℕ → Bool
has_still new name None = true
has_still new name (Some file) = same_number (new.names name) (Some file)

-- it has the same file, or none still
abbrev pub has_same : Disk → Disk → Name → Bool
has_same old new name = same_number (new.names name) (old.names name)

-- files that names of a kind have or had keep their bytes
abbrev pub keep_bytes : (Name → Bool) → List (Name × ℕ) → Disk → Disk → Bool
keep_bytes is_kind had old new = list_all (λ p. implies (is_kind p.0) (keeps_bytes_of old new (Some p.1))) had

-- ---- only a holder writes

-- its file keeps its bytes, no file comes that would come under its lock, a temporary name stays as it is
abbrev pub left_at : Disk → Disk → Name → Bool
left_at old new name =
    keeps_bytes_of old new (old.names name)
    && implies (comes_guarded name) (had_before old name (new.names name))
    && implies (is_temporary name) (has_same old new name)

-- the seat may write it, or leaves it so
abbrev pub guarded_at : Disk → Disk → Who → Name → Bool
guarded_at old new who name = may_write old who name || left_at old new name

-- ---- an entry comes by a rename

-- the entry changes only by the holder of its folder's lock, gets a file only by a rename of its temporary name, and is never renamed
abbrev pub renamed_at : Disk → Disk → LogItem → Who → ℕ → Key → Bool
renamed_at old new item who root key =
    (has_lock old who (names.FolderLock root (folder_byte key)) || has_same old new (names.Entry root key))
    && (is_rename (names.Temp root key) (names.Entry root key) item || had_before old (names.Entry root key) (new.names (names.Entry root key)))
    && implies (is_rename_of (names.Entry root key) item) (has_same old new (names.Entry root key))

-- ---- names stay

-- a lasting name keeps its file, and a foreign one stays as it is
abbrev pub stays_at : Disk → Disk → Name → Bool
stays_at old new name = implies (is_lasting name) (has_still new name (old.names name)) && implies (is_foreign name) (has_same old new name)

-- ---- nothing is lost unevicted

-- some blob is given under the address
abbrev pub is_held : Disk → Address → Bool
is_held d at = is_some (given d at)

-- an open Evict is of this seat and address
abbrev pub evicts : Who → Address → OpenEvict → Bool
evicts who at e = same_seat e.who who && same_address e.at at

-- what a put began is held, or was not, or is being evicted by the seat
abbrev pub kept_at : List OpenEvict → Who → Disk → Disk → BegunPut → Bool
kept_at evicting who old new p = implies (is_held old p.at) (is_held new p.at || list_any (evicts who p.at) evicting)

-- so is each put, or a process was stopped or a call failed
abbrev pub kept : Bool → List BegunPut → List OpenEvict → Who → Disk → Disk → Bool
kept rough puts evicting who old new = rough || list_all (kept_at evicting who old new) puts

-- ---- answers are earned

-- what an answer says is so: of what the store gave, the last of it after the End, and of the operation
abbrev pub says_true : Bool → List (Option (List ℕ)) → Operation → Request → Answer → Bool
says_true rough gave o (requests.Get store driver key ro) (answers.Hit blob) = list_any (same_blob (Some blob)) gave
says_true rough gave o (requests.Get store driver key ro) answers.Miss = rough || list_any is_none gave
says_true rough gave o (requests.Put store driver key meta blob limit) answers.Stored = list_any (same_blob (Some blob)) gave
says_true rough gave o (requests.Put store driver key meta blob limit) answers.Kept = list_any is_some gave
says_true rough gave o (requests.Put store driver key meta blob limit) (answers.TooLarge n) = is_too_large blob n
says_true rough gave o request answers.Busy = o.held_off
says_true rough gave o request answers.FilesFault = o.failed
says_true rough gave o request answer = true

-- the seat is in an operation that the answer may end, and what it says is so
abbrev pub ends_well : Bool → Disk → Option Operation → Answer → Bool
ends_well rough d None answer = false
ends_well rough d (Some o) answer = may_end o.request answer && says_true rough (given_for d o.request ∷ o.gave) o o.request answer

-- the seat is in an operation that may evict
abbrev pub evicts_well : Option Operation → Bool
evicts_well None = false
evicts_well (Some o) = may_evict o.request

-- an operation begins where the seat is in none, evicts where it may, and ends well
abbrev pub is_earned : Summary → LogItem → Bool
is_earned s (items.Begin who request) = is_none (s.inside who)
is_earned s (items.Evict who store driver key) = evicts_well (s.inside who)
is_earned s (items.End who answer) = ends_well s.rough s.state.disk (s.inside who) answer
is_earned s item = true

-- ---- all of them

-- an item of this seat passes the tests of the six rules, at each name
pub record Passes (s : Summary) (item : LogItem) (who : Who) : Type 0 where
  pub whole : (root : ℕ) (key : Key) → is_whole (summed s item).puts root key (file_of (applied s.state.disk item) (names.Entry root key)) ≡ true
  pub written : (name : Name) → guarded_at s.state.disk (applied s.state.disk item) who name ≡ true
  pub renamed : (root : ℕ) (key : Key) → renamed_at s.state.disk (applied s.state.disk item) item who root key ≡ true
  pub entries : keep_bytes is_entry s.had s.state.disk (applied s.state.disk item) ≡ true
  pub stay : (name : Name) → stays_at s.state.disk (applied s.state.disk item) name ≡ true
  pub unwritten : keep_bytes is_unwritten s.had s.state.disk (applied s.state.disk item) ≡ true
  pub kept : kept s.rough s.puts s.evicting who s.state.disk (applied s.state.disk item) ≡ true
  pub earned : is_earned s item ≡ true

-- the item passes them, where it is a seat's
abbrev pub PassesTests : Summary → LogItem → Type 0
PassesTests s item = (who : Who) → seat_of item ≡ Some who → Passes s item who
