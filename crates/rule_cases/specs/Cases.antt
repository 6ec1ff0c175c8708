-- The rules as tests of an item by what it does to names and files: each looks at the disk before the item, at one or two names and at the names
-- that one file has had.
use Rattle.std.specs.Prelude.{ℕ, nat_eq, Bool, true, not, ◌&&◌, ◌||◌, List, [], ◌∷◌, take, Option, Some, None, is_some, is_none}
use Rattle.std.specs.List.{list_all, list_any}
use Rattle.std.specs.Cmp.Lexicographic.{pointwise}
use Rattle.cache_types.specs.Names.{same_name}
use Rattle.cache_types.specs.declared.key.Key.{Key}
use Rattle.cache_types.specs.declared.name.Name.{Name}
use Rattle.cache_types.specs.declared.name.Name.TheVariants as names
use Rattle.cache_types.specs.declared.seat.Who.{Who}
use Rattle.file_log.specs.Disk.{Disk, file_of}
use Rattle.file_log.specs.Log.{seat_of}
use Rattle.file_log.specs.Writing.{written}
use Rattle.file_log.specs.declared.call.Call.{Call}
use Rattle.file_log.specs.declared.call.Call.TheVariants as calls
use Rattle.file_log.specs.declared.item.LogItem.{LogItem}
use Rattle.file_log.specs.declared.item.LogItem.TheVariants as items
use Rattle.file_log.specs.declared.reply.Reply.{Reply}
use Rattle.file_log.specs.declared.reply.Reply.TheVariants.{Done}
use Rattle.seat_rules.specs.Changes.{has_lock, may_write}
use Rattle.seat_rules.specs.Kinds.{folder_byte, is_entry, is_temporary, comes_guarded, is_lasting, is_foreign, is_unwritten}
use Rattle.seat_rules.specs.Operations.{is_file}
use Rattle.folder_rules.specs.Whole.{folder_of}
use Rattle.log_summary.specs.Summary.{BegunPut, Summary, read_for}
use Rattle.rule_checks.specs.Tests.{implies, same_store, same_key, is_item_of, evicts, is_earned}

-- ---- a name gets a new file

-- a seat may give this name a new file: no entry comes so, no name of a read-only database, and one that comes under a lock by its holder alone
abbrev pub may_make : Disk → Who → Name → Bool
may_make d who name = not (is_entry name) && not (is_foreign name) && implies (comes_guarded name) (may_write d who name)

-- the name is opened; it gets a new file where it has none
abbrev pub passes_making : Disk → Who → Name → Option ℕ → Bool
passes_making d who name None = may_make d who name
passes_making d who name (Some file) = true

-- ---- a file's bytes change

-- a name that has had the file is no entry and is written at all, and where it has the file now the seat may write it
abbrev pub may_change_of : Disk → Who → ℕ → Name → Bool
may_change_of d who file name = not (is_entry name) && not (is_unwritten name) && implies (is_file file (d.names name)) (may_write d who name)

-- so is each name that has had it
abbrev pub may_change : Summary → Who → ℕ → Bool
may_change s who file = list_all (λ p. implies (nat_eq p.1 file) (may_change_of s.state.disk who file p.0)) s.had

-- the file of a slot changes so, if its bytes differ then
abbrev pub passes_change : Summary → Who → (List ℕ → List ℕ) → Option ℕ → Bool
passes_change s who change None = true
passes_change s who change (Some file) = pointwise nat_eq (change (s.state.disk.files file)) (s.state.disk.files file) || may_change s who file

-- ---- an entry's file comes or goes

-- a put into this root's folder store under the key
abbrev pub is_put_at : ℕ → Key → BegunPut → Bool
is_put_at root key p = same_store p.at.store (folder_of root) && same_key p.at.key key

-- What the entry's file holds of what was put is held by the file that comes in its place, or is being evicted by the seat; unless a process
-- was stopped or a call failed before.
abbrev pub loses_nothing : Summary → Who → ℕ → Key → Option (List ℕ) → Bool
loses_nothing s who root key new = s.rough || list_all (λ p. implies (is_put_at root key p && is_some (read_for p.at.driver (file_of s.state.disk (names.Entry root key)))) (is_some (read_for p.at.driver new) || list_any (evicts who p.at) s.evicting)) s.puts

-- an entry gets this file by the holder of its folder's lock, from its temporary name, as a whole item of a blob that was put; nothing is lost
abbrev pub entry_comes : Summary → Who → ℕ → Key → Name → ℕ → Bool
entry_comes s who root key from file =
    same_name from (names.Temp root key)
    && has_lock s.state.disk who (names.FolderLock root (folder_byte key))
    && list_any (is_item_of root key (s.state.disk.files file)) s.puts
    && loses_nothing s who root key (Some (s.state.disk.files file))

-- an entry goes by the holder of its folder's lock; nothing is lost
abbrev pub entry_goes : Summary → Who → ℕ → Key → Bool
entry_goes s who root key = has_lock s.state.disk who (names.FolderLock root (folder_byte key)) && loses_nothing s who root key None

-- ---- a name is renamed or removed

-- a name may lose its file
abbrev pub may_leave : Disk → Who → Name → Bool
may_leave d who name = not (is_lasting name) && not (is_foreign name) && implies (is_temporary name) (may_write d who name)

-- another file may come in a name's place, an entry's only as an entry comes
abbrev pub comes_well : Summary → Who → Name → ℕ → Name → Bool
comes_well s who from file (names.Entry root key) = entry_comes s who root key from file
comes_well s who from file to = implies (is_lasting to) (is_none (s.state.disk.names to)) && not (is_foreign to) && implies (comes_guarded to) (may_write s.state.disk who to)

-- the file of one name goes to another
abbrev pub passes_renaming : Summary → Who → Name → Name → Option ℕ → Bool
passes_renaming s who from to None = true
passes_renaming s who from to (Some file) = same_name from to || (not (is_entry from) && may_leave s.state.disk who from && comes_well s who from file to)

-- a name's file may go, an entry's only as an entry goes
abbrev pub goes_well : Summary → Who → Name → Bool
goes_well s who (names.Entry root key) = entry_goes s who root key
goes_well s who name = may_leave s.state.disk who name

-- the name is removed
abbrev pub passes_removing : Summary → Who → Name → Option ℕ → Bool
passes_removing s who name None = true
passes_removing s who name (Some file) = goes_well s who name

-- ---- all of them

-- a call that was answered Done
abbrev pub passes_call : Summary → Who → Call → Bool
passes_call s who (calls.OpenNew slot name) = passes_making s.state.disk who name (s.state.disk.names name)
passes_call s who (calls.Cut slot n) = passes_change s who (take n) (s.state.disk.slots who slot)
passes_call s who (calls.Rename from to) = passes_renaming s who from to (s.state.disk.names from)
passes_call s who (calls.Remove name) = passes_removing s who name (s.state.disk.names name)
passes_call s who call = true

-- a call with this reply: another than Done changes nothing
abbrev pub passes_reply : Summary → Who → Call → Reply → Bool
passes_reply s who call Done = passes_call s who call
passes_reply s who call reply = true

-- what an item changes, it may
abbrev pub passes_changing : Summary → LogItem → Bool
passes_changing s (items.Did who call reply) = passes_reply s who call reply
passes_changing s (items.Byte who slot at value) = passes_change s who (written at (value ∷ [])) (s.state.disk.slots who slot)
passes_changing s item = true

-- An item of a seat passes all tests: it changes only what it may, and its answer is earned. An item of no seat does.
abbrev pub passes : Summary → LogItem → Bool
passes s item = is_none (seat_of item) || (passes_changing s item && is_earned s item)
