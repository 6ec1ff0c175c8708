-- The operations that seats are in, as a log's summary says.
use Rattle.std.specs.Prelude.{◌≡◌, ℕ, Bool, true, List, ◌++◌, Option, Some, None, if◌then◌else◌}
use Rattle.std.specs.HashMap.{get}
use Rattle.std.specs.List.{list_any}
use Rattle.cache_types.specs.Seats.{same_seat}
use Rattle.cache_types.specs.declared.name.Name.{Name}
use Rattle.cache_types.specs.declared.seat.Who.{Who}
use Rattle.file_log.specs.Disk.{Disk, bytes_in}
use Rattle.file_log.specs.Effect.{applied}
use Rattle.file_log.specs.declared.item.LogItem.{LogItem}
use Rattle.seat_rules.specs.Kinds.{is_entry}
use Rattle.log_summary.specs.Summary.{Operation, Summary, gained, given_for, goes_on_if}
use Rattle.operation_ledger.specs.Entries.{entry_of, read_by}
use Rattle.operation_ledger.specs.Given.{Learns}
use Rattle.operation_ledger.specs.Had.{IsNamesHad}
use Rattle.operation_ledger.specs.Listed.{AreListed, WasEntry}
use Rattle.operation_ledger.specs.Tries.{AreTries}
use Rattle.operation_ledger.specs.declared.given.Lately.{Lately}
use Rattle.operation_ledger.specs.declared.given.Lately.TheVariants.{AsBefore, Gives}
use Rattle.operation_ledger.specs.declared.names_had.NamesHad.{NamesHad}
use Rattle.operation_ledger.specs.declared.operation.OpenOperation.{OpenOperation}
use Rattle.operation_ledger.specs.declared.operations.Operations.{Operations}
use Rattle.rule_checks.specs.Tests.{same_blob, keep_bytes}
use Rattle.world_tables.specs.Tables.{disk_at}
use Rattle.world_tables.specs.declared.tables.Tables.{Tables}

-- ---- one operation

-- what a remembered file reads as for the operation stands among what was given
abbrev pub IsRemembered : Disk → OpenOperation → Type 0
IsRemembered d x = list_any (same_blob (read_by x.request (bytes_in d.files x.entry))) x.gave.items ≡ true

-- What is held of an operation is what the summary says of it: the same was given, if not as often, and the tries are counted up to 63. The file that
-- its entry had after its last item is remembered.
pub record Holds (had : List (Name × ℕ)) (d : Disk) (x : OpenOperation) (o : Operation) : Type 0 where
  pub request : x.request ≡ o.request
  pub gave : (test : Option (List ℕ) → Bool) → list_any test x.gave.items ≡ list_any test o.gave
  pub remembered : IsRemembered d x
  pub was_entry : WasEntry had x.entry
  pub failed : x.failed ≡ o.failed
  pub row : AreTries x.tries.items o.row
  pub held_off : x.held_off ≡ o.held_off

-- what its store gives now is this, or what it gave before
abbrev pub GivesNow : Disk → OpenOperation → Lately → Type 0
GivesNow d x AsBefore = IsRemembered d x → list_any (same_blob (given_for d x.request)) x.gave.items ≡ true
GivesNow d x (Gives given) = given ≡ given_for d x.request

-- it has looked at its entry: what that gives now is known, and its file is remembered
pub record Looks (d : Disk) (old new : OpenOperation) : Type 0 where
  pub gave : IsRemembered d old → Learns old.gave.items (given_for d old.request) new.gave.items
  pub entry : new.entry ≡ entry_of d old.request

-- all else of it is as it was
pub record KeepsRest (old new : OpenOperation) : Type 0 where
  pub request : new.request ≡ old.request
  pub failed : new.failed ≡ old.failed
  pub tries : new.tries ≡ old.tries
  pub held_off : new.held_off ≡ old.held_off

-- what was asked of it and what was given to it are as they were
pub record KeepsGiven (old new : OpenOperation) : Type 0 where
  pub request : new.request ≡ old.request
  pub gave : new.gave ≡ old.gave
  pub entry : new.entry ≡ old.entry

-- so it is, and no call of it failed meanwhile
pub record KeepsAllBut (old new : OpenOperation) : Type 0 where
  pub given : KeepsGiven old new
  pub failed : new.failed ≡ old.failed

-- ---- all seats

-- the operation that a seat is in, if it is in one
abbrev pub operation_of : Operations → Who → Option OpenOperation
operation_of operations who = get same_seat operations.held who

-- both have an operation of a seat, or none
abbrev pub IsOperation : List (Name × ℕ) → Disk → Option OpenOperation → Option Operation → Type 0
IsOperation had d None None = Unit {0}
IsOperation had d (Some x) (Some o) = Holds had d x o
IsOperation had d x o = ⊥

-- so it is of each seat; and the summary lists the files that names have
pub record AreOperations (operations : Operations) (s : Summary) : Type 0 where
  pub inside : (who : Who) → IsOperation s.had s.state.disk (operation_of operations who) (s.inside who)
  pub listed : AreListed s.had s.state.disk

-- the seat's operation goes on over the item, and the others' are as they were
abbrev pub GoesOn : Who → Operations → Operations → Summary → LogItem → Type 0
GoesOn who old new s item = (w : Who) → IsOperation (s.had ++ gained s.state.disk item) (applied s.state.disk item) (operation_of new w) (if same_seat w who then goes_on_if s.had s.state.disk item (s.inside w) else s.inside w)

-- the names and the tables are as they are after the item, at which files that entries have or had keep their bytes
pub record IsAfter (names : NamesHad) (tables : Tables) (s : Summary) (item : LogItem) : Type 0 where
  pub had : IsNamesHad names (s.had ++ gained s.state.disk item)
  pub disk : disk_at tables ≡ applied s.state.disk item
  pub kept : keep_bytes is_entry s.had s.state.disk (applied s.state.disk item) ≡ true
