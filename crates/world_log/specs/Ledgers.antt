-- What a ledger carries along a log, as the log's summary says it.
use Rattle.std.specs.Prelude.{◌≡◌, ℕ, Bool, ◌&&◌, ◌||◌, List, [], Option, is_some}
use Rattle.std.specs.List.{list_any}
use Rattle.cache_types.specs.declared.key.Key.{Key}
use Rattle.cache_types.specs.declared.seat.Who.{Who}
use Rattle.file_log.specs.Disk.{Disk}
use Rattle.file_log.specs.State.{first}
use Rattle.seat_rules.specs.Address.{Address}
use Rattle.folder_rules.specs.Whole.{folder_of}
use Rattle.log_summary.specs.Summary.{BegunPut, OpenEvict, Summary, nothing, read_for}
use Rattle.operation_ledger.specs.Had.{IsNamesHad}
use Rattle.operation_ledger.specs.Operations.{AreOperations}
use Rattle.rule_checks.specs.Tests.{implies, same_store, same_key, evicts}
use Rattle.world_log.specs.Grouping.{AreGrouped}
use Rattle.world_log.specs.declared.ledger.Ledger.{Ledger}
use Rattle.world_tables.specs.Tables.{disk_at}
use Rattle.world_tables.specs.declared.tables.Tables.{Tables}

-- all but the names that files have had is what the summary says
pub record CarriesRest (ledger : Ledger) (s : Summary) : Type 0 where
  pub operations : AreOperations ledger.operations s
  pub puts : AreGrouped ledger.puts s.puts
  pub evicting : ledger.evicting.items ≡ s.evicting
  pub rough : ledger.rough ≡ s.rough

-- all of it is
pub record Carries (ledger : Ledger) (s : Summary) : Type 0 where
  pub names : IsNamesHad ledger.names s.had
  pub rest : CarriesRest ledger s

-- a summary of this disk, these puts and Evicts and this calm alone
abbrev pub summary_with : Disk → List BegunPut → List OpenEvict → Bool → Summary
summary_with d puts evicting rough = record { state = record { disk = d; halted = (first []).halted; waiting = (first []).waiting; used = (first []).used }; had = []; puts = puts; inside = nothing.inside; evicting = evicting; rough = rough }

-- what a ledger and the tables of a disk say of Evicts and calm, where these puts began
abbrev pub told_by : List BegunPut → Ledger → Tables → Summary
told_by puts ledger tables = summary_with (disk_at tables) puts ledger.evicting.items ledger.rough

-- what an entry's old file holds of an address is held by its new one, or is being evicted by the seat
abbrev pub keeps_at : List OpenEvict → Who → ℕ → Key → Option (List ℕ) → Option (List ℕ) → Address → Bool
keeps_at evicting who root key old new at =
    implies (same_store at.store (folder_of root) && same_key at.key key && is_some (read_for at.driver old)) (is_some (read_for at.driver new) || list_any (evicts who at) evicting)

-- what it holds of a put is
abbrev pub keeps_put : List OpenEvict → Who → ℕ → Key → Option (List ℕ) → Option (List ℕ) → BegunPut → Bool
keeps_put evicting who root key old new p = keeps_at evicting who root key old new p.at
