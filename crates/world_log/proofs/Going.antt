-- A world and a ledger go on over an item of a log.
use Rattle.std.proofs.Common.{◌≡◌, ℕ, ◌+◌, ◌<◌, true, List, [], ◌∷◌, ◌++◌, take, length, get_or, refl, sym, ap, ◌∙◌, subst}
use Rattle.file_log.specs.Along.{All}
use Rattle.file_log.specs.Disk.{Disk}
use Rattle.file_log.specs.Effect.{applied}
use Rattle.file_log.specs.Legal.{IsLegal, Legal}
use Rattle.file_log.specs.State.{State, first, state_of, disk_of}
use Rattle.file_log.specs.declared.item.LogItem.{LogItem}
use Rattle.file_model.proofs.Replays.{legal_at, next_done, next_state}
use Rattle.file_model.specs.Held.{Held, told}
use Rattle.seat_rules.specs.Kinds.{is_entry}
use Rattle.log_summary.proofs.Telling.{tells}
use Rattle.log_summary.specs.Summary.{Summary, nothing, summed, summary_of, gained}
use Rattle.operation_ledger.specs.Had.{IsNamesHad}
use Rattle.operation_ledger.specs.Operations.{IsAfter}
use Rattle.operation_ledger.specs.declared.names_had.NamesHad.{NamesHad}
use Rattle.rule_cases.proofs.Keeping.{entries_keep}
use Rattle.rule_cases.specs.Cases.{passes}
use Rattle.rule_cases.specs.Laws.{Passed}
use Rattle.rule_checks.specs.Tests.{keep_bytes}
use Rattle.world_log.proofs.Places.{summary_then}
use Rattle.world_log.specs.Ledgers.{Carries}
use Rattle.world_log.specs.declared.ledger.Ledger.{Ledger}
use Rattle.world_tables.specs.Tables.{disk_at}
use Rattle.world_tables.specs.declared.tables.Tables.{Tables}

-- ---- over one item

-- the names and the tables are as they are after it
pub is_after : (s : Summary) (names : NamesHad) (before tables : Tables) (world new : Held) (item : LogItem) → disk_at before ≡ disk_of world.past → disk_at tables ≡ disk_of new.past
    → new ≡ told world (item ∷ []) → disk_of world.past ≡ s.state.disk → IsNamesHad names (s.had ++ gained (disk_at before) item)
    → keep_bytes is_entry s.had s.state.disk (applied s.state.disk item) ≡ true → IsAfter names tables s item
is_after s names before tables world new item old after' more disk had kept = record {
  had = subst (λ (d : Disk). IsNamesHad names (s.had ++ gained d item)) (old ∙ disk) had;
  disk = after' ∙ ap (λ (st : State). st.disk) (next_state world new item more) ∙ ap (λ (d : Disk). applied d item) disk;
  kept = kept;
}

-- ---- along a log

-- the world has done again the first n items
abbrev pub IsAt : List LogItem → ℕ → Held → Type 0
IsAt log n world = world ≡ record { past = record { start = []; log = take n log }; clock = 0 }

abbrev opening : Held
opening = record { past = record { start = []; log = [] }; clock = 0 }

pub disk_told : (log : List LogItem) (n : ℕ) (world : Held) → IsAt log n world → disk_of world.past ≡ (summary_of (take n log)).state.disk
disk_told log n world at = ap (λ (h : Held). disk_of h.past) at ∙ ap (λ (st : State). st.disk) (tells (take n log)).state

pub legal_here : (log : List LogItem) (n : ℕ) (world : Held) (item : LogItem) → Legal (first []) log → n < length log → item ≡ get_or log n item → IsAt log n world → IsLegal (state_of world.past) item
legal_here log n world item legal less is at = subst (λ (h : Held). IsLegal (state_of h.past) item) (sym at) (legal_at (first []) log n item legal less is)

pub world_then : (log : List LogItem) (n : ℕ) (world new : Held) (item : LogItem) → n < length log → item ≡ get_or log n item → IsAt log n world → new ≡ told world (item ∷ []) → IsAt log (n + 1) new
world_then log n world new item less is at more = next_done opening log n world new item less is at more

pub ledger_then : (log : List LogItem) (n : ℕ) (ledger : Ledger) (item : LogItem) → n < length log → item ≡ get_or log n item → All summed Passed nothing (take n log) → passes (summary_of (take n log)) item ≡ true
    → (keep_bytes is_entry (summary_of (take n log)).had (summary_of (take n log)).state.disk (applied (summary_of (take n log)).state.disk item) ≡ true → Carries ledger (summed (summary_of (take n log)) item))
    → Carries ledger (summary_of (take (n + 1) log))
ledger_then log n ledger item less is all here carries =
    subst (λ (s : Summary). Carries ledger s) (sym (summary_then log n item less is)) (carries (entries_keep (take n log) item all here))
