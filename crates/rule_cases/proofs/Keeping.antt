-- An item that passes the tests by cases leaves the files of entries.
use Rattle.std.proofs.Common.{◌≡◌, ℕ, ◌<◌, true, List, [], ◌∷◌, ◌++◌, fold, Option, Some, None, refl, sym, ◌∙◌, subst, append-nil, append_assoc, arith}
use Rattle.cache_types.specs.declared.name.Name.{Name}
use Rattle.cache_types.specs.declared.name.Name.TheVariants as names
use Rattle.cache_types.specs.declared.seat.Who.{Who}
use Rattle.file_log.specs.Along.{All}
use Rattle.file_log.specs.Disk.{Disk, created, listed}
use Rattle.file_log.specs.Effect.{applied}
use Rattle.file_log.specs.Log.{seat_of}
use Rattle.file_log.specs.declared.item.LogItem.{LogItem}
use Rattle.file_log.specs.declared.item.LogItem.TheVariants as items
use Rattle.seat_rules.specs.Kinds.{is_entry}
use Rattle.seat_rules.proofs.Unseated.{apart}
use Rattle.log_summary.specs.Summary.{Summary, nothing, summed, summary_of}
use Rattle.rule_checks.specs.Tests.{keep_bytes}
use Rattle.rule_checks.proofs.Deciding.{keep_decides}
use Rattle.rule_cases.specs.Laws.{Passed, LeaveEntries}
use Rattle.rule_cases.proofs.Fields.{Known}
use Rattle.rule_cases.proofs.Items.{tested}
use Rattle.rule_cases.proofs.Everywhere.{Stands, stands_first, stands_known, stands_then}

-- ---- items of no seat

created_spares : (d : Disk) (name : Name) (bytes : List ℕ) (f : ℕ) → f < d.count → (created d name bytes).files f ≡ d.files f
created_spares d name bytes f less = rw (apart d.count f (λ same. absurd (omega (arith, less, same)))) refl

listed_spares : (d : Disk) (text : Option (List ℕ)) (f : ℕ) → f < d.count → (listed d text).files f ≡ d.files f
listed_spares d None f less = refl
listed_spares d (Some text) f less = created_spares d names.List text f less

-- each file that is there keeps its bytes
unseated_spares : (d : Disk) (item : LogItem) (f : ℕ) → seat_of item ≡ None → f < d.count → (applied d item).files f ≡ d.files f
unseated_spares d (items.Queued process ticket request) f none less = refl
unseated_spares d (items.Stop process) f none less = refl
unseated_spares d (items.Install root name main index) f none less =
    created_spares (created d (names.Ro root name) main) (names.RoIdx root name) index f (omega (arith, less)) ∙ created_spares d (names.Ro root name) main f less
unseated_spares d (items.SetList text) f none less = listed_spares d text f less
unseated_spares d item f none less = absurd cc

-- ---- each item

pub passed_keeps : (s : Summary) (item : LogItem) → Known s → Passed s item → keep_bytes is_entry s.had s.state.disk (applied s.state.disk item) ≡ true
passed_keeps s item k passed = by_seat (seat_of item) refl
  where
    by_seat : (o : Option Who) → seat_of item ≡ o → keep_bytes is_entry s.had s.state.disk (applied s.state.disk item) ≡ true
    by_seat (Some who) e = ((tested s item k).0 passed who e).entries
    by_seat None e = (keep_decides is_entry s.had s.state.disk (applied s.state.disk item)).1 (λ name f had kind. unseated_spares s.state.disk item f e (k.below name f had))

-- ---- after a log

stands_along : (before log : List LogItem) (s : Summary) → Stands before s → All summed Passed s log → Stands (before ++ log) (fold summed s log)
stands_along before [] s st all = subst (λ (l : List LogItem). Stands l s) (sym (append-nil before)) st
stands_along before (x ∷ log) s st all =
    subst (λ (l : List LogItem). Stands l (fold summed (summed s x) log)) (append_assoc before (x ∷ []) log)
    (stands_along (before ++ x ∷ []) log (summed s x) (stands_then before s x st ((tested s x (stands_known before s st)).0 all.0)) all.1)

pub entries_keep : LeaveEntries
entries_keep log item all passed = passed_keeps (summary_of log) item (stands_known log (summary_of log) (stands_along [] log nothing stands_first all)) passed
