-- The tests decide the rules at each place of a log, and along it.
use Rattle.std.proofs.Common.{◌≡◌, ◌↔◌, ℕ, zero, suc, ◌<◌, List, [], ◌∷◌, ◌++◌, take, slice_get, Option, Some, None, refl, sym, ap, ◌∙◌, subst, append_assoc, append-nil, arith}
use Rattle.cache_types.specs.declared.name.Name.TheVariants.{Entry}
use Rattle.cache_types.specs.declared.seat.Who.{Who}
use Rattle.cache_types.specs.declared.store.Layout.TheVariants.{Folder}
use Rattle.disk_laws.proofs.Tidiness.{tidy}
use Rattle.file_log.specs.Along.{All, Keeps}
use Rattle.file_log.specs.Disk.{Disk, file_of}
use Rattle.file_log.specs.Legal.{IsLegal, Legal}
use Rattle.file_log.specs.Log.{seat_of}
use Rattle.file_log.specs.State.{first, after, disk_of}
use Rattle.file_log.specs.declared.item.LogItem.{LogItem}
use Rattle.seat_rules.specs.Changes.{with_item}
use Rattle.rule_checks.specs.Laws.{AreDecided, AreDecidedAlong}
use Rattle.layout_rules.specs.Places.{KeepsAt}
use Rattle.layout_rules.specs.Rules.{KeepsRules}
use Rattle.log_summary.specs.Summary.{Summary, nothing, summed, summary_of}
use Rattle.rule_checks.specs.Tests.{PassesTests}
use Rattle.folder_rules.specs.Whole.{EntriesAreWhole, folder_of}
use Rattle.seat_rules.proofs.Along.{past, parts_at, all_from, all_split}
use Rattle.folder_rules.proofs.Entries.{unseated_file}
use Rattle.seat_rules.proofs.Histories.{disk_then}
use Rattle.layout_rules.proofs.Placing.{hold_along}
use Rattle.seat_rules.proofs.Puts.{put_goes_on}
use Rattle.log_summary.specs.Telling.{Tells}
use Rattle.log_summary.proofs.Telling.{tells, tells_then}
use Rattle.rule_checks.proofs.Ties.{tests_decide}

-- ---- entries are whole at each place

whole_first : EntriesAreWhole (past [])
whole_first root key bytes e = absurd cc

-- an item that keeps the rules leaves entries whole, and so does one of no seat
pub whole_then : (log : List LogItem) (x : LogItem) → EntriesAreWhole (past log) → KeepsRules (past log) x → EntriesAreWhole (past (log ++ x ∷ []))
whole_then log x whole keeps = by_seat (seat_of x) refl
  where
    by_seat : (seat : Option Who) → seat_of x ≡ seat → EntriesAreWhole (past (log ++ x ∷ []))
    by_seat (Some who) e = (keeps who e).whole Folder
    by_seat None e = λ root key bytes file.
        let same = ap (λ (d : Disk). file_of d (Entry root key)) (disk_then (past log) x) ∙ unseated_file (disk_of (past log)) x root key (tidy (past log)) e in
        let item = whole root key bytes (sym same ∙ file) in
        record { driver = item.driver; blob = item.blob; reads = item.reads; put = put_goes_on log (x ∷ []) (folder_of root) item.driver key item.blob item.put }

-- ---- the items before a place

taken_some : (log : List LogItem) (n : ℕ) (item : LogItem) → slice_get log n ≡ Some item → take (suc n) log ≡ take n log ++ item ∷ []
taken_some [] n item e = absurd cc
taken_some (x ∷ log) zero item e = let same : x ≡ item = cc in ap (λ (y : LogItem). y ∷ []) same
taken_some (x ∷ log) (suc n) item e = ap (λ (l : List LogItem). x ∷ l) (taken_some log n item e)

taken_none : (log : List LogItem) (n : ℕ) → slice_get log n ≡ None → take (suc n) log ≡ take n log
taken_none [] zero e = refl
taken_none [] (suc n) e = refl
taken_none (x ∷ log) zero e = absurd cc
taken_none (x ∷ log) (suc n) e = ap (λ (l : List LogItem). x ∷ l) (taken_none log n e)

whole_at : (log : List LogItem) (n : ℕ) → ((m : ℕ) → m < n → KeepsAt log m) → EntriesAreWhole (past (take n log))
whole_at log zero keeps = whole_first
whole_at log (suc n) keeps = by_item (slice_get log n) refl (whole_at log n (λ m less. keeps m (omega (arith, less))))
  where
    by_item : (o : Option LogItem) → slice_get log n ≡ o → EntriesAreWhole (past (take n log)) → EntriesAreWhole (past (take (suc n) log))
    by_item None e whole = subst (λ (l : List LogItem). EntriesAreWhole (past l)) (sym (taken_none log n e)) whole
    by_item (Some item) e whole = subst (λ (l : List LogItem). EntriesAreWhole (past l)) (sym (taken_some log n item e)) (whole_then (take n log) item whole (keeps n (omega arith) item e))

legal_front : (log more : List LogItem) → Legal (first []) (log ++ more) → Legal (first []) log
legal_front log more legal = (all_split after IsLegal (first []) log more legal).0

-- at a place before which no place breaks a rule
pub decided : AreDecided
decided log n legal keeps = (
  λ passes item e. (at item e).0 (passes item e),
  λ kept item e. (at item e).1 (kept item e),
)
  where
    at : (item : LogItem) → slice_get log n ≡ Some item → PassesTests (summary_of (take n log)) item ↔ KeepsRules (past (take n log)) item
    at item e =
        let parts = parts_at log n item e in
        let all_is = parts.1 ∙ sym (append_assoc (take n log) (item ∷ []) parts.0) in
        tests_decide (take n log) item (summary_of (take n log)) (legal_front (take n log ++ item ∷ []) parts.0 (subst (Legal (first [])) all_is legal)) (tells (take n log)) (whole_at log n keeps)

-- ---- along the log

-- the test of the next item decides it, where what stands before is told and whole
next_decides : (before : List LogItem) (x : LogItem) (log : List LogItem) (s : Summary) → Legal (first []) (before ++ x ∷ log) → Tells before s → EntriesAreWhole (past before) → PassesTests s x ↔ KeepsRules (past before) x
next_decides before x log s legal t whole = tests_decide before x s (legal_front (before ++ x ∷ []) log (subst (Legal (first [])) (sym (append_assoc before (x ∷ []) log)) legal)) t whole

all_decided : (before log : List LogItem) (s : Summary) → Legal (first []) (before ++ log) → Tells before s → EntriesAreWhole (past before) → All summed PassesTests s log ↔ All with_item KeepsRules (past before) log
all_decided before [] s legal t whole = (λ u. tt, λ u. tt)
all_decided before (x ∷ log) s legal t whole =
    let next = next_decides before x log s legal t whole in
    let rest : KeepsRules (past before) x → All summed PassesTests (summed s x) log ↔ All with_item KeepsRules (past (before ++ x ∷ [])) log =
    λ rule. all_decided (before ++ x ∷ []) log (summed s x) (subst (Legal (first [])) (sym (append_assoc before (x ∷ []) log)) legal) (tells_then before s x t) (whole_then before x whole rule) in
    (λ all. (next.0 all.0, (rest (next.0 all.0)).0 all.1), λ all. (next.1 all.0, (rest all.0).1 all.1))

keeps_decided : (who : Who) (before log : List LogItem) (s : Summary) → Legal (first []) (before ++ log) → Tells before s → EntriesAreWhole (past before) → Keeps summed PassesTests who s log ↔ Keeps with_item KeepsRules who (past before) log
keeps_decided who before [] s legal t whole = (λ u. tt, λ u. tt)
keeps_decided who before (x ∷ log) s legal t whole =
    let next = next_decides before x log s legal t whole in
    let rest : KeepsRules (past before) x → Keeps summed PassesTests who (summed s x) log ↔ Keeps with_item KeepsRules who (past (before ++ x ∷ [])) log =
    λ rule. keeps_decided who (before ++ x ∷ []) log (summed s x) (subst (Legal (first [])) (sym (append_assoc before (x ∷ []) log)) legal) (tells_then before s x t) (whole_then before x whole rule) in (
      λ keeps. (λ mine. next.0 (keeps.0 mine), λ rule. (rest rule).0 (keeps.1 (next.1 rule))),
      λ keeps. (λ mine. next.1 (keeps.0 mine), λ passes. (rest (next.0 passes)).1 (keeps.1 (next.0 passes))),
    )

-- of the whole log, and of each seat
pub decided_along : AreDecidedAlong
decided_along log legal = (
  (
    λ passes. (hold_along log).0.1 ((all_decided [] log nothing legal (tells []) whole_first).0 passes),
    λ keeps. (all_decided [] log nothing legal (tells []) whole_first).1 (all_from KeepsRules log [] log [] (sym (append-nil log)) keeps),
  ),
  λ who. (
    λ passes. ((hold_along log).1 who).1 ((keeps_decided who [] log nothing legal (tells []) whole_first).0 passes),
    λ keeps. (keeps_decided who [] log nothing legal (tells []) whole_first).1 (((hold_along log).1 who).0 keeps),
  ),
)
