-- The tests by cases decide the rules at each place of a log, and along it.
use Rattle.std.proofs.Common.{◌≡◌, ◌↔◌, List, [], ◌∷◌, ◌++◌, take, Some, refl, sym, ap, ◌∙◌, subst}
use Rattle.std.proofs.lemmas.List.Sums.{fold-append}
use Rattle.cache_types.specs.declared.seat.Who.{Who}
use Rattle.file_log.specs.Along.{All, Keeps}
use Rattle.file_log.specs.declared.item.LogItem.{LogItem}
use Rattle.log_summary.specs.Summary.{Summary, nothing, summed, summary_of}
use Rattle.rule_checks.specs.Tests.{PassesTests}
use Rattle.rule_checks.proofs.Everywhere.{decided, decided_along}
use Rattle.rule_cases.specs.Laws.{AreTestedByCases, AreTestedAlong, Passed}
use Rattle.rule_cases.proofs.Fields.{Known}
use Rattle.rule_cases.proofs.Items.{tested}
use Rattle.rule_cases.proofs.Place.{IsWhole, whole_then, known_of, known_at}

some_is : (a b : LogItem) → Some a ≡ Some b → a ≡ b
some_is a b e = cc

-- at a place before which no place breaks a rule
pub tested_by_cases : AreTestedByCases
tested_by_cases log n item legal keeps e =
    let says = tested (summary_of (take n log)) item (known_at log n legal keeps) in
    let rules = decided log n legal keeps in (
      λ passed. rules.0 (λ other same. subst (PassesTests (summary_of (take n log))) (some_is item other (sym e ∙ same)) (says.0 passed)),
      λ kept. says.1 (rules.1 kept item e),
    )

-- ---- along the log

-- what is known of the summary of the items so far
pub record Stands (before : List LogItem) (s : Summary) : Type 0 where
  pub summary : summary_of before ≡ s
  pub whole : IsWhole s

pub stands_first : Stands [] nothing
stands_first = record { summary = refl; whole = λ root key. refl }

pub stands_known : (before : List LogItem) (s : Summary) → Stands before s → Known s
stands_known before s st = subst Known st.summary (known_of before (subst IsWhole (sym st.summary) st.whole))

pub stands_then : (before : List LogItem) (s : Summary) (x : LogItem) → Stands before s → PassesTests s x → Stands (before ++ x ∷ []) (summed s x)
stands_then before s x st passes = record {
  summary = fold-append summed nothing before (x ∷ []) ∙ ap (λ (t : Summary). summed t x) st.summary;
  whole = whole_then s x (stands_known before s st).tidy st.whole passes;
}

all_tested : (before log : List LogItem) (s : Summary) → Stands before s → All summed Passed s log ↔ All summed PassesTests s log
all_tested before [] s st = (λ u. tt, λ u. tt)
all_tested before (x ∷ log) s st =
    let next = tested s x (stands_known before s st) in
    let rest : PassesTests s x → All summed Passed (summed s x) log ↔ All summed PassesTests (summed s x) log = λ p. all_tested (before ++ x ∷ []) log (summed s x) (stands_then before s x st p) in
    (λ all. (next.0 all.0, (rest (next.0 all.0)).0 all.1), λ all. (next.1 all.0, (rest all.0).1 all.1))

keeps_tested : (who : Who) (before log : List LogItem) (s : Summary) → Stands before s → Keeps summed Passed who s log ↔ Keeps summed PassesTests who s log
keeps_tested who before [] s st = (λ u. tt, λ u. tt)
keeps_tested who before (x ∷ log) s st =
    let next = tested s x (stands_known before s st) in
    let rest : PassesTests s x → Keeps summed Passed who (summed s x) log ↔ Keeps summed PassesTests who (summed s x) log = λ p. keeps_tested who (before ++ x ∷ []) log (summed s x) (stands_then before s x st p) in (
      λ keeps. (λ mine. next.0 (keeps.0 mine), λ p. (rest p).0 (keeps.1 (next.1 p))),
      λ keeps. (λ mine. next.1 (keeps.0 mine), λ passed. (rest (next.0 passed)).1 (keeps.1 (next.0 passed))),
    )

-- of the whole log, and of each seat
pub tested_along : AreTestedAlong
tested_along log legal =
    let along = decided_along log legal in
    let all = all_tested [] log nothing stands_first in (
      (λ passed. along.0.0 (all.0 passed), λ keeps. all.1 (along.0.1 keeps)),
      λ who. let each = keeps_tested who [] log nothing stands_first in (λ passed. (along.1 who).0 (each.0 passed), λ keeps. each.1 ((along.1 who).1 keeps)),
    )
