-- The places of a log and those of its first items.
use Rattle.std.proofs.Common.{◌≡◌, ℕ, zero, suc, ◌+◌, ◌<◌, ◌≤◌, true, false, List, [], ◌∷◌, take, drop, length, get_or, slice_get, Some, refl, sym, ap, ◌∙◌, subst, arith}
use Rattle.std.proofs.lemmas.Bool.{false≢true}
use Rattle.std.proofs.lemmas.List.{length-take, take_more, take-append-drop}
use Rattle.std.proofs.lemmas.List.Sums.{fold-append}
use Rattle.std.proofs.lemmas.Option.{slice_get-get_or, slice_get_within}
use Rattle.file_log.proofs.Logs.{All-append}
use Rattle.file_log.specs.Along.{All}
use Rattle.file_log.specs.Legal.{Legal, IsLegal}
use Rattle.file_log.specs.Log.{History}
use Rattle.file_log.specs.State.{first, after}
use Rattle.file_log.specs.declared.item.LogItem.{LogItem}
use Rattle.seat_rules.proofs.Along.{all_split}
use Rattle.seat_rules.specs.Places.{At, AtEach, past}
use Rattle.layout_rules.specs.Places.{KeepsAt, Cooperating}
use Rattle.seat_rules.specs.Promises.{IsLicensed, IsFound}
use Rattle.layout_rules.specs.Rules.{KeepsRules}
use Rattle.layout_rules.proofs.Serving.{found, licensed}
use Rattle.log_summary.specs.Summary.{nothing, summed, summary_of}
use Rattle.rule_cases.proofs.Everywhere.{tested_by_cases, tested_along}
use Rattle.rule_cases.specs.Cases.{passes}
use Rattle.rule_cases.specs.Laws.{Passed}
use Rattle.world_log.specs.Verdicts.{IsGoodAt, IsGood, IsFirstBad, IsFirstBreak}

-- ---- the first items

slice_get-first : (n : ℕ) (log : List LogItem) (m : ℕ) → m < n → slice_get (take n log) m ≡ slice_get log m
slice_get-first zero log m less = absurd (omega (arith, less))
slice_get-first (suc n) [] m less = refl
slice_get-first (suc n) (x ∷ log) zero less = refl
slice_get-first (suc n) (x ∷ log) (suc m) less = slice_get-first n log m (omega (arith, less))

take-first : (n : ℕ) (log : List LogItem) (m : ℕ) → m < n → take m (take n log) ≡ take m log
take-first zero log m less = absurd (omega (arith, less))
take-first (suc n) [] zero less = refl
take-first (suc n) [] (suc m) less = refl
take-first (suc n) (x ∷ log) zero less = refl
take-first (suc n) (x ∷ log) (suc m) less = ap (λ (l : List LogItem). x ∷ l) (take-first n log m (omega (arith, less)))

pub legal_first : (log : List LogItem) (n : ℕ) → Legal (first []) log → Legal (first []) (take n log)
legal_first log n legal = (all_split after IsLegal (first []) (take n log) (drop n log) (subst (Legal (first [])) (sym (take-append-drop n log)) legal)).0

-- a rule that holds at each place of the first items holds there in the whole log
at_before : (Rule : History → LogItem → Type 0) (log : List LogItem) (n m : ℕ) → m < n → AtEach Rule (take n log) → At Rule log m
at_before Rule log n m less each item there =
    subst (λ (l : List LogItem). Rule (past l) item) (take-first n log m less) (each m item (slice_get-first n log m less ∙ there))

-- and one that holds before a place holds at each place of the items before it
at_each : (Rule : History → LogItem → Type 0) (log : List LogItem) (n : ℕ) → ((m : ℕ) → m < n → At Rule log m) → AtEach Rule (take n log)
at_each Rule log n before m item there =
    let less : m < n = omega (arith, slice_get_within (take n log) m item there, length-take n log) in
    subst (λ (l : List LogItem). Rule (past l) item) (sym (take-first n log m less)) (before m less item (sym (slice_get-first n log m less) ∙ there))

-- ---- verdicts

-- where no place breaks a rule, all is good
pub all_good : (log : List LogItem) → Legal (first []) log → Cooperating log → IsGood log
all_good log legal keeps = record { legal = legal; keeps = keeps; licensed = licensed log legal keeps; found = found log legal keeps }

-- a place before the first that breaks a rule is good
good_before : (log : List LogItem) (n : ℕ) → Legal (first []) log → ((m : ℕ) → m < n → KeepsAt log m) → (m : ℕ) → m < n → IsGoodAt log m
good_before log n legal keeps m less =
    let before : Cooperating (take n log) = at_each KeepsRules log n keeps in
    let can : Legal (first []) (take n log) = legal_first log n legal in
    record {
      keeps = keeps m less;
      licensed = at_before IsLicensed log n m less (licensed (take n log) can before);
      found = at_before IsFound log n m less (found (take n log) can before);
    }

-- the first place that breaks a rule is the first bad one
pub first_bad : (log : List LogItem) (n : ℕ) → Legal (first []) log → IsFirstBreak log (Some n) → IsFirstBad log n
first_bad log n legal broken = record { legal = legal; there = broken.0; before = good_before log n legal broken.1; bad = λ good. broken.2 good.keeps }

-- ---- the tests along a log

item_at : (log : List LogItem) (n : ℕ) (item : LogItem) → n < length log → item ≡ get_or log n item → slice_get log n ≡ Some item
item_at log n item less is = slice_get-get_or log n item less ∙ ap Some (sym is)

passed_before : (log : List LogItem) (n : ℕ) → Legal (first []) log → All summed Passed nothing (take n log) → (m : ℕ) → m < n → KeepsAt log m
passed_before log n legal all m less = at_before KeepsRules log n m less ((tested_along (take n log) (legal_first log n legal)).0.0 all)

-- an item that doesn't pass, after items that did, is the first that breaks a rule
pub fails_first : (log : List LogItem) (n : ℕ) (item : LogItem) → Legal (first []) log → n < length log → item ≡ get_or log n item
    → All summed Passed nothing (take n log) → passes (summary_of (take n log)) item ≡ false → IsFirstBreak log (Some n)
fails_first log n item legal less is all fails =
    let keeps = passed_before log n legal all in
    (less, keeps, λ here. false≢true (sym fails ∙ (tested_by_cases log n item legal keeps (item_at log n item less is)).1 here))

-- where all pass, none breaks one
pub all_pass : (log : List LogItem) (n : ℕ) → Legal (first []) log → length log ≤ n → All summed Passed nothing (take n log) → Cooperating log
all_pass log n legal more all m item there =
    let less : m < n = omega (arith, slice_get_within log m item there, more) in
    passed_before log n legal all m less item there

-- one item more
pub passed_then : (log : List LogItem) (n : ℕ) (item : LogItem) → n < length log → item ≡ get_or log n item → All summed Passed nothing (take n log) → passes (summary_of (take n log)) item ≡ true
    → All summed Passed nothing (take (n + 1) log)
passed_then log n item less is all here =
    subst (All summed Passed nothing) (sym (take_more log n item less))
    (All-append summed Passed nothing (take n log) (get_or log n item ∷ []) all (subst (λ (x : LogItem). passes (summary_of (take n log)) x ≡ true) is here, tt))

pub summary_then : (log : List LogItem) (n : ℕ) (item : LogItem) → n < length log → item ≡ get_or log n item → summary_of (take (n + 1) log) ≡ summed (summary_of (take n log)) item
summary_then log n item less is =
    ap summary_of (take_more log n item less) ∙ fold-append summed nothing (take n log) (get_or log n item ∷ []) ∙ ap (summed (summary_of (take n log))) (sym is)
