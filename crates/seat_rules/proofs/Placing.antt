-- A rule at the places of a log, and along it.
use Rattle.std.proofs.Common.{◌≡◌, ◌↔◌, ℕ, zero, suc, ◌<◌, true, List, [], ◌∷◌, ◌++◌, take, slice_get, Some, None, refl, sym, ap, ◌∙◌, subst, append_assoc, append-nil, arith}
use Rattle.cache_types.specs.declared.seat.Who.{Who}
use Rattle.file_log.specs.Along.{All, Keeps}
use Rattle.file_log.specs.Log.{History, seat_of, is_own}
use Rattle.file_log.specs.declared.item.LogItem.{LogItem}
use Rattle.file_log.proofs.All.{each_keeps, all_keep}
use Rattle.seat_rules.specs.Changes.{with_item}
use Rattle.seat_rules.specs.Places.{AtEach, KeptBy}
use Rattle.seat_rules.proofs.Along.{past, all_from}

module _ (Rule : History → LogItem → Type 0) where
  -- the item at a place of a part of the log, after the items before it
  abbrev Holds : List LogItem → List LogItem → ℕ → Type 0
  Holds before log n = (item : LogItem) → slice_get log n ≡ Some item → Rule (past (before ++ take n log)) item

  holds_first : (before : List LogItem) (x : LogItem) (log : List LogItem) → Rule (past before) x → Holds before (x ∷ log) zero
  holds_first before x log rule item e =
      let same : x ≡ item = cc in
      subst (λ (l : List LogItem). Rule (past l) item) (sym (append-nil before)) (subst (Rule (past before)) same rule)

  first_holds : (before : List LogItem) (x : LogItem) (log : List LogItem) → Holds before (x ∷ log) zero → Rule (past before) x
  first_holds before x log h = subst (λ (l : List LogItem). Rule (past l) x) (append-nil before) (h x refl)

  holds_later : (before : List LogItem) (x : LogItem) (log : List LogItem) (n : ℕ) → Holds (before ++ x ∷ []) log n → Holds before (x ∷ log) (suc n)
  holds_later before x log n h item e = subst (λ (l : List LogItem). Rule (past l) item) (append_assoc before (x ∷ []) (take n log)) (h item e)

  later_holds : (before : List LogItem) (x : LogItem) (log : List LogItem) (n : ℕ) → Holds before (x ∷ log) (suc n) → Holds (before ++ x ∷ []) log n
  later_holds before x log n h item e = subst (λ (l : List LogItem). Rule (past l) item) (sym (append_assoc before (x ∷ []) (take n log))) (h item e)

  all_hold : (before log : List LogItem) → All with_item Rule (past before) log → (n : ℕ) → Holds before log n
  all_hold before [] all n item e = absurd cc
  all_hold before (x ∷ log) all zero item e = holds_first before x log all.0 item e
  all_hold before (x ∷ log) all (suc n) item e = holds_later before x log n (all_hold (before ++ x ∷ []) log all.1 n) item e

  abbrev HoldsBy : Who → List LogItem → List LogItem → Type 0
  HoldsBy who before log = (n : ℕ) (item : LogItem) → slice_get log n ≡ Some item → is_own who item ≡ true → ((m : ℕ) → m < n → Holds before log m) → Holds before log n

  keeps_hold : (who : Who) (before log : List LogItem) → Keeps with_item Rule who (past before) log → HoldsBy who before log
  keeps_hold who before [] keeps n item e mine earlier = absurd cc
  keeps_hold who before (x ∷ log) keeps zero item e mine earlier =
      let same : x ≡ item = cc in holds_first before x log (keeps.0 (ap (is_own who) same ∙ mine))
  keeps_hold who before (x ∷ log) keeps (suc n) item e mine earlier =
      let rule = first_holds before x log (earlier zero (omega arith)) in
      holds_later before x log n (keeps_hold who (before ++ x ∷ []) log (keeps.1 rule) n item e mine (λ m less. later_holds before x log m (earlier (suc m) (omega (arith, less)))))

  hold_keeps : (who : Who) (before log : List LogItem) → HoldsBy who before log → Keeps with_item Rule who (past before) log
  hold_keeps who before [] holds = tt
  hold_keeps who before (x ∷ log) holds = (
    λ mine. first_holds before x log (holds zero x refl mine (λ m less. absurd (omega (arith, less)))),
    λ rule. hold_keeps who (before ++ x ∷ []) log (λ n item e mine earlier. later_holds before x log n (holds (suc n) item e mine (all_before rule n earlier))),
  )
    where
      all_before : Rule (past before) x → (n : ℕ) → ((m : ℕ) → m < n → Holds (before ++ x ∷ []) log m) → (m : ℕ) → m < suc n → Holds before (x ∷ log) m
      all_before rule n earlier zero less = holds_first before x log rule
      all_before rule n earlier (suc m) less = holds_later before x log m (earlier m (omega (arith, less)))

  -- at each place of the log exactly where of each item in turn, and so of a seat's
  pub hold_along : (log : List LogItem) → (AtEach Rule log ↔ All with_item Rule (past []) log) × ((who : Who) → KeptBy Rule who log ↔ Keeps with_item Rule who (past []) log)
  hold_along log = (
    (λ keeps. all_from Rule log [] log [] (sym (append-nil log)) keeps, λ all. all_hold [] log all),
    λ who. (λ keeps. hold_keeps who [] log keeps, λ along. keeps_hold who [] log along),
  )

  -- and at each place exactly where each seat keeps it, if an item of no seat does
  pub kept_by_each : ((h : History) (item : LogItem) → seat_of item ≡ None → Rule h item) → (log : List LogItem) → AtEach Rule log ↔ ((who : Who) → KeptBy Rule who log)
  kept_by_each spared log = (
    λ keeps who. ((hold_along log).1 who).1 (all_keep with_item Rule who (past []) log ((hold_along log).0.0 keeps)),
    λ each. (hold_along log).0.1 (each_keeps with_item Rule spared (past []) log (λ who. ((hold_along log).1 who).0 (each who))),
  )
