-- What is known at a place of a log that can be, before which no place breaks a rule.
use Rattle.std.proofs.Common.{◌≡◌, ℕ, zero, suc, ◌<◌, ◌≤◌, true, List, [], ◌∷◌, ◌++◌, take, fold, slice_get, Option, Some, None, refl, sym, ap, ◌∙◌, subst, arith}
use Rattle.std.proofs.lemmas.List.Sums.{fold-append}
use Rattle.cache_types.specs.declared.key.Key.{Key}
use Rattle.cache_types.specs.declared.name.Name.{Name}
use Rattle.cache_types.specs.declared.name.Name.TheVariants.{Entry}
use Rattle.cache_types.specs.declared.seat.Who.{Who}
use Rattle.disk_laws.specs.Tidy.{IsTidy}
use Rattle.disk_laws.proofs.Tidiness.{tidy}
use Rattle.file_log.specs.Disk.{Disk, file_of}
use Rattle.file_log.specs.Effect.{applied}
use Rattle.file_log.specs.Legal.{Legal}
use Rattle.file_log.specs.Log.{History, seat_of}
use Rattle.file_log.specs.State.{State, first, disk_of}
use Rattle.file_log.specs.declared.item.LogItem.{LogItem}
use Rattle.seat_rules.specs.Changes.{HasHad}
use Rattle.seat_rules.specs.Places.{past}
use Rattle.layout_rules.specs.Places.{KeepsAt}
use Rattle.folder_rules.proofs.Entries.{unseated_file}
use Rattle.seat_rules.proofs.Histories.{disk_further}
use Rattle.folder_changes.proofs.Changing.{count_grows}
use Rattle.log_summary.specs.Summary.{Summary, nothing, put_in, summed, summary_of}
use Rattle.log_summary.proofs.Files.{had_now}
use Rattle.log_summary.proofs.Telling.{tells}
use Rattle.rule_checks.specs.Tests.{is_whole, PassesTests}
use Rattle.rule_checks.proofs.Everywhere.{decided}
use Rattle.rule_cases.proofs.Fields.{Known, whole_more}

-- ---- files that names have had are there

counts_grow : (d : Disk) (log : List LogItem) → d.count ≤ (fold applied d log).count
counts_grow d [] = omega arith
counts_grow d (x ∷ log) = let one = count_grows d x in let rest = counts_grow (applied d x) log in omega (arith, one, rest)

below_had : (h : History) (name : Name) (f : ℕ) → HasHad h name f → f < (disk_of h).count
below_had h name f had =
    let before : History = record { start = h.start; log = had.before } in
    let small = (tidy before).there name f had.named in
    let grown = counts_grow (disk_of before) had.later in
    let same : (disk_of h).count ≡ (fold applied (disk_of before) had.later).count =
    ap (λ (l : List LogItem). (disk_of (record { start = h.start; log = l })).count) had.log_is ∙ ap (λ (d : Disk). d.count) (disk_further before had.later) in
    omega (arith, small, grown, same)

pub tidy_at : (log : List LogItem) → IsTidy (summary_of log).state.disk
tidy_at log = subst (λ (st : State). IsTidy st.disk) (tells log).state (tidy (past log))

-- ---- entries are whole

-- each entry's file reads as a put that the summary lists
abbrev pub IsWhole : Summary → Type 0
IsWhole s = (root : ℕ) (key : Key) → is_whole s.puts root key (file_of s.state.disk (Entry root key)) ≡ true

pub whole_then : (s : Summary) (item : LogItem) → IsTidy s.state.disk → IsWhole s → PassesTests s item → IsWhole (summed s item)
whole_then s item t whole passes = by_seat (seat_of item) refl
  where
    by_seat : (o : Option Who) → seat_of item ≡ o → IsWhole (summed s item)
    by_seat (Some who) e = (passes who e).whole
    by_seat None e = λ root key. whole_more s.puts (put_in item) root key (file_of (applied s.state.disk item) (Entry root key)) (ap (is_whole s.puts root key) (unseated_file s.state.disk item root key t e) ∙ whole root key)

taken_some : (log : List LogItem) (n : ℕ) (item : LogItem) → slice_get log n ≡ Some item → take (suc n) log ≡ take n log ++ item ∷ []
taken_some [] n item e = absurd cc
taken_some (x ∷ log) zero item e = let same : x ≡ item = cc in ap (λ (y : LogItem). y ∷ []) same
taken_some (x ∷ log) (suc n) item e = ap (λ (l : List LogItem). x ∷ l) (taken_some log n item e)

taken_none : (log : List LogItem) (n : ℕ) → slice_get log n ≡ None → take (suc n) log ≡ take n log
taken_none [] zero e = refl
taken_none [] (suc n) e = refl
taken_none (x ∷ log) zero e = absurd cc
taken_none (x ∷ log) (suc n) e = ap (λ (l : List LogItem). x ∷ l) (taken_none log n e)

whole_at : (log : List LogItem) (n : ℕ) → Legal (first []) log → ((m : ℕ) → m < n → KeepsAt log m) → IsWhole (summary_of (take n log))
whole_at log zero legal keeps = λ root key. refl
whole_at log (suc n) legal keeps = by_item (slice_get log n) refl (whole_at log n legal earlier)
  where
    earlier : (m : ℕ) → m < n → KeepsAt log m
    earlier m less = keeps m (omega (arith, less))

    by_item : (o : Option LogItem) → slice_get log n ≡ o → IsWhole (summary_of (take n log)) → IsWhole (summary_of (take (suc n) log))
    by_item None e whole = subst (λ (l : List LogItem). IsWhole (summary_of l)) (sym (taken_none log n e)) whole
    by_item (Some item) e whole =
        let now : summary_of (take (suc n) log) ≡ summed (summary_of (take n log)) item = ap summary_of (taken_some log n item e) ∙ fold-append summed nothing (take n log) (item ∷ []) in
        subst IsWhole (sym now) (whole_then (summary_of (take n log)) item (tidy_at (take n log)) whole ((decided log n legal earlier).1 (keeps n (omega arith)) item e))

-- ---- all that is known

-- after a log whose entries are whole
pub known_of : (log : List LogItem) → IsWhole (summary_of log) → Known (summary_of log)
known_of log whole = record {
  tidy = tidy_at log;
  below = λ name f had. subst (λ (st : State). f < st.disk.count) (tells log).state (below_had (past log) name f ((tells log).files.right name f had));
  listed = λ name f e. (tells log).files.all name f (had_now log name f (ap (λ (st : State). st.disk.names name) (tells log).state ∙ e));
  whole = whole;
}

-- at a place before which no place breaks a rule
pub known_at : (log : List LogItem) (n : ℕ) → Legal (first []) log → ((m : ℕ) → m < n → KeepsAt log m) → Known (summary_of (take n log))
known_at log n legal keeps = known_of (take n log) (whole_at log n legal keeps)
