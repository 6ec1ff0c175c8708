-- Histories that go on, and disks after them.
use Rattle.std.proofs.Common.{◌≡◌, ◌⊎◌, inl, inr, false, List, [], ◌∷◌, ◌++◌, fold, refl, sym, ap, ◌∙◌, append_assoc, append-nil}
use Rattle.std.proofs.lemmas.List.Sums.{fold-append}
use Rattle.file_log.specs.Effect.{applied}
use Rattle.file_log.specs.Log.{History, Quiet}
use Rattle.file_log.specs.State.{State, first, after, disk_of}
use Rattle.file_log.specs.declared.item.LogItem.{LogItem}
use Rattle.cache_types.specs.declared.seat.Who.{Who}
use Rattle.seat_rules.specs.Changes.{with_item}
use Rattle.seat_rules.specs.Operations.{is_end_of, NoEndOf}

-- the disk after one item more
pub disk_then : (h : History) (item : LogItem) → disk_of (with_item h item) ≡ applied (disk_of h) item
disk_then h item = ap (λ (s : State). s.disk) (fold-append after (first h.start) h.log (item ∷ []))

disk_fold : (s : State) (log : List LogItem) → (fold after s log).disk ≡ fold applied s.disk log
disk_fold s [] = refl
disk_fold s (item ∷ log) = disk_fold (after s item) log

-- a history with more items, one after another
pub goes_by : (h : History) (log : List LogItem) → fold with_item h log ≡ record { start = h.start; log = h.log ++ log }
goes_by h [] = ap (λ (l : List LogItem). record { start = h.start; log = l }) (sym (append-nil h.log))
goes_by h (item ∷ log) = goes_by (with_item h item) log ∙ ap (λ (l : List LogItem). record { start = h.start; log = l }) (append_assoc h.log (item ∷ []) log)

-- the disk after more items
pub disk_further : (h : History) (log : List LogItem) → disk_of (record { start = h.start; log = h.log ++ log }) ≡ fold applied (disk_of h) log
disk_further h log = ap (λ (s : State). s.disk) (fold-append after (first h.start) h.log log) ∙ disk_fold (fold after (first h.start) h.log) log

-- ---- quiet parts

pub quiet_then : (xs ys : List LogItem) → Quiet xs → Quiet ys → Quiet (xs ++ ys)
quiet_then [] ys p q = q
quiet_then (x ∷ xs) ys p q = (p.0, quiet_then xs ys p.1 q)

pub quiet_front : (xs ys : List LogItem) → Quiet (xs ++ ys) → Quiet xs
quiet_front [] ys q = tt
quiet_front (x ∷ xs) ys q = (q.0, quiet_front xs ys q.1)

pub quiet_rest : (xs ys : List LogItem) → Quiet (xs ++ ys) → Quiet ys
quiet_rest [] ys q = q
quiet_rest (x ∷ xs) ys q = quiet_rest xs ys q.1

-- ---- an item more

-- the last item of a list, and what stands before it
pub record Ends (log : List LogItem) (last : LogItem) (before : List LogItem) (x : LogItem) (later : List LogItem) : Type 0 where
  pub shorter : List LogItem
  pub log_is : log ≡ before ++ x ∷ shorter
  pub later_is : later ≡ shorter ++ last ∷ []

pub last_of : (log : List LogItem) (last : LogItem) (before : List LogItem) (x : LogItem) (later : List LogItem) → log ++ last ∷ [] ≡ before ++ x ∷ later → Ends log last before x later ⊎ ((last ≡ x) × (log ≡ before))
last_of [] last [] x later e = inr (cc, refl)
last_of [] last (y ∷ []) x later e = let clash : [] ≡ x ∷ later = cc in absurd cc
last_of [] last (y ∷ z ∷ before) x later e = let clash : [] ≡ z ∷ (before ++ x ∷ later) = cc in absurd cc
last_of (y ∷ log) last [] x later e = inl (record { shorter = log; log_is = let same : y ≡ x = cc in ap (λ (z : LogItem). z ∷ log) same; later_is = let rest : log ++ last ∷ [] ≡ later = cc in sym rest })
last_of (y ∷ log) last (z ∷ before) x later e =
    let rest : log ++ last ∷ [] ≡ before ++ x ∷ later = cc in
    let same : y ≡ z = cc in
    elim (last_of log last before x later rest) [
      | inl r ↦ inl (record { shorter = r.shorter; log_is = ap (λ (w : LogItem). w ∷ log) same ∙ ap (λ (l : List LogItem). z ∷ l) r.log_is; later_is = r.later_is })
      | inr found ↦ inr (found.0, ap (λ (w : LogItem). w ∷ log) same ∙ ap (λ (l : List LogItem). z ∷ l) found.1)
    ]

-- a part of a log with an item more
pub front_cases : (log : List LogItem) (x : LogItem) (before later : List LogItem) → log ++ x ∷ [] ≡ before ++ later → (before ≡ log ++ x ∷ []) ⊎ ((shorter : List LogItem) × (log ≡ before ++ shorter))
front_cases log x [] later e = inr (log, refl)
front_cases [] x (y ∷ []) later e = let same : x ≡ y = cc in inl (ap (λ (z : LogItem). z ∷ []) (sym same))
front_cases [] x (y ∷ z ∷ before) later e = let clash : [] ≡ z ∷ (before ++ later) = cc in absurd cc
front_cases (w ∷ log) x (y ∷ before) later e =
    let same : w ≡ y = cc in
    let rest : log ++ x ∷ [] ≡ before ++ later = cc in
    elim (front_cases log x before later rest) [
      | inl r ↦ inl (ap (λ (z : LogItem). z ∷ before) (sym same) ∙ ap (λ (l : List LogItem). w ∷ l) r)
      | inr r ↦ inr (r.0, ap (λ (z : LogItem). z ∷ log) same ∙ ap (λ (l : List LogItem). y ∷ l) r.1)
    ]

-- ---- parts in which a seat ends nothing

pub no_end_front : (who : Who) (xs ys : List LogItem) → NoEndOf who (xs ++ ys) → NoEndOf who xs
no_end_front who [] ys n = tt
no_end_front who (x ∷ xs) ys n = (n.0, no_end_front who xs ys n.1)

pub no_end_last : (who : Who) (xs : List LogItem) (x : LogItem) → NoEndOf who (xs ++ x ∷ []) → is_end_of who x ≡ false
no_end_last who [] x n = n.0
no_end_last who (y ∷ xs) x n = no_end_last who xs x n.1

pub no_end_then : (who : Who) (xs : List LogItem) (x : LogItem) → NoEndOf who xs → is_end_of who x ≡ false → NoEndOf who (xs ++ x ∷ [])
no_end_then who [] x n e = (e, tt)
no_end_then who (y ∷ xs) x n e = (n.0, no_end_then who xs x n.1 e)
