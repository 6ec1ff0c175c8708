-- The places of a put's log: their histories, and what stays from the Begin on.
use Rattle.std.proofs.Common.{◌≡◌, ◌≤◌, ℕ, Bool, true, false, cond, List, [], ◌∷◌, ◌++◌, length, drop, filter, fold, refl, sym, ap, ◌∙◌, append_assoc, arith}
use Rattle.std.specs.List.{AllByRecursion}
use Rattle.std.proofs.lemmas.Bool.{false≢true}
use Rattle.std.proofs.lemmas.List.{append-nil}
use Rattle.std.proofs.lemmas.List.Elements.{filter-append}
use Rattle.std.proofs.lemmas.List.Sums.{fold-append}
use Rattle.cache_types.specs.declared.key.Key.{Key}
use Rattle.cache_types.specs.declared.seat.Who.{Who}
use Rattle.file_log.specs.declared.item.LogItem.{LogItem}
use Rattle.file_log.specs.declared.item.LogItem.TheVariants as items
use Rattle.file_log.specs.Along.{All}
use Rattle.file_log.specs.Disk.{Disk}
use Rattle.file_log.specs.Log.{History, with_items, is_own, own}
use Rattle.file_log.specs.Operation.{IsWithinRoot}
use Rattle.file_log.specs.State.{State, first, after, state_of, disk_of}
use Rattle.seat_rules.specs.Changes.{with_item}
use Rattle.folder_store.specs.Entries.{OthersSpare}
use Rattle.folder_store.specs.Put.{is_evict}
use Rattle.folder_store.proofs.PutKnown.{Place, step, base_after, told_after}

-- ---- places and histories

abbrev pub place_of : History → Place
place_of h = record { state = state_of h; log = h.log; base = disk_of h; told = [] }

-- the place at which a history ends
pub record IsAt (h : History) (p : Place) : Type 0 where
  pub state : p.state ≡ state_of h
  pub log : p.log ≡ h.log

pub state_then : (h : History) (news : List LogItem) → state_of (with_items h news) ≡ fold after (state_of h) news
state_then h news = fold-append after (first h.start) h.log news

pub at_next : (me : Who) (h : History) (p : Place) (x : LogItem) → IsAt h p → IsAt (with_item h x) (step me p x)
at_next me h p x at = record {
  state = ap (λ (s : State). after s x) at.state ∙ sym (state_then h (x ∷ []));
  log = ap (λ (log : List LogItem). log ++ x ∷ []) at.log;
}

-- the state of a place is that of the log
pub states : (me : Who) (p : Place) (xs : List LogItem) → (fold (step me) p xs).state ≡ fold after p.state xs
states me p [] = refl
states me p (x ∷ xs) = states me (step me p x) xs

pub all_at : {S : Type 0} (next : S → LogItem → S) (R : S → LogItem → Type 0) (s : S) (xs ys : List LogItem) (x : LogItem) → All next R s (xs ++ x ∷ ys) → R (fold next s xs) x
all_at next R s [] ys x all = all.0
all_at next R s (y ∷ xs) ys x all = all_at next R (next s y) xs ys x all.1

-- ---- where all items are own

abbrev pub AreOwn : Who → List LogItem → Type 0
AreOwn me log = AllByRecursion (λ x. is_own me x ≡ true) log

no_more : (me : Who) (log : List LogItem) → length (own me log) ≤ length log
no_more me [] = omega arith
no_more me (x ∷ log) = by_test (is_own me x) (no_more me log)
  where
    by_test : (t : Bool) → length (own me log) ≤ length log → length (cond t (x ∷ own me log) (own me log)) ≤ length (x ∷ log)
    by_test true less = omega (arith, less)
    by_test false less = omega (arith, less)

pub are_own : (me : Who) (log : List LogItem) → own me log ≡ log → AreOwn me log
are_own me [] e = tt
are_own me (x ∷ log) e = by_test (is_own me x) refl e (are_own me log)
  where
    by_test : (t : Bool) → is_own me x ≡ t → cond t (x ∷ own me log) (own me log) ≡ x ∷ log → (own me log ≡ log → AreOwn me log) → AreOwn me (x ∷ log)
    by_test true mine same again = (mine, again (ap (drop 1) same))
    by_test false other same again = absurd (omega (arith, ap length same, no_more me log))

pub own_spare : (me : Who) (root : ℕ) (key : Key) (h : History) (log : List LogItem) → AreOwn me log → All with_item (OthersSpare me root key) h log
own_spare me root key h [] mine = tt
own_spare me root key h (x ∷ log) mine = (λ other. absurd (false≢true (sym other ∙ mine.0)), own_spare me root key (with_item h x) log mine.1)

pub own_front : (me : Who) (xs ys : List LogItem) → AreOwn me (xs ++ ys) → AreOwn me xs
own_front me [] ys mine = tt
own_front me (x ∷ xs) ys mine = (mine.0, own_front me xs ys mine.1)

-- ---- what stays from the Begin on

module _ (me : Who) (root : ℕ) where
  one_base : (base now : Disk) (x : LogItem) → IsWithinRoot root x → base_after me base now x ≡ base
  one_base base now (items.Begin who request) within = absurd within
  one_base base now x within = refl

  one_told : (told : List LogItem) (x : LogItem) → IsWithinRoot root x → is_own me x ≡ true → told_after me told x ≡ told ++ filter is_evict (x ∷ [])
  one_told told (items.Evict who store driver key) within mine = rw mine refl
  one_told told (items.Did who call reply) within mine = sym (append-nil told)
  one_told told (items.Byte who slot at value) within mine = sym (append-nil told)
  one_told told (items.Failed who memory) within mine = sym (append-nil told)
  one_told told x within mine = absurd within

  pub inner_base : (p : Place) (xs : List LogItem) → AllByRecursion (IsWithinRoot root) xs → (fold (step me) p xs).base ≡ p.base
  inner_base p [] within = refl
  inner_base p (x ∷ xs) within = inner_base (step me p x) xs within.1 ∙ one_base p.base p.state.disk x within.0

  pub inner_told : (p : Place) (xs : List LogItem) → AllByRecursion (IsWithinRoot root) xs → AreOwn me xs → (fold (step me) p xs).told ≡ p.told ++ filter is_evict xs
  inner_told p [] within mine = sym (append-nil p.told)
  inner_told p (x ∷ xs) within mine =
      inner_told (step me p x) xs within.1 mine.1
      ∙ ap (λ (l : List LogItem). l ++ filter is_evict xs) (one_told p.told x within.0 mine.0)
      ∙ append_assoc p.told (filter is_evict (x ∷ [])) (filter is_evict xs)
      ∙ ap (λ (l : List LogItem). p.told ++ l) (sym (filter-append is_evict (x ∷ []) xs))
