-- Parts of a log in which rules are kept, nothing is rough and an address isn't evicted.
use Rattle.std.proofs.Common.{◌≡◌, inl, inr, List, [], ◌∷◌, ◌++◌, fold, sym, ap, ◌∙◌, subst, append_assoc}
use Rattle.cache_types.specs.declared.seat.Who.{Who}
use Rattle.file_log.specs.Along.{All}
use Rattle.file_log.specs.Log.{History, with_items}
use Rattle.file_log.specs.declared.item.LogItem.{LogItem}
use Rattle.file_log.specs.declared.item.LogItem.TheVariants as items
use Rattle.seat_rules.specs.Changes.{with_item}
use Rattle.seat_rules.specs.Address.{Address}
use Rattle.seat_rules.specs.Operations.{NoEndOf}
use Rattle.seat_rules.specs.Promises.{NoEvictOf}
use Rattle.seat_rules.specs.Served.{NoneOpen, IsSafe}
use Rattle.seat_rules.proofs.Along.{all_split}
use Rattle.seat_rules.proofs.Histories.{quiet_then, quiet_front, last_of, no_end_front, goes_by}

-- ---- no Evict of it is open

abbrev pub evict_of : Who → Address → LogItem
evict_of who at = items.Evict who at.store at.driver at.key

none_then : (log : List LogItem) (item : LogItem) (at : Address) → NoneOpen log at → ((who : Who) → item ≡ evict_of who at → ⊥) → NoneOpen (log ++ item ∷ []) at
none_then log item at none other who o = elim (last_of log item o.before (evict_of who at) o.later o.log_is) [
  | inl r ↦ none who (record { before = o.before; later = r.shorter; log_is = r.log_is; is_open = no_end_front who r.shorter (item ∷ []) (subst (NoEndOf who) r.later_is o.is_open) })
  | inr same ↦ other who same.0
]

no_evict_first : (at : Address) (x : LogItem) (log : List LogItem) → NoEvictOf at (x ∷ log) → (who : Who) → x ≡ evict_of who at → ⊥
no_evict_first at x log none who e = none [] log who (ap (λ (y : LogItem). y ∷ log) e)

no_evict_rest : (at : Address) (xs ys : List LogItem) → NoEvictOf at (xs ++ ys) → NoEvictOf at ys
no_evict_rest at xs ys none before later who e = none (xs ++ before) later who (ap (λ (l : List LogItem). xs ++ l) e ∙ sym (append_assoc xs before (evict_of who at ∷ later)))

no_evict_front : (at : Address) (xs ys : List LogItem) → NoEvictOf at (xs ++ ys) → NoEvictOf at xs
no_evict_front at xs ys none before later who e = none before (later ++ ys) who (ap (λ (l : List LogItem). l ++ ys) e ∙ append_assoc before (evict_of who at ∷ later) ys)

-- an item that is no Evict, before or after such a part
pub no_evict_more : (at : Address) (x : LogItem) (log : List LogItem) → ((who : Who) → x ≡ evict_of who at → ⊥) → NoEvictOf at log → NoEvictOf at (x ∷ log)
no_evict_more at x log other none [] later who e = other who cc
no_evict_more at x log other none (y ∷ before) later who e = none before later who cc

pub no_evict_last : (at : Address) (log : List LogItem) (x : LogItem) → ((who : Who) → x ≡ evict_of who at → ⊥) → NoEvictOf at log → NoEvictOf at (log ++ x ∷ [])
no_evict_last at log x other none before later who e = elim (last_of log x before (evict_of who at) later e) [
  | inl r ↦ none before r.shorter who r.log_is
  | inr same ↦ other who same.0
]

-- ---- along a part of a log

pub safe_then : (Rule : History → LogItem → Type 0) (at : Address) (h : History) (x : LogItem) (log : List LogItem) → IsSafe Rule at h (x ∷ log) → IsSafe Rule at (with_item h x) log
safe_then Rule at h x log s = record {
  driver = s.driver;
  keeps = s.keeps.1;
  quiet = quiet_then h.log (x ∷ []) s.quiet (s.smooth.0, tt);
  smooth = s.smooth.1;
  none_open = none_then h.log x at s.none_open (no_evict_first at x log s.none_told);
  none_told = no_evict_rest at (x ∷ []) log s.none_told;
}

all_map : (R Q : History → LogItem → Type 0) → ((h : History) (item : LogItem) → R h item → Q h item) → (h : History) (log : List LogItem) → All with_item R h log → All with_item Q h log
all_map R Q f h [] all = tt
all_map R Q f h (x ∷ log) all = (f h x all.0, all_map R Q f (with_item h x) log all.1)

pub safe_map : (R Q : History → LogItem → Type 0) → ((h : History) (item : LogItem) → R h item → Q h item) → (at : Address) (h : History) (log : List LogItem) → IsSafe R at h log → IsSafe Q at h log
safe_map R Q f at h log s = record { driver = s.driver; keeps = all_map R Q f h log s.keeps; quiet = s.quiet; smooth = s.smooth; none_open = s.none_open; none_told = s.none_told }

pub safe_front : (Rule : History → LogItem → Type 0) (at : Address) (h : History) (xs ys : List LogItem) → IsSafe Rule at h (xs ++ ys) → IsSafe Rule at h xs
safe_front Rule at h xs ys s = record {
  driver = s.driver;
  keeps = (all_split with_item Rule h xs ys s.keeps).0;
  quiet = s.quiet;
  smooth = quiet_front xs ys s.smooth;
  none_open = s.none_open;
  none_told = no_evict_front at xs ys s.none_told;
}

safe_fold : (Rule : History → LogItem → Type 0) (at : Address) (h : History) (xs ys : List LogItem) → IsSafe Rule at h (xs ++ ys) → IsSafe Rule at (fold with_item h xs) ys
safe_fold Rule at h [] ys s = s
safe_fold Rule at h (x ∷ xs) ys s = safe_fold Rule at (with_item h x) xs ys (safe_then Rule at h x (xs ++ ys) s)

pub safe_rest : (Rule : History → LogItem → Type 0) (at : Address) (h : History) (xs ys : List LogItem) → IsSafe Rule at h (xs ++ ys) → IsSafe Rule at (with_items h xs) ys
safe_rest Rule at h xs ys s = subst (λ (k : History). IsSafe Rule at k ys) (goes_by h xs) (safe_fold Rule at h xs ys s)
