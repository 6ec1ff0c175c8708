-- A rule at each place of a log, and along it.
use Rattle.std.proofs.Common.{◌≡◌, ℕ, zero, suc, List, [], ◌∷◌, ◌++◌, take, length, fold, slice_get, Some, refl, sym, ap, ◌∙◌, subst, append_assoc}
use Rattle.std.proofs.Math.Seq.{take-append_seam}
use Rattle.file_log.specs.Along.{All}
use Rattle.file_log.specs.Log.{History}
use Rattle.file_log.specs.declared.item.LogItem.{LogItem}
use Rattle.seat_rules.specs.Changes.{with_item}
pub use Rattle.seat_rules.specs.Places.{past}
use Rattle.seat_rules.specs.Places.{AtEach}

some_is : (a b : LogItem) → Some a ≡ Some b → a ≡ b
some_is a b e = cc

-- a log falls apart at each of its places
pub parts_at : (log : List LogItem) (n : ℕ) (item : LogItem) → slice_get log n ≡ Some item → (later : List LogItem) × (log ≡ take n log ++ item ∷ later)
parts_at [] n item e = absurd cc
parts_at (x ∷ log) zero item e = (log, ap (λ (y : LogItem). y ∷ log) (some_is x item e))
parts_at (x ∷ log) (suc n) item e = let r = parts_at log n item e in (r.0, ap (λ (l : List LogItem). x ∷ l) r.1)

pub place_of : (xs ys : List LogItem) (item : LogItem) → slice_get (xs ++ item ∷ ys) (length xs) ≡ Some item
place_of [] ys item = refl
place_of (x ∷ xs) ys item = place_of xs ys item

-- the rule holds of an item that stands there
pub there : (Rule : History → LogItem → Type 0) (xs ys : List LogItem) (item : LogItem) → AtEach Rule (xs ++ item ∷ ys) → Rule (past xs) item
there Rule xs ys item each =
    subst (λ (l : List LogItem). Rule (past l) item) (take-append_seam xs (item ∷ ys)) (each (length xs) item (place_of xs ys item))

-- the rule holds at each place where it holds of each item that stands there
pub everywhere : (Rule : History → LogItem → Type 0) (log : List LogItem) → ((xs ys : List LogItem) (item : LogItem) → log ≡ xs ++ item ∷ ys → Rule (past xs) item) → AtEach Rule log
everywhere Rule log rule n item e = let r = parts_at log n item e in rule (take n log) r.0 item r.1

-- and of each item of a part of the log, one after another
pub all_from : (Rule : History → LogItem → Type 0) (log xs ys zs : List LogItem) → log ≡ xs ++ (ys ++ zs) → AtEach Rule log → All with_item Rule (past xs) ys
all_from Rule log xs [] zs e each = tt
all_from Rule log xs (y ∷ ys) zs e each =
    (there Rule xs (ys ++ zs) y (subst (AtEach Rule) e each), all_from Rule log (xs ++ y ∷ []) ys zs (e ∙ sym (append_assoc xs (y ∷ []) (ys ++ zs))) each)

pub all_split : {S : Type 0} (step : S → LogItem → S) (Rule : S → LogItem → Type 0) (s : S) (xs ys : List LogItem) → All step Rule s (xs ++ ys) → All step Rule s xs × All step Rule (fold step s xs) ys
all_split step Rule s [] ys all = (tt, all)
all_split step Rule s (x ∷ xs) ys all = let r = all_split step Rule (step s x) xs ys all.1 in ((all.0, r.0), r.1)
