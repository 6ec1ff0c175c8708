-- Logs of one seat alone.
use Rattle.std.proofs.Common.{◌≡◌, ℕ, true, List, [], ◌∷◌, ◌++◌, fold, Option, Some, None, refl, ap, subst, ◌∙◌}
use Rattle.std.specs.List.{All as Each, AllByRecursion}
use Rattle.std.proofs.lemmas.List.Elements.{filter_passes, recursion_from_All}
use Rattle.cache_types.specs.declared.name.Name.{Name}
use Rattle.cache_types.specs.declared.seat.Who.{Who}
use Rattle.file_log.specs.declared.item.LogItem.{LogItem}
use Rattle.file_log.specs.Along.{All}
use Rattle.file_log.specs.Disk.{Disk, bytes_in, file_of}
use Rattle.file_log.specs.Log.{is_own, own}
use Rattle.file_log.specs.Operation.{IsStill, LeavesAll}
use Rattle.file_log.specs.State.{State, after}

abbrev pub AreOwn : Who → List LogItem → Type 0
AreOwn me log = AllByRecursion (λ item. is_own me item ≡ true) log

pub are_own : (me : Who) (log : List LogItem) → own me log ≡ log → AreOwn me log
are_own me log e = recursion_from_All _ log (subst (Each (λ item. is_own me item ≡ true)) e (filter_passes (is_own me) log))

pub own_back : (me : Who) (log : List LogItem) → AreOwn me log → own me log ≡ log
own_back me [] p = refl
own_back me (item ∷ log) p = rw p.0 (ap (λ (items : List LogItem). item ∷ items) (own_back me log p.1))

pub first_own : (me : Who) (xs ys : List LogItem) → AreOwn me (xs ++ ys) → AreOwn me xs
first_own me [] ys p = tt
first_own me (x ∷ xs) ys p = (p.0, first_own me xs ys p.1)

pub last_own : (me : Who) (xs ys : List LogItem) → AreOwn me (xs ++ ys) → AreOwn me ys
last_own me [] ys p = p
last_own me (x ∷ xs) ys p = last_own me xs ys p.1

-- own items that change nothing leave the disk as it was
pub still_along : (me : Who) (s : State) (news : List LogItem) → AreOwn me news → All after (LeavesAll me) s news → IsStill s.disk (fold after s news).disk
still_along me s [] mine still = record { names = λ name. refl; files = λ file. refl }
still_along me s (item ∷ news) mine still =
    let here = still.0 mine.0 in
    let rest = still_along me (after s item) news mine.1 still.1 in
    record { names = λ name. rest.names name ∙ here.names name; files = λ file. rest.files file ∙ here.files file }

-- and so each name's file
pub same_file : (old new : Disk) → IsStill old new → (name : Name) → file_of new name ≡ file_of old name
same_file old new still name = ap (bytes_in new.files) (still.names name) ∙ bytes_same (old.names name)
  where
    bytes_same : (file : Option ℕ) → bytes_in new.files file ≡ bytes_in old.files file
    bytes_same None = refl
    bytes_same (Some file) = ap (λ (bytes : List ℕ). Some bytes) (still.files file)
