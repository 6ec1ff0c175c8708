-- A set of the names that were seen, after one name more.
use Rattle.std.proofs.Common.{◌≡◌, ℕ, Bool, true, false, cond, ◌||◌, List, [], ◌∷◌, ◌++◌, bytes_eq, refl, sym, ap, ◌∙◌, Bor, BTreeSet, is_eq, nat_cmp}
use Rattle.std.specs.BTreeSet.{UpdatesBy, IsUnchanged, contains_by}
use Rattle.std.specs.Cmp.Lexicographic.{slice_cmp, nat_list_eq_equiv}
use Rattle.std.specs.List.{list_any}
use Rattle.std.proofs.lemmas.List.Folds.{list_any-append}
use Rattle.std.proofs.lemmas.Map.Text.{is_eq-slice_cmp}
use Rattle.settings_read.specs.Seen.{IsSeen, has_name}

pub unchanged : (old new : BTreeSet (Bor (List ℕ))) (names : List (List ℕ)) → IsSeen old names → IsUnchanged old new → IsSeen new names
unchanged old new names seen same = λ name. ap (list_any (λ (key : Bor (List ℕ)). is_eq (slice_cmp nat_cmp name key.now))) same ∙ seen name

last_one : (is among : Bool) → cond is true among ≡ (among || (is || false))
last_one true true = refl
last_one true false = refl
last_one false true = refl
last_one false false = refl

pub added : (old new : BTreeSet (Bor (List ℕ))) (names : List (List ℕ)) (piece : List ℕ) → IsSeen old names → UpdatesBy (λ x y. slice_cmp nat_cmp x.now y.now) (λ key. slice_cmp nat_cmp piece key.now) old new true → IsSeen new (names ++ piece ∷ [])
added old new names piece seen updates = λ name.
    let key : Bor (List ℕ) = record { ref_ptr = (0, 0); now = name } in
    updates.0 key
    ∙ ap (λ (is : Bool). cond is true (contains_by (λ (k : Bor (List ℕ)). slice_cmp nat_cmp name k.now) old)) (is_eq-slice_cmp piece name ∙ nat_list_eq_equiv.symm piece name)
    ∙ ap (cond (bytes_eq name piece) true) (seen name)
    ∙ last_one (bytes_eq name piece) (has_name names name)
    ∙ sym (list_any-append (bytes_eq name) names (piece ∷ []))
