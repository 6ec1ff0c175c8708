-- Lists of what was given, without repeats.
use Rattle.std.proofs.Common.{◌≡◌, ℕ, Bool, true, false, ◌||◌, List, [], ◌∷◌, ◌++◌, Option, refl, ap, ◌∙◌, subst}
use Rattle.std.specs.List.{list_any}
use Rattle.std.proofs.lemmas.List.Folds.{list_any-append}
use Rattle.log_summary.proofs.Lists.{any_in, any_from}
use Rattle.rule_checks.proofs.Deciding.{same_blob_decides}
use Rattle.rule_checks.specs.Tests.{same_blob}
use Rattle.operation_ledger.specs.Given.{Learns}

once_more : (b c : Bool) → (b ≡ true → c ≡ true) → c ≡ (b || c)
once_more true c h = h refl
once_more false c h = refl

-- what is there already need not be added
pub known_already : (gave : List (Option (List ℕ))) (given : Option (List ℕ)) → list_any (same_blob given) gave ≡ true → Learns gave given gave
known_already gave given e = λ test.
    let one = any_in (same_blob given) gave e in
    let same : given ≡ one.0 = (same_blob_decides given one.0).0 one.2 in
    once_more (test given) (list_any test gave) (λ t. any_from test gave one.0 one.1 (subst (λ (x : Option (List ℕ)). test x ≡ true) same t))

turned : (a b : Bool) → (a || (b || false)) ≡ (b || a)
turned true true = refl
turned true false = refl
turned false true = refl
turned false false = refl

-- what was added is there
pub added : (gave : List (Option (List ℕ))) (given : Option (List ℕ)) → Learns gave given (gave ++ given ∷ [])
added gave given = λ test. list_any-append test gave (given ∷ []) ∙ turned (list_any test gave) (test given)

same_self : (given : Option (List ℕ)) → same_blob given given ≡ true
same_self given = (same_blob_decides given given).1 refl

-- then it is known
pub known_then : (old new : List (Option (List ℕ))) (given : Option (List ℕ)) → Learns old given new → list_any (same_blob given) new ≡ true
known_then old new given l = l (same_blob given) ∙ ap (λ (b : Bool). b || list_any (same_blob given) old) (same_self given)
