-- How often in a row a lock was found held.
use Rattle.std.proofs.Common.{◌≡◌, ℕ, Bool, true, false, cond, not, nat_eq, List, Option, None, refl, sym, ap, ◌∙◌, filter, arith}
use Rattle.std.proofs.lemmas.Bool.{eqb-true}
use Rattle.world_tables.specs.Find.{find_by}
use Rattle.world_tables.proofs.Finds.{dropped_if}
use Rattle.operation_ledger.specs.declared.tries.HeldTries.{HeldTries}
use Rattle.operation_ledger.specs.Tries.{counted, tries_of}

abbrev pub is_other : ℕ → HeldTries → Bool
is_other file t = not (nat_eq t.file file)

not_not : (b : Bool) → b ≡ not (not b)
not_not true = refl
not_not false = refl

nat_eq-turned : (a b : ℕ) → nat_eq a b ≡ nat_eq b a
nat_eq-turned a b = grind arith

none_or : (q : Bool) (o : Option ℕ) → counted (cond q None o) ≡ cond q 0 (counted o)
none_or true o = refl
none_or false o = refl

-- the tries for one file were forgotten
pub tries_of-forgotten : (file : ℕ) (tries : List HeldTries) (f : ℕ) → tries_of (filter (is_other file) tries) f ≡ cond (nat_eq file f) 0 (tries_of tries f)
tries_of-forgotten file tries f =
    ap counted (dropped_if (nat_eq file f) (λ t. nat_eq t.file f) (λ t. t.held) (is_other file) tries
    (λ t e. let same : t.file ≡ f = eqb-true _ _ e in ap (λ (n : ℕ). nat_eq file n) (sym same) ∙ nat_eq-turned file t.file ∙ not_not (nat_eq t.file file)))
    ∙ none_or (nat_eq file f) (find_by (λ t. nat_eq t.file f) (λ t. t.held) tries)
