-- The names that a file has had, among names with their files.
use Rattle.std.proofs.Common.{◌≡◌, ℕ, Bool, true, false, cond, ◌&&◌, nat_eq, List, [], ◌∷◌, map, filter, refl, ap}
use Rattle.std.specs.List.{list_all}
use Rattle.cache_types.specs.declared.name.Name.{Name}
use Rattle.operation_ledger.specs.Had.{names_of_file}
use Rattle.rule_checks.specs.Tests.{implies}

-- a test of each of them is the test of each that stands beside the file
pub all_of_file : (file : ℕ) (test : Name → Bool) (had : List (Name × ℕ)) → list_all test (names_of_file file had) ≡ list_all (λ p. implies (nat_eq p.1 file) (test p.0)) had
all_of_file file test [] = refl
all_of_file file test (p ∷ had) = by_file (nat_eq p.1 file) (all_of_file file test had)
  where
    by_file : (b : Bool) → list_all test (names_of_file file had) ≡ list_all (λ q. implies (nat_eq q.1 file) (test q.0)) had
        → list_all test (map (λ q. q.0) (cond b (p ∷ filter (λ q. nat_eq q.1 file) had) (filter (λ q. nat_eq q.1 file) had))) ≡ (implies b (test p.0) && list_all (λ q. implies (nat_eq q.1 file) (test q.0)) had)
    by_file true e = ap (λ (r : Bool). test p.0 && r) e
    by_file false e = e
