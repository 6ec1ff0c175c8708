-- The names of a start.
use Rattle.std.proofs.Common.{◌≡◌, ◌<◌, ℕ, zero, suc, ◌+◌, Bool, true, false, List, [], ◌∷◌, cond, length, get_or, take, Option, Some, None, refl, sym, ap, ◌∙◌, arith}
use Rattle.cache_types.specs.declared.name.Name.{Name}
use Rattle.std.specs.Option.{option_or}
use Rattle.cache_types.specs.Names.{same_name}
use Rattle.file_log.specs.Disk.{Start, number_from}

-- one name more
pub number_from-more : (k i m : ℕ) (start : Start) (d : Name × List ℕ) (n : Name) → i < length start → m ≡ i + 1
    → number_from k (take m start) n ≡ option_or (number_from k (take i start) n) (cond (same_name (get_or start i d).0 n) (Some (k + i)) None)
number_from-more k i m [] d n less e = absurd (omega (arith, less))
number_from-more k i zero (file ∷ start) d n less e = absurd (omega (arith, e))
number_from-more k zero (suc m) (file ∷ start) d n less e =
    let none : m ≡ 0 = omega (arith, e) in
    let here : k ≡ k + 0 = omega arith in
    ap (λ (j : ℕ). cond (same_name file.0 n) (Some k) (number_from (k + 1) (take j start) n)) none ∙ ap (λ (j : ℕ). cond (same_name file.0 n) (Some j) None) here
number_from-more k (suc i) (suc m) (file ∷ start) d n less e =
    let there : k + 1 + i ≡ k + suc i = omega arith in
    ap (λ (o : Option ℕ). cond (same_name file.0 n) (Some k) o) (number_from-more (k + 1) i m start d n (omega (arith, less)) (omega (arith, e)))
    ∙ ap (λ (j : ℕ). cond (same_name file.0 n) (Some k) (option_or (number_from (k + 1) (take i start) n) (cond (same_name (get_or start i d).0 n) (Some j) None))) there
    ∙ earlier (same_name file.0 n) (number_from (k + 1) (take i start) n) (cond (same_name (get_or start i d).0 n) (Some (k + suc i)) None)
  where
    earlier : (q : Bool) (o more : Option ℕ) → cond q (Some k) (option_or o more) ≡ option_or (cond q (Some k) o) more
    earlier true o more = refl
    earlier false o more = refl
