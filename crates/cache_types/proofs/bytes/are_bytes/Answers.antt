use Rattle.std.proofs.Common.{◌<◌, ℕ, suc, List, [], ◌∷◌, get_or, arith}
use Rattle.std.specs.List.{AllByRecursion}
use Rattle.cache_types.proofs.bytes.are_bytes.Goals as goal

each_below : (xs : List ℕ) → ((i : ℕ) → get_or xs i 0 < 256) → AllByRecursion (λ b. b < 256) xs
each_below [] h = tt
each_below (x ∷ xs) h = (h 0, each_below xs (λ i. h (suc i)))

pub returns : goal.returns
returns c = each_below c.args.items.now (λ i. omega (arith, c.type_inv.items i))
