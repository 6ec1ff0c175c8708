use Rattle.std.proofs.Common.{ap, List, ℕ}
use Rattle.std.specs.Cmp.Lexicographic.{bytes_decides}
use Rattle.std.proofs.lemmas.Slice.Eq.{slice_eq-Decides}
use Rattle.cache_types.specs.declared.key.Key.{Key}
use Rattle.world_tables.proofs.Listings.{same_key, same_key-true}
use Rattle.world_tables.proofs.legal.same_keys.Goals as goal

pub returns : goal.returns
returns c = slice_eq-Decides {E = same_key} (λ a b. (same_key-true a b, λ e. (bytes_decides a.bytes b.bytes).1 (ap (λ (k : Key). k.bytes) e))) c.args.a.now c.args.b.now c.eq.result c.eq.ensures
