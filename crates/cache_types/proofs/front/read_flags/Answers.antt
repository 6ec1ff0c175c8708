use Rattle.std.proofs.Common.{drop, arith, rules}
use Rattle.cache_types.proofs.Flags.{flags_read}
use Rattle.cache_types.proofs.front.read_flags.Goals as goal

pub returns-clause-found : goal.returns-clause-found
returns-clause-found c =
    (drop 9 c.args.bytes.now, flags_read _ _ _ (λ i. omega (arith, c.type_inv.bytes i)) (omega arith) (search rules) c.in_ok-flags.ensures.cases c.from_le_bytes.ensures)
