use Rattle.std.proofs.Common.{min, ap, ◌∙◌, arith, rules}
use Rattle.std.proofs.lemmas.Nat.{shl_whole}
use Rattle.host_files.proofs.Sleeps.{slept}
use Rattle.host_files.proofs.system.sleep_of.Goals as goal

pub returns : goal.returns
returns c =
    let whole = shl_whole 50 8 c.min.result 64 (omega arith) (omega (arith, c.min.ensures)) in
    slept c.args.waits c.min.result c.min-2.result (search rules) c.min.ensures (c.min-2.ensures ∙ ap (λ n. min n 10000) whole)
