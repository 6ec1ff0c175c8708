use Rattle.std.proofs.Common.{sym, ◌∙◌, arith}
use Rattle.db_format.proofs.HeadLaws.{head_exact}
use Rattle.db_format.proofs.head.read_head.Goals as goal

pub returns-clause-read : goal.returns-clause-read
returns-clause-read c = λ head.
    let exact = head_exact c.args.bytes.now head (λ i. omega (arith, c.type_inv.bytes i)) in
    (λ e. exact.0 (sym c.head_in_front.ensures ∙ e), λ r. c.head_in_front.ensures ∙ exact.1 r)
