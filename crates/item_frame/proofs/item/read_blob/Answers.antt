use Rattle.std.proofs.Common.{arith, inr}
use Rattle.std.proofs.lemmas.Result.{err_from_is_err_and}
use Rattle.item_frame.proofs.Laws.{Reads-from_item_at, IsWrong-from_item_at}
use Rattle.item_frame.proofs.item.read_blob.Goals as goal

pub returns-in_err-payload-clause-refused : goal.returns-in_err-payload-clause-refused
returns-in_err-payload-clause-refused c =
    let p = err_from_is_err_and c.from_residual.result c.from_residual.ensures.1 in
    let wrong = IsWrong-from_item_at c.args.driver.now c.args.bytes.now c.in_err-payload.field-0.0 (rw c.blob.ensures.bytes at c.in_err-payload.ensures) in
    rw p.1 (inr (rw p.2 wrong))

pub returns-clause-read : goal.returns-clause-read
returns-clause-read c = let h = c.in_ok-blob.ensures in rw c.in_ok-blob.ensures (Reads-from_item_at c.args.driver.now c.args.bytes.now c.in_ok-payload.payload.now (λ i. omega (arith, c.type_inv.bytes i)) (rw c.blob.ensures.bytes at c.in_ok-payload.ensures))
