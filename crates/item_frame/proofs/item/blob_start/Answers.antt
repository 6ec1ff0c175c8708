use Rattle.std.proofs.Common.{arith}
use Rattle.std.proofs.lemmas.Result.{err_from_is_err_and}
use Rattle.item_frame.specs.Item.{Reads}
use Rattle.item_frame.proofs.Laws.{Reads-from_item_at, Reads-last, at_least, IsWrong-from_item_at}
use Rattle.item_frame.proofs.item.blob_start.Goals as goal

pub returns-in_err-payload-clause-wrong : goal.returns-in_err-payload-clause-wrong
returns-in_err-payload-clause-wrong c =
    let p = err_from_is_err_and c.from_residual.result c.from_residual.ensures.1 in
    let wrong = IsWrong-from_item_at c.args.driver.now c.args.bytes.now c.in_err-payload.field-0.0 (rw c.blob.ensures.bytes at c.in_err-payload.ensures) in
    rw (p.1, p.2) wrong

item_read : (c : goal.In_ok-payload) → Reads c.args.driver.now c.args.bytes.now c.in_ok-payload.payload.now
item_read c = Reads-from_item_at c.args.driver.now c.args.bytes.now c.in_ok-payload.payload.now (λ i. omega (arith, c.type_inv.bytes i)) (rw c.blob.ensures.bytes at c.in_ok-payload.ensures)

pub overflow_sub-result : goal.overflow_sub-result
overflow_sub-result c = omega (arith, at_least c.args.driver.now c.args.bytes.now c.in_ok-payload.payload.now (item_read c))

pub returns-clause-read : goal.returns-clause-read
returns-clause-read c = Reads-last c.args.driver.now c.args.bytes.now c.in_ok-payload.payload.now (item_read c)
