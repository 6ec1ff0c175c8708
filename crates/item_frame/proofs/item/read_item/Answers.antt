use Rattle.std.proofs.Common.{◌≡◌, ◌∙◌, List, ℕ, Result, Err, arith, ap, inr}
use Rattle.std.proofs.lemmas.Result.{err_from_is_err_and}
use Rattle.cache_types.specs.Driver.{blob_of}
use Rattle.item_frame.specs.declared.refusal.ItemRefusal.{ItemRefusal}
use Rattle.item_frame.specs.Item.{ReadsAs}
use Rattle.item_frame.specs.Reading.{next_at, body_at, item_at}
use Rattle.item_frame.specs.Refusals.{IsRefused}
use Rattle.item_frame.proofs.Laws.{ReadsAs-from_body_at, IsWrong-from_item_at}
use Rattle.item_frame.proofs.Back.{item_refused, item_read_back}
use Rattle.item_frame.proofs.item.read_item.Goals as goal

wrong_front : (c : goal.After-from_residual) → IsRefused c.args.driver.now c.args.bytes.now c.in_err-body.field-0.0
wrong_front c =
    let reading : item_at (blob_of c.args.driver.now) c.args.bytes.now ≡ Err c.in_err-body.field-0.0 =
    ap (λ (r : Result (List ℕ) ItemRefusal). next_at r body_at) (rw c.blob.ensures.bytes at c.in_err-body.ensures.rest) in
    inr (IsWrong-from_item_at c.args.driver.now c.args.bytes.now c.in_err-body.field-0.0 reading)

pub returns-in_err-body-clause-refused : goal.returns-in_err-body-clause-refused
returns-in_err-body-clause-refused c =
    let p = err_from_is_err_and c.from_residual.result c.from_residual.ensures.1 in
    rw (p.1, p.2) (wrong_front c)

pub returns-in_err-body-clause-back : goal.returns-in_err-body-clause-back
returns-in_err-body-clause-back c =
    let p = err_from_is_err_and c.from_residual.result c.from_residual.ensures.1 in
    rw (p.1, p.2) (item_refused c.args.driver.now c.args.bytes.now c.in_err-body.field-0.0 (wrong_front c))

wrong_body : (c : goal.After-from_residual-in_err-payload) → IsRefused c.args.driver.now c.args.bytes.now c.in_err-payload.field-0.0
wrong_body c =
    let reading : item_at (blob_of c.args.driver.now) c.args.bytes.now ≡ Err c.in_err-payload.field-0.0 =
    ap (λ (r : Result (List ℕ) ItemRefusal). next_at r body_at) (rw c.blob.ensures.bytes at c.in_ok-body.ensures.rest) ∙ c.in_err-payload.ensures in
    inr (IsWrong-from_item_at c.args.driver.now c.args.bytes.now c.in_err-payload.field-0.0 reading)

pub returns-in_err-payload-clause-refused : goal.returns-in_err-payload-clause-refused
returns-in_err-payload-clause-refused c =
    let p = err_from_is_err_and c.from_residual-in_err-payload.result c.from_residual-in_err-payload.ensures.1 in
    rw (p.1, p.2) (wrong_body c)

pub returns-in_err-payload-clause-back : goal.returns-in_err-payload-clause-back
returns-in_err-payload-clause-back c =
    let p = err_from_is_err_and c.from_residual-in_err-payload.result c.from_residual-in_err-payload.ensures.1 in
    rw (p.1, p.2) (item_refused c.args.driver.now c.args.bytes.now c.in_err-payload.field-0.0 (wrong_body c))

item_read : (c : goal.In_ok-blob) → ReadsAs c.args.driver.now c.args.bytes.now c.in_ok-meta.meta c.in_ok-blob.blob
item_read c =
    let item = ReadsAs-from_body_at c.args.driver.now c.args.bytes.now c.in_ok-body.body.now c.in_ok-payload.payload.now (λ i. omega (arith, c.type_inv.bytes i)) (rw c.blob.ensures.bytes at c.in_ok-body.ensures.rest) c.in_ok-payload.ensures in
    rw (c.in_ok-meta.ensures, c.in_ok-blob.ensures) item

pub returns-clause-read : goal.returns-clause-read
returns-clause-read c = item_read c

pub returns-clause-back : goal.returns-clause-back
returns-clause-back c = item_read_back c.args.driver.now c.args.bytes.now (record { meta = c.in_ok-meta.meta; blob = c.in_ok-blob.blob }) (item_read c)
