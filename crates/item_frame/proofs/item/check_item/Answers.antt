use Rattle.std.proofs.Common.{◌∙◌, Some, refl, arith, sym, ap}
use Rattle.std.specs.Result.{result_err}
use Rattle.std.proofs.lemmas.Result.{err_from_is_err_and}
use Rattle.cache_types.specs.Driver.{blob_of}
use Rattle.item_frame.specs.Item.{Reads}
use Rattle.item_frame.proofs.Laws.{at_most, only_item, not_item, Reads-from_item_at, IsWrong-from_item_at}
use Rattle.item_frame.proofs.FirstRefusal.{first_refusal_is, first_refusal_no_memory}
use Rattle.item_frame.proofs.item.check_item.Goals as goal

pub returns-in_err-payload-clause-right : goal.returns-in_err-payload-clause-right
returns-in_err-payload-clause-right c =
    let p = err_from_is_err_and c.from_residual.result c.from_residual.ensures.1 in
    rw p.1 (λ ok. absurd cc, λ item. absurd (not_item c.args.driver.now c.args.bytes.now c.in_err-payload.field-0.0 (rw c.blob.ensures.bytes at c.in_err-payload.ensures) item))

pub returns-in_err-payload-clause-first : goal.returns-in_err-payload-clause-first
returns-in_err-payload-clause-first c =
    let p = err_from_is_err_and c.from_residual.result c.from_residual.ensures.1 in
    let wrong = IsWrong-from_item_at c.args.driver.now c.args.bytes.now c.in_err-payload.field-0.0 (rw c.blob.ensures.bytes at c.in_err-payload.ensures) in
    rw p.1 (ap Some p.2 ∙ sym wrong.0)

pub returns-in_err-payload-clause-memory : goal.returns-in_err-payload-clause-memory
returns-in_err-payload-clause-memory c =
    let p = err_from_is_err_and c.from_residual.result c.from_residual.ensures.1 in
    let wrong = IsWrong-from_item_at c.args.driver.now c.args.bytes.now c.in_err-payload.field-0.0 (rw c.blob.ensures.bytes at c.in_err-payload.ensures) in
    λ e. first_refusal_no_memory (blob_of c.args.driver.now) c.args.bytes.now (wrong.0 ∙ ap Some (sym p.2) ∙ ap result_err (sym p.1 ∙ e))

item_read : (c : goal.In_ok-payload) → Reads c.args.driver.now c.args.bytes.now c.in_ok-payload.field-0.now
item_read c = Reads-from_item_at c.args.driver.now c.args.bytes.now c.in_ok-payload.field-0.now (λ i. omega (arith, c.type_inv.bytes i)) (rw c.blob.ensures.bytes at c.in_ok-payload.ensures)

pub returns-clause-right : goal.returns-clause-right
returns-clause-right c = (λ ok. (c.in_ok-payload.field-0.now, item_read c), λ item. refl)

pub returns-clause-first : goal.returns-clause-first
returns-clause-first c = sym (first_refusal_is (blob_of c.args.driver.now) c.args.bytes.now ∙ ap result_err (rw c.blob.ensures.bytes at c.in_ok-payload.ensures))

pub returns-clause-longest : goal.returns-clause-longest
returns-clause-longest c = at_most c.args.driver.now c.args.bytes.now c.in_ok-payload.field-0.now c.known.ensures.fits (item_read c)

pub returns-clause-only : goal.returns-clause-only
returns-clause-only c = only_item c.args.driver.now c.args.bytes.now c.in_ok-payload.field-0.now c.known.ensures.fits (item_read c)
