use Rattle.std.proofs.Common.{inl, inr}
use Rattle.std.proofs.lemmas.Result.{err_from_is_err_and}
use Rattle.item_frame.specs.AnyItem.{IsRefusedForAll}
use Rattle.item_frame.proofs.AnyLaws.{wrong_short, wrong_front, refused_behind, back_refused, back_read}
use Rattle.item_frame.proofs.any.read_any.Goals as goal

pub returns-then-bytes-lt-MIN_ITEM-clause-refused :
    goal.returns-then-bytes-lt-MIN_ITEM-clause-refused
returns-then-bytes-lt-MIN_ITEM-clause-refused c = inr (wrong_short c.args.bytes.now c.if-bytes-lt-MIN_ITEM.true)

pub returns-then-bytes-lt-MIN_ITEM-clause-back : goal.returns-then-bytes-lt-MIN_ITEM-clause-back
returns-then-bytes-lt-MIN_ITEM-clause-back c = back_refused c.args.bytes.now _ (inr (wrong_short c.args.bytes.now c.if-bytes-lt-MIN_ITEM.true))

no_driver : (c : goal.After-from_residual) → IsRefusedForAll c.args.bytes.now c.in_err-driver.field-0.0
no_driver c = elim c.in_err-driver.ensures.refused [
  | inl memory ↦ inl memory
  | inr none ↦ inr (rw none.0 (wrong_front c.args.bytes.now c.if-bytes-lt-MIN_ITEM.false none.1))
]

pub returns-in_err-driver-clause-refused : goal.returns-in_err-driver-clause-refused
returns-in_err-driver-clause-refused c =
    let p = err_from_is_err_and c.from_residual.result c.from_residual.ensures.1 in
    rw (p.1, p.2) (no_driver c)

pub returns-in_err-driver-clause-back : goal.returns-in_err-driver-clause-back
returns-in_err-driver-clause-back c =
    let p = err_from_is_err_and c.from_residual.result c.from_residual.ensures.1 in
    rw (p.1, p.2) (back_refused c.args.bytes.now c.in_err-driver.field-0.0 (no_driver c))

no_item : (c : goal.After-drop-driver) → IsRefusedForAll c.args.bytes.now c.in_err-item.field-0.0
no_item c = refused_behind c.in_ok-driver.driver c.args.bytes.now c.in_err-item.field-0.0 c.if-bytes-lt-MIN_ITEM.false c.in_ok-driver.ensures.found c.in_err-item.ensures.refused

pub returns-in_err-item-clause-refused : goal.returns-in_err-item-clause-refused
returns-in_err-item-clause-refused c =
    let p = err_from_is_err_and c.from_residual-in_err-item.result c.from_residual-in_err-item.ensures.1 in
    rw (p.1, p.2) (no_item c)

pub returns-in_err-item-clause-back : goal.returns-in_err-item-clause-back
returns-in_err-item-clause-back c =
    let p = err_from_is_err_and c.from_residual-in_err-item.result c.from_residual-in_err-item.ensures.1 in
    rw (p.1, p.2) (back_refused c.args.bytes.now c.in_err-item.field-0.0 (no_item c))

pub returns-clause-back : goal.returns-clause-back
returns-clause-back c = back_read c.in_ok-driver.driver c.args.bytes.now c.in_ok-item.item c.known.ensures.fits c.in_ok-item.ensures.read
