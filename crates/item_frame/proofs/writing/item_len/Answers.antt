use Rattle.std.proofs.Common.{arith, length, ap}
use Rattle.item_frame.proofs.Laws.{length-item_of}
use Rattle.item_frame.proofs.writing.item_len.Goals as goal

pub returns-clause-len : goal.returns-clause-len
returns-clause-len c = λ blob same.
    omega (arith, same, length-item_of c.args.driver.now c.args.meta.now blob, ap length c.blob.ensures.bytes, c.meta_len.ensures.len)
