use Rattle.std.proofs.Common.{arith}
use Rattle.item_frame.specs.Reading.{keys_in}
use Rattle.item_frame.proofs.KeysLaws.{keys_in_step, keys_in_end}
use Rattle.item_frame.proofs.fields.keys_of.Goals as goal

pub loop-key-preserved : goal.loop-key-preserved
loop-key-preserved c =
    let parts = c.in-Some.ensures.cases in
    keys_in_step c.loop-key.keys c.push.new.self (keys_in c.args.bytes.now) c.in-Some.key.now c.in-Some.more.now c.loop-key.rest.now c.in_ok-push.ensures.ok parts.0 parts.1 (omega (arith, parts.2)) c.loop-key.invariant

pub returns : goal.returns
returns c = keys_in_end c.loop-key.keys (keys_in c.args.bytes.now) c.loop-key.rest.now c.in_default.ensures.cases c.loop-key.invariant
