use Rattle.std.proofs.Common.{◌^◌, ◌∙◌}
use Rattle.settings_read.proofs.Digits.{limited_more}
use Rattle.settings_read.proofs.size.number_of.Goals as goal

pub loop-digit-preserved : goal.loop-digit-preserved
loop-digit-preserved c = c.min-number.ensures ∙ limited_more c.args.digits.now c.loop-digit.digit-index (2 ^ 40) c.loop-digit.number c.from.result c.requires c.loop-digit-test.true c.from.ensures c.loop-digit.invariant
