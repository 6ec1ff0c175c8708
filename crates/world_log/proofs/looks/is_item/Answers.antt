use Rattle.std.proofs.Common.{◌∙◌}
use Rattle.world_log.proofs.Readings.{reads_right}
use Rattle.world_log.proofs.looks.is_item.Goals as goal

pub returns : goal.returns
returns c = c.is_ok.ensures.value ∙ reads_right c.args.driver.now c.args.bytes.now c.check_item.result c.check_item.ensures.first
