use Rattle.std.proofs.Common.{◌∙◌, ap}
use Rattle.cmd_words.specs.Options.{is_driver_text}
use Rattle.cmd_words.proofs.Texts.{driver_text_is}
use Rattle.cmd_words.proofs.row.is_driver_text.Goals as goal

pub returns : goal.returns
returns c = driver_text_is c.as_bytes.result.now c.is_driver_text.result c.is_driver_text.ensures.0 c.is_driver_text.ensures.1 ∙ ap is_driver_text c.as_bytes.ensures.value
