use Rattle.log_summary.proofs.Telling.{tells}
use Rattle.log_summary.proofs.summaries_tell.Goals as goal

pub returns : goal.returns
returns c = tells
