use Rattle.layout_rules.proofs.Serving.{served}
use Rattle.layout_rules.proofs.all_are_served.Goals as goal

pub returns : goal.returns
returns c = served
