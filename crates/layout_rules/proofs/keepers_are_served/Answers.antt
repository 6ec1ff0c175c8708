use Rattle.layout_rules.proofs.Placing.{kept_by_each}
use Rattle.layout_rules.proofs.Serving.{served}
use Rattle.layout_rules.proofs.keepers_are_served.Goals as goal

pub returns : goal.returns
returns c = λ log legal each. served log legal ((kept_by_each log).1 each)
