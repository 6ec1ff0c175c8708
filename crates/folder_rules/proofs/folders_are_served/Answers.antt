use Rattle.folder_rules.proofs.Served.{folder_served}
use Rattle.folder_rules.proofs.folders_are_served.Goals as goal

pub returns : goal.returns
returns c = folder_served
