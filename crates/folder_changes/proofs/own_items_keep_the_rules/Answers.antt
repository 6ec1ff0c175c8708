use Rattle.folder_changes.proofs.Keeping.{still_keeps, making_keeps, writing_keeps, installing_keeps}
use Rattle.folder_changes.proofs.Replacing.{replacing_evicts}
use Rattle.folder_changes.proofs.own_items_keep_the_rules.Goals as goal

pub returns : goal.returns
returns c = record { still = still_keeps; making = making_keeps; writing = writing_keeps; installing = installing_keeps; replacing = replacing_evicts }
