use Rattle.folder_changes.proofs.Ordering.{stays_in_order}
use Rattle.folder_changes.proofs.logs_stay_in_order.Goals as goal

pub returns : goal.returns
returns c = stays_in_order
