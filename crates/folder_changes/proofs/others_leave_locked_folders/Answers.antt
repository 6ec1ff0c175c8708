use Rattle.folder_changes.proofs.Framing.{others_leave}
use Rattle.folder_changes.proofs.others_leave_locked_folders.Goals as goal

pub returns : goal.returns
returns c = others_leave
