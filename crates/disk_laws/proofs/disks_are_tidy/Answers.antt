use Rattle.disk_laws.proofs.Tidiness.{tidy}
use Rattle.disk_laws.proofs.disks_are_tidy.Goals as goal

pub returns : goal.returns
returns c = tidy
