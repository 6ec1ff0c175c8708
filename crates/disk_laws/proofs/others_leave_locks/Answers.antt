use Rattle.disk_laws.proofs.Locks.{other_locks}
use Rattle.disk_laws.proofs.others_leave_locks.Goals as goal

pub returns : goal.returns
returns c = λ me d item slot file other goes e. other_locks me d item slot file other goes e
