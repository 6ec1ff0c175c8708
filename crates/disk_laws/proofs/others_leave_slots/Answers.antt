use Rattle.disk_laws.proofs.Slots.{other_slots}
use Rattle.disk_laws.proofs.others_leave_slots.Goals as goal

pub returns : goal.returns
returns c = λ d item me at other goes. other_slots me d item at other goes
