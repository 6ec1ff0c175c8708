use Rattle.disk_laws.proofs.Locks.{lone}
use Rattle.disk_laws.proofs.lone_seats_hold_alone.Goals as goal

pub returns : goal.returns
returns c = λ me h e. lone me h e
