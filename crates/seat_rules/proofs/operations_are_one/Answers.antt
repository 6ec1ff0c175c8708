use Rattle.seat_rules.proofs.Inside.{one_inside}
use Rattle.seat_rules.proofs.operations_are_one.Goals as goal

pub returns : goal.returns
returns c = one_inside
