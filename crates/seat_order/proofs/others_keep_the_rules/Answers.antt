use Rattle.seat_order.proofs.Coming.{apart_at_first, passes, all_cooperate, all_operate}
use Rattle.seat_order.proofs.others_keep_the_rules.Goals as goal

pub returns : goal.returns
returns c = record { first = apart_at_first; pass = passes; all = all_cooperate; operate = all_operate }
