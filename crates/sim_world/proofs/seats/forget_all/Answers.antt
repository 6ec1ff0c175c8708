use Rattle.std.proofs.Common.{rules}
use Rattle.std.proofs.lemmas.Fn.{filter_same}
use Rattle.sim_world.proofs.SeatTable.{is_elsewhere, stopped_out, once_stopped}
use Rattle.sim_world.proofs.seats.forget_all.Goals as goal

pub returns-clause-seats : goal.returns-clause-seats
returns-clause-seats c = λ w.
    let e = filter_same _ (is_elsewhere c.args.process) _ (λ x b f h. search rules) _ _ c.retain.ensures.filtered in
    rw e (stopped_out c.args.process _ w)

pub returns-clause-once : goal.returns-clause-once
returns-clause-once c =
    let e = filter_same _ (is_elsewhere c.args.process) _ (λ x b f h. search rules) _ _ c.retain.ensures.filtered in
    rw e (once_stopped c.args.process _ c.requires)
