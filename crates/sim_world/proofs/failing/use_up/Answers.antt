use Rattle.std.proofs.Common.{rules}
use Rattle.std.proofs.lemmas.Fn.{filter_same}
use Rattle.sim_world.proofs.SeatTable.{is_anothers, used_up}
use Rattle.sim_world.proofs.failing.use_up.Goals as goal

pub returns : goal.returns
returns c = λ w.
    let e = filter_same _ (is_anothers c.args.who) _ (λ x b f h. search rules) _ _ c.retain.ensures.filtered in
    rw e (used_up c.args.who _ w)
