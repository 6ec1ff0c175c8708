use Rattle.std.proofs.Common.{rules}
use Rattle.std.proofs.lemmas.Fn.{filter_same}
use Rattle.sim_world.proofs.JobTable.{is_another, offered_more}
use Rattle.sim_world.proofs.jobs.set_offered.Goals as goal

pub returns : goal.returns
returns c = λ p.
    let e = filter_same _ (is_another c.args.process) _ (λ x b f h. search rules) _ _ c.retain.ensures.filtered in
    rw c.add.ensures (rw e (offered_more c.args.process c.args.count _ p))
