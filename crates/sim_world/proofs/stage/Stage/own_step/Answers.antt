use Rattle.sim_world.proofs.Owning.{own_seated, own_jobs}
use Rattle.sim_world.proofs.stage.Stage.own_step.Goals as goal

pub returns-clause-order : goal.returns-clause-order
returns-clause-order c =
    let old = c.args.self.now in
    record {
      seated = own_seated old.outsider c.args.me old.world c.step.new.self old.seats.items c.args.call.now c.args.done c.step.result c.requires.order.seated c.requires.outsider c.step.ensures.stepped;
      queues = own_jobs c.args.me old.world c.step.new.self old.jobs.items old.offered.items c.args.call.now c.args.done c.step.result c.step.ensures.stepped c.requires.order.queues;
    }
