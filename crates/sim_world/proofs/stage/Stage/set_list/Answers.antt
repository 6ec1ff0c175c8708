use Rattle.std.proofs.Common.{refl}
use Rattle.file_log.specs.declared.item.LogItem.TheVariants.{SetList}
use Rattle.sim_world.proofs.Turning.{either_seated, either_jobs}
use Rattle.sim_world.proofs.stage.Stage.set_list.Goals as goal

pub returns-clause-order : goal.returns-clause-order
returns-clause-order c =
    let old = c.args.self.now in
    let item = SetList c.in_ok-text.text in
    let told = c.set_list.ensures in
    record {
      seated = either_seated c.set_list.result old.world c.set_list.new.self old.seats.items item c.requires.seated told.ok told.err refl told.legal;
      queues = either_jobs c.set_list.result old.world c.set_list.new.self item old.jobs.items old.offered.items told.ok told.err tt c.requires.queues;
    }
