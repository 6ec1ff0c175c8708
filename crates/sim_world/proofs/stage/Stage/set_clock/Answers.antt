use Rattle.std.proofs.Common.{ap, sym, subst}
use Rattle.file_log.specs.State.{state_of}
use Rattle.file_model.specs.Held.{Held}
use Rattle.sim_world.specs.Stages.{apart_of, AreSeated, AreJobs, scene_from}
use Rattle.sim_world.proofs.Turning.{clock_seated}
use Rattle.sim_world.proofs.stage.Stage.set_clock.Goals as goal

pub returns-clause-order : goal.returns-clause-order
returns-clause-order c =
    let old = c.args.self.now in
    record {
      seated = subst (λ (w : Held). AreSeated (apart_of old.outsider) w old.seats.items) (sym c.set_clock.ensures) (clock_seated old.world c.args.now old.seats.items c.requires.seated);
      queues = subst (λ (w : Held). AreJobs (state_of w.past) old.jobs.items old.offered.items) (sym c.set_clock.ensures) c.requires.queues;
    }

pub returns-clause-plays : goal.returns-clause-plays
returns-clause-plays c =
    let old = c.args.self.now in
    ap (λ (w : Held). scene_from w old.seats.items old.failing.items old.jobs.items) c.set_clock.ensures
