use Rattle.std.proofs.Common.{List, [], sym, subst}
use Rattle.file_log.specs.State.{state_of}
use Rattle.sim_world.specs.declared.jobs.Job.{Job}
use Rattle.sim_world.specs.declared.jobs.Offered.{Offered}
use Rattle.sim_world.specs.declared.seats.Seat.{Seat}
use Rattle.sim_world.specs.Stages.{apart_of, AreSeated, AreJobs}
use Rattle.sim_world.proofs.Turning.{first_seated, first_jobs}
use Rattle.sim_world.proofs.stage.Stage.new.Goals as goal

pub returns-clause-order : goal.returns-clause-order
returns-clause-order c =
    let world = c.new.result in
    record {
      seated = subst (λ (seats : List Seat). AreSeated (apart_of c.args.outsider) world seats) (sym c.new-2.ensures.items) (first_seated (apart_of c.args.outsider) world c.new.ensures);
      queues = subst (λ (jobs : List Job). AreJobs (state_of world.past) jobs c.new-5.result.items) (sym c.new-4.ensures.items)
          (subst (λ (offered : List Offered). AreJobs (state_of world.past) [] offered) (sym c.new-5.ensures.items) (first_jobs world c.new.ensures));
    }
