use Rattle.std.proofs.Common.{◌≡◌, ◌∙◌, Some, true, sym, ap, subst, rules}
use Rattle.op_machine.specs.Requests.{IsBuilt}
use Rattle.sim_world.specs.declared.seats.Task.TheVariants.{Asked}
use Rattle.sim_world.specs.Played.{IsFree}
use Rattle.sim_world.specs.Stages.{apart_of, scene_of, AreSeated}
use Rattle.sim_world.specs.Tables.{seats_with}
use Rattle.sim_world.proofs.Turning.{asked_seated, free_none}
use Rattle.sim_world.proofs.stage.Stage.start.Goals as goal

pub returns-clause-order : goal.returns-clause-order
returns-clause-order c =
    let old = c.args.self.now in
    let who = c.args.who in
    let request = c.in_ok-request.request in
    let yes : c.may_start.result ≡ true = search rules in
    let may : IsFree (scene_of old) who × IsBuilt c.args.request.now = c.may_start.ensures.0 yes in
    let put : c.put_in.new.seats.items ≡ seats_with who (Some (Asked request)) old.seats.items = c.put_in.ensures ∙ ap (seats_with who (Some (Asked request))) c.reserve.ensures.items in
    record {
      seated = subst (AreSeated (apart_of old.outsider) old.world) (sym put)
          (asked_seated old.world old.seats.items who request c.requires.seated (free_none old.seats.items who may.0.1) (subst IsBuilt (sym c.in_ok-request.ensures) may.1));
      queues = c.requires.queues;
    }
