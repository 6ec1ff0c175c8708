use Rattle.std.proofs.Common.{◌≤◌, ◌∙◌, length, List, Option, refl, sym, ap, subst, rules}
use Rattle.std.proofs.lemmas.List.{take_all}
use Rattle.cache_types.specs.declared.seat.Who.{Who}
use Rattle.file_model.specs.Held.{Held}
use Rattle.sim_world.specs.declared.turn.Turn.{Turn}
use Rattle.sim_world.specs.Plays.{IsPlayed}
use Rattle.sim_world.specs.Played.{concerns, Comes}
use Rattle.sim_world.specs.Scene.{opening}
use Rattle.sim_world.specs.Stages.{scene_of}
use Rattle.sim_world.proofs.Ordered.{alone_cooperate, alone_operate}
use Rattle.sim_world.proofs.Schedules.{comes_next}
use Rattle.sim_world.proofs.playing.play.Goals as goal

pub loop-turn-preserved : goal.loop-turn-preserved
loop-turn-preserved c =
    let turn = c.in_ok-turn.ensures in
    let before = c.loop-turn.invariant in
    let plays = turn.plays (ap (λ (outsider : Option Who). concerns outsider c.turn-item.result) before.outsider) in
    record {
      order = turn.order;
      outsider = turn.outsider ∙ before.outsider;
      comes = comes_next opening (scene_of c.loop-turn.stage) (scene_of c.turn.new.self) c.args.schedule.now c.loop-turn.turn-index c.turn-item.result c.loop-turn-test.true c.turn-item.is before.comes plays;
    }

pub returns : goal.returns
returns c =
    let stage = c.loop-turn.stage in
    let schedule = c.args.schedule.now in
    let kept = c.loop-turn.invariant in
    let seated = kept.order.seated in
    let end : length schedule ≤ c.loop-turn.turn-index = search rules in
    let played : IsPlayed schedule stage.world.past = record {
      start = seated.start;
      legal = seated.legal;
      played = (scene_of stage, subst (λ (turns : List Turn). Comes opening turns (scene_of stage)) (take_all c.loop-turn.turn-index schedule end) kept.comes, refl);
      cooperating = alone_cooperate stage.outsider stage.world stage.seats.items seated kept.outsider;
      operations = alone_operate stage.outsider stage.world stage.seats.items seated kept.outsider;
    } in
    subst (λ (world : Held). IsPlayed schedule world.past) (sym c.into_world.ensures) played
