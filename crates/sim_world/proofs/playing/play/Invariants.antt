use Rattle.std.proofs.Common.{◌≡◌, None, take}
use Rattle.sim_world.specs.Played.{Comes}
use Rattle.sim_world.specs.Scene.{opening}
use Rattle.sim_world.specs.Stages.{InOrder, scene_of}
use Rattle.sim_world.proofs.playing.play.Given as goal

abbrev pub invariant-loop-turn : goal.invariant-loop-turn
invariant-loop-turn l = record {
  order : InOrder l.stage;
  outsider : l.stage.outsider ≡ None;
  comes : Comes opening (take l.turn-index l.schedule) (scene_of l.stage);
}
