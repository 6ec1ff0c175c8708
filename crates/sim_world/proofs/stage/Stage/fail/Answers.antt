use Rattle.std.proofs.Common.{◌≡◌, true, refl, rules}
use Rattle.std.proofs.lemmas.Result.{on_ok_weaker}
use Rattle.sim_world.specs.Played.{GoesOn, first_of}
use Rattle.sim_world.specs.Scene.{Scene, with_failing}
use Rattle.sim_world.specs.Stages.{scene_from, scene_of}
use Rattle.sim_world.proofs.Scenes.{same_scene}
use Rattle.sim_world.proofs.Turning.{turn_applied}
use Rattle.sim_world.proofs.stage.Stage.fail.Goals as goal

pub returns-clause-plays : goal.returns-clause-plays
returns-clause-plays c =
    let old = c.args.self.now in
    let who = c.args.who in
    let scene : Scene = scene_of old in
    let new : Scene = scene_from old.world old.seats.items c.fail_next.new.failing.items old.jobs.items in
    let yes : c.goes_on.result ≡ true = search rules in
    let goes : GoesOn scene who.process = c.goes_on.ensures.scene.0 yes in
    on_ok_weaker c.fail_next.result (λ waits. turn_applied scene new goes (same_scene new (with_failing scene who (first_of (scene.failing who) c.args.memory)) refl refl (λ v. refl) waits (λ p. refl))) c.fail_next.ensures.ok
