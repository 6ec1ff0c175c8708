use Rattle.std.proofs.Common.{◌≡◌, ◌∙◌, ℕ, List, true, refl, ap, rules}
use Rattle.std.proofs.lemmas.Result.{on_ok_weaker}
use Rattle.file_log.specs.declared.item.LogItem.{LogItem}
use Rattle.file_log.specs.declared.item.LogItem.TheVariants.{Install}
use Rattle.sim_world.specs.Played.{IsAbsent}
use Rattle.sim_world.specs.Scene.{Scene, told}
use Rattle.sim_world.specs.Stages.{scene_from, scene_of}
use Rattle.sim_world.proofs.Turning.{either_seated, either_jobs, absent_scene, unseated_scene, turn_applied}
use Rattle.sim_world.proofs.stage.Stage.install.Goals as goal

pub returns-clause-order : goal.returns-clause-order
returns-clause-order c =
    let old = c.args.self.now in
    let item = Install c.args.root c.in_ok-name.name c.in_ok-main.main c.in_ok-index.index in
    let installed = c.install.ensures in
    record {
      seated = either_seated c.install.result old.world c.install.new.self old.seats.items item c.requires.seated installed.ok installed.err refl installed.legal;
      queues = either_jobs c.install.result old.world c.install.new.self item old.jobs.items old.offered.items installed.ok installed.err tt c.requires.queues;
    }

pub returns-clause-plays : goal.returns-clause-plays
returns-clause-plays c =
    let old = c.args.self.now in
    let root = c.args.root in
    let scene : Scene = scene_of old in
    let new : Scene = scene_from c.install.new.self old.seats.items old.failing.items old.jobs.items in
    let yes : c.in_ok-absent.absent ≡ true = search rules in
    let absent : IsAbsent scene root c.args.name.now = (absent_scene old.world old.seats.items old.failing.items old.jobs.items root c.args.name.now c.requires.seated.start).1 (c.in_ok-absent.ensures.0 yes) in
    let item : LogItem = Install root c.in_ok-name.name c.in_ok-main.main c.in_ok-index.index in
    let same : item ≡ Install root c.args.name.now c.args.main.now c.args.index.now =
    ap (λ (name : List ℕ). Install root name c.in_ok-main.main c.in_ok-index.index) c.in_ok-name.ensures
    ∙ ap (λ (main : List ℕ). Install root c.args.name.now main c.in_ok-index.index) c.in_ok-main.ensures
    ∙ ap (λ (index : List ℕ). Install root c.args.name.now c.args.main.now index) c.in_ok-index.ensures in
    on_ok_weaker c.install.result
    (λ told_is. turn_applied scene new absent (unseated_scene old.world c.install.new.self old.seats.items old.failing.items old.jobs.items item told_is ∙ ap (told scene) same))
    c.install.ensures.ok
