use Rattle.sim_world.proofs.Turning.{goes_on_scene}
use Rattle.sim_world.proofs.stage.Stage.goes_on.Goals as goal

pub returns-clause-scene : goal.returns-clause-scene
returns-clause-scene c = goes_on_scene c.args.self.now.world c.args.process c.is_halted.result c.requires.seated.start c.is_halted.ensures
