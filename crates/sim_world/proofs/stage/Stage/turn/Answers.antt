use Rattle.std.proofs.Common.{OnOk, sym, subst}
use Rattle.sim_world.specs.declared.turn.Turn.{Turn}
use Rattle.sim_world.specs.Played.{Plays}
use Rattle.sim_world.specs.Stages.{scene_of}
use Rattle.sim_world.proofs.stage.Stage.turn.Goals as goal

pub returns-in-Start-clause-plays : goal.returns-in-Start-clause-plays
returns-in-Start-clause-plays c = λ other. subst (λ (turn : Turn). OnOk c.start.result (Plays (scene_of c.args.self.now) turn (scene_of c.start.new.self))) (sym c.in-Start.is) c.start.ensures.plays

pub returns-in-Install-clause-plays : goal.returns-in-Install-clause-plays
returns-in-Install-clause-plays c = λ other. subst (λ (turn : Turn). OnOk c.install.result (Plays (scene_of c.args.self.now) turn (scene_of c.install.new.self))) (sym c.in-Install.is) c.install.ensures.plays
