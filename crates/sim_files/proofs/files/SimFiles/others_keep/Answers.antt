use Rattle.sim_files.proofs.Keeping.{others_keep_in}
use Rattle.sim_files.proofs.files.SimFiles.others_keep.Goals as goal

pub returns : goal.returns
returns c = others_keep_in c.self.inside.stage.outsider c.self.inside.me c.self.inside.stage.world c.self.inside.stage.seats.items c.args.self.now c.self.view_is c.self.invariant.order.seated c.self.invariant.outsider
