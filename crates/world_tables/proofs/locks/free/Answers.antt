use Rattle.std.proofs.Common.{◌∙◌, ap}
use Rattle.world_tables.specs.Locks.{lock_by}
use Rattle.std.specs.FinMap.{get}
use Rattle.world_tables.proofs.Holding.{freed_slot}
use Rattle.world_tables.proofs.locks.free.Goals as goal

pub returns : goal.returns
returns c = λ f. ap lock_by (c.free_all.ensures f) ∙ freed_slot c.args.who c.args.slot (get c.args.locks.now f)
