use Rattle.std.proofs.Common.{◌∙◌, ap}
use Rattle.world_tables.specs.Locks.{lock_by}
use Rattle.std.specs.FinMap.{get}
use Rattle.world_tables.proofs.Holding.{freed_process}
use Rattle.world_tables.proofs.locks.free_all.Goals as goal

pub returns : goal.returns
returns c = λ f. ap lock_by (c.free_all.ensures f) ∙ freed_process c.args.process (get c.args.locks.now f)
