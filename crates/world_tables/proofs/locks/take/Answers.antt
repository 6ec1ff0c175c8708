use Rattle.std.proofs.Common.{◌≡◌, ◌∙◌, None, ap, rules}
use Rattle.std.specs.FinMap.{get}
use Rattle.world_tables.specs.Locks.{Holdings, lock_of}
use Rattle.world_tables.proofs.Holding.{lock_of-given}
use Rattle.world_tables.proofs.locks.take.Goals as goal

pub returns-in-Ok-clause-ok : goal.returns-in-Ok-clause-ok
returns-in-Ok-clause-ok c = λ f.
    let free : get c.args.locks.now c.args.file ≡ None = search rules in
    ap (λ (locks : Holdings). lock_of locks f) c.in-Ok.ensures.ok ∙ lock_of-given c.args.locks.now c.args.file c.args.holder f free
