use Rattle.world_tables.specs.Tables.{disk_at}
use Rattle.operation_ledger.proofs.Seating.{all_begun}
use Rattle.operation_ledger.proofs.operations.Operations.begin.Goals as goal

pub returns-clause-ok : goal.returns-clause-ok
returns-clause-ok c = λ s a disk.
    all_begun c.args.self.now _ s (disk_at c.args.tables.now) c.args.who c.args.request.now c.in_ok-operation.operation a disk c.in_ok-operation.ensures c.in_ok-insert.ensures.updates.0
