use Rattle.world_tables.specs.Tables.{disk_at}
use Rattle.operation_ledger.proofs.Blobs.{read_is, read_none, none_then}
use Rattle.operation_ledger.proofs.entry.read_file.Goals as goal

pub returns-in-Ok : goal.returns-in-Ok
returns-in-Ok c = read_is c.args.driver.now (disk_at c.args.tables.now).files c.args.file c.in-Some.file c.bytes_of.result.now c.in-Ok.blob c.in-Some.is c.bytes_of.ensures c.in-Ok.ensures.read

pub returns-in-Err : goal.returns-in-Err
returns-in-Err c = none_then _ _ c.no_blob.result _ c.no_blob.ensures.none c.no_blob.ensures.memory
    (λ memory. read_none c.args.driver.now (disk_at c.args.tables.now).files c.args.file c.in-Some.file c.bytes_of.result.now c.in-Err.refusal c.in-Some.is c.bytes_of.ensures memory c.in-Err.ensures.refused)
