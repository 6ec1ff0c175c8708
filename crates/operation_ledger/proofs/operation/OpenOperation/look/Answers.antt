use Rattle.std.proofs.Common.{◌≡◌, true}
use Rattle.rule_checks.specs.Tests.{same_number}
use Rattle.world_tables.specs.Tables.{disk_at}
use Rattle.operation_ledger.specs.Entries.{entry_of}
use Rattle.operation_ledger.proofs.Going.{looks_still}
use Rattle.operation_ledger.proofs.operation.OpenOperation.look.Goals as goal

pub returns-then-same_file-clause-ok : goal.returns-then-same_file-clause-ok
returns-then-same_file-clause-ok c =
    let entry = c.entry_of-file.ensures in
    let told = c.same_file.ensures in
    let was = c.if-same_file.true in
    let e : same_number (entry_of (disk_at c.args.tables.now) c.args.self.now.request) c.args.self.now.entry ≡ true = cc in
    let l = looks_still (disk_at c.args.tables.now) c.args.self.now e in
    record { gave = l.gave; entry = l.entry }
