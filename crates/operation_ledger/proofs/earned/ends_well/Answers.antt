use Rattle.std.proofs.Common.{◌≡◌, true, rules}
use Rattle.seat_rules.specs.Answers.{may_end}
use Rattle.world_tables.specs.Tables.{disk_at}
use Rattle.operation_ledger.proofs.Says.{ends_held}
use Rattle.operation_ledger.proofs.earned.ends_well.Goals as goal

pub returns : goal.returns
returns c = λ had o h.
    let ends : may_end c.args.operation.now.request c.args.answer.now ≡ true = search rules in
    ends_held c.args.rough had (disk_at c.args.tables.now) c.args.operation.now o c.in_ok-lately.lately c.args.answer.now c.says_true.result ends c.in_ok-lately.ensures c.says_true.ensures h
