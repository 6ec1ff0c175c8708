use Rattle.std.proofs.Common.{◌≡◌, true}
use Rattle.std.specs.List.{list_any}
use Rattle.rule_checks.specs.Tests.{same_blob}
use Rattle.operation_ledger.proofs.Learning.{known_already}
use Rattle.operation_ledger.proofs.given.learn.Goals as goal

pub returns-then-was_given-clause-ok : goal.returns-then-was_given-clause-ok
returns-then-was_given-clause-ok c =
    let told = c.was_given.ensures in
    let value = c.deref.ensures.value in
    let was = c.if-was_given.true in
    let e : list_any (same_blob c.args.given) c.args.gave.now.items ≡ true = cc in
    known_already c.args.gave.now.items c.args.given e
