use Rattle.std.proofs.Common.{true}
use Rattle.file_model.specs.declared.operations.OpenOperation.{OpenOperation}
use Rattle.file_model.specs.Operations.{operation_of}
use Rattle.file_model.proofs.OpenOperations.{whole_is, ends-hurt}
use Rattle.file_model.proofs.operations.hurt.Goals as goal

pub returns-in-Some-clause-ends : goal.returns-in-Some-clause-ends
returns-in-Some-clause-ends c =
    let old = c.args.operations.now in
    let who = c.args.who in
    let hurt : OpenOperation = record { hurt = true } in
    ends-hurt old (c.get_mut.follows.lender hurt) who (whole_is (operation_of old who) c.requires) (c.get_mut.follows.holds hurt).0
