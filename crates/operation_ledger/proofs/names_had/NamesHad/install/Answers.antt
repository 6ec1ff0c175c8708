use Rattle.std.proofs.Common.{◌∙◌}
use Rattle.operation_ledger.specs.NameLists.{names_at}
use Rattle.operation_ledger.proofs.names_had.NamesHad.install.Goals as goal

pub returns-in-Err-clause-err : goal.returns-in-Err-clause-err
returns-in-Err-clause-err c = c.take_back.ensures (names_at c.args.self.now.files.items) _ (λ f. c.in-Err.ensures.err f ∙ c.in_ok-add.ensures.ok f)
