use Rattle.std.proofs.Common.{rules}
use Rattle.std.proofs.lemmas.Fn.{filter_same}
use Rattle.operation_ledger.proofs.Counting.{is_other, tries_of-forgotten}
use Rattle.operation_ledger.proofs.tries.forget.Goals as goal

pub returns-clause-tries : goal.returns-clause-tries
returns-clause-tries c = λ f.
    let e = filter_same _ (is_other c.args.file) _ (λ x b f h. search rules) _ _ c.retain.ensures.filtered in
    rw e (tries_of-forgotten c.args.file _ f)
