use Rattle.folder_changes.proofs.Earning.{idle_may_begin, meets, earns}
use Rattle.folder_changes.proofs.operations_earn_answers.Goals as goal

pub returns : goal.returns
returns c = record { beginning = idle_may_begin; meeting = meets; earning = earns }
