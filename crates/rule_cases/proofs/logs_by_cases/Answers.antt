use Rattle.rule_cases.proofs.Everywhere.{tested_along}
use Rattle.rule_cases.proofs.logs_by_cases.Goals as goal

pub returns : goal.returns
returns c = tested_along
