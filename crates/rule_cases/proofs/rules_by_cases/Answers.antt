use Rattle.rule_cases.proofs.Everywhere.{tested_by_cases}
use Rattle.rule_cases.proofs.rules_by_cases.Goals as goal

pub returns : goal.returns
returns c = tested_by_cases
