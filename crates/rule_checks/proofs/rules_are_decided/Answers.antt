use Rattle.rule_checks.proofs.Everywhere.{decided, decided_along}
use Rattle.rule_checks.proofs.rules_are_decided.Goals as goal

pub returns : goal.returns
returns c = record { places = decided; along = decided_along }
