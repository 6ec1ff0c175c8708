use Rattle.rule_cases.proofs.Keeping.{entries_keep}
use Rattle.rule_cases.proofs.entries_keep_bytes.Goals as goal

pub returns : goal.returns
returns c = entries_keep
