use Rattle.layout_rules.proofs.Placing.{hold_along, kept_by_each}
use Rattle.layout_rules.proofs.rules_hold_along_logs.Goals as goal

pub returns : goal.returns
returns c = record { along = hold_along; each = kept_by_each }
