use Rattle.std.proofs.Common.{◌∙◌}
use Rattle.operation_ledger.proofs.Seating.{if_ok}
use Rattle.world_log.proofs.Telling.{renaming_told, removing_told}
use Rattle.world_log.proofs.ledger.Ledger.passes_call.Goals as goal

pub returns-in-Rename : goal.returns-in-Rename
returns-in-Rename c = rw c.in-Rename.is (if_ok c.passes_renaming.result c.passes_renaming.ensures (λ may h s carries disk.
    h s.puts carries.rest.puts ∙ renaming_told s c.args.self.now c.args.tables.now c.args.who c.in-Rename.from c.in-Rename.to carries.rest disk))

pub returns-in-Remove : goal.returns-in-Remove
returns-in-Remove c = rw c.in-Remove.is (λ s carries disk.
    c.passes_removing.ensures s.puts carries.rest.puts ∙ removing_told s c.args.self.now c.args.tables.now c.args.who c.in-Remove.name carries.rest disk)
