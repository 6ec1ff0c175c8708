use Rattle.std.proofs.Common.{◌∙◌, ap₂, sym, subst, Option}
use Rattle.file_log.specs.Disk.{Disk}
use Rattle.log_summary.specs.Summary.{Operation}
use Rattle.rule_checks.specs.Tests.{ends_well}
use Rattle.operation_ledger.specs.Operations.{Holds, operation_of}
use Rattle.operation_ledger.proofs.Says.{inside_is}
use Rattle.operation_ledger.proofs.Seating.{if_ok}
use Rattle.operation_ledger.proofs.operations.Operations.ends_well.Goals as goal

pub returns-in-Some : goal.returns-in-Some
returns-in-Some c = if_ok c.ends_well.result c.ends_well.ensures (λ told h s a disk.
    let found = sym c.in-Some.ensures.value in
    let i = inside_is s.had s.state.disk (operation_of c.args.self.now c.args.who) c.in-Some.operation.now (s.inside c.args.who) found (a.inside c.args.who) in
    h s.had i.0 (subst (λ (d : Disk). Holds s.had d c.in-Some.operation.now i.0) (sym disk) i.2)
    ∙ ap₂ (λ (d : Disk) (o : Option Operation). ends_well c.args.rough d o c.args.answer.now) disk (sym i.1))
