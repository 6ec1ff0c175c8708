use Rattle.std.proofs.Common.{◌≡◌, sym, subst}
use Rattle.file_log.specs.Effect.{applied}
use Rattle.file_log.specs.declared.item.LogItem.{LogItem}
use Rattle.log_summary.specs.Summary.{summed}
use Rattle.world_tables.specs.Tables.{disk_at}
use Rattle.operation_ledger.specs.Operations.{AreOperations}
use Rattle.operation_ledger.proofs.Seating.{on_ok, all_stay, all_go_on, other_than}
use Rattle.operation_ledger.proofs.operations.Operations.follow.Goals as goal

pub returns-in-Begin-clause-ok : goal.returns-in-Begin-clause-ok
returns-in-Begin-clause-ok c = on_ok c.begin.result c.begin.ensures.ok (λ h s a after.
    subst (λ (i : LogItem). AreOperations c.begin.new.self (summed s i)) (sym c.in-Begin.is)
    (h s a (subst (λ (i : LogItem). disk_at c.args.tables.now ≡ applied s.state.disk i) c.in-Begin.is after.disk)))

pub returns-in-None : goal.returns-in-None
returns-in-None c = record {
  ok = λ s a after. all_stay c.args.self.now s c.args.item.now (sym c.in-None.ensures) after.kept a;
  err = tt;
}

pub returns-in-Some : goal.returns-in-Some
returns-in-Some c = record {
  ok = on_ok c.go_on.result c.go_on.ensures.ok (λ h s a after.
      all_go_on c.args.self.now c.go_on.new.self s c.args.item.now c.in-Some.who (other_than c.args.item.now c.in_default.not-Begin c.in_default.not-End) (sym c.in-Some.ensures) a (h s a (sym c.in-Some.ensures) after));
  err = c.go_on.ensures.err;
}
