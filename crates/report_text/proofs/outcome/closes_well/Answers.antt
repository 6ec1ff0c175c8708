use Rattle.std.proofs.Common.{refl}
use Rattle.report_text.proofs.Endings.{closed}
use Rattle.report_text.proofs.outcome.closes_well.Goals as goal

pub returns-then-is_no_damage : goal.returns-then-is_no_damage
returns-then-is_no_damage c = rw (closed c.args.last.now, ← c.is_no_damage.ensures, c.if-is_no_damage.true) refl

pub returns-else-is_no_damage : goal.returns-else-is_no_damage
returns-else-is_no_damage c =
    rw (closed c.args.last.now, ← c.is_no_damage.ensures, c.if-is_no_damage.false, ← c.as_bytes.ensures.value) c.ends_well.ensures
