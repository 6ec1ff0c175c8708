use Rattle.std.proofs.Common.{refl}
use Rattle.operation_ledger.proofs.Going.{follows_holds, holds_moved}
use Rattle.operation_ledger.proofs.operation.OpenOperation.follow.Goals as goal

pub returns-clause-ok : goal.returns-clause-ok
returns-clause-ok c = λ s o h listed after.
    follows_holds c.args.names.now c.args.tables.now s c.args.item.now o _ c.look.new.self c.note.new.self listed after
    (holds_moved s.had s.state.disk c.args.self.now _ o refl refl refl refl c.reserve.ensures.items refl h)
    c.in_ok-look.ensures.ok c.look.ensures.rest c.note.ensures.row c.note.ensures.held_off c.note.ensures.failed c.note.ensures.rest
