use Rattle.std.proofs.Common.{sym, subst}
use Rattle.file_log.specs.Legal.{IsLegal}
use Rattle.file_log.specs.State.{first, state_of}
use Rattle.file_model.specs.Held.{Held}
use Rattle.file_model.proofs.Replays.{legal_at, next_done}
use Rattle.file_model.proofs.replay.disk_of.Goals as goal

pub repeat-requires : goal.repeat-requires
repeat-requires c =
    let here = legal_at (first c.args.start.now.past.start) c.args.log.now c.loop-item.item-index c.item-item.result c.requires c.loop-item-test.true c.item-item.is in
    subst (λ (held : Held). IsLegal (state_of held.past) c.item-item.result) (sym c.loop-item.invariant) here

pub loop-item-preserved : goal.loop-item-preserved
loop-item-preserved c =
    next_done c.args.start.now c.args.log.now c.loop-item.item-index c.loop-item.world c.repeat.new.self c.item-item.result
    c.loop-item-test.true c.item-item.is c.loop-item.invariant c.in_ok-repeat.ensures.ok
