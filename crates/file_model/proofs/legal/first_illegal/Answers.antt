use Rattle.std.proofs.Common.{◌≡◌, true, sym, subst, rules}
use Rattle.file_log.specs.Legal.{IsLegal}
use Rattle.file_log.specs.State.{State, after, state_of}
use Rattle.file_model.specs.Queues.{AreQueues}
use Rattle.file_model.proofs.Replays.{next_done, next_state, next_legal}
use Rattle.file_model.proofs.legal.first_illegal.Goals as goal

pub loop-index-preserved : goal.loop-index-preserved
loop-index-preserved c =
    let start = c.args.start.now in
    let log = c.args.log.now in
    let i = c.loop-index.index in
    let world = c.loop-index.world in
    let new = c.repeat.new.self in
    let item = c.index-log-index.result in
    let can : c.in_ok-can_come.field-0 ≡ true = search rules in
    let here : IsLegal (state_of world.past) item = c.in_ok-can_come.ensures.0 can in
    let followed : AreQueues c.follow.new.self (after (state_of world.past) item) = c.in_ok-follow.ensures (state_of world.past) c.loop-index.invariant.queues in
    record {
      world = next_done start log i world new item c.loop-index-test.true c.index-log-index.is c.loop-index.invariant.world c.in_ok-repeat.ensures.ok;
      queues = subst (λ (s : State). AreQueues c.follow.new.self s) (sym (next_state world new item c.in_ok-repeat.ensures.ok)) followed;
      legal = next_legal start log i world item c.loop-index-test.true c.index-log-index.is c.loop-index.invariant.world c.loop-index.invariant.legal here;
    }
