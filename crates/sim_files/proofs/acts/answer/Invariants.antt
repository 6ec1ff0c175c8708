use Rattle.std.proofs.Common.{◌≡◌, Some}
use Rattle.sim_world.specs.Stages.{InOrder}
use Rattle.sim_files.proofs.Calling.{IsMade, left_of}
use Rattle.sim_files.proofs.acts.answer.Given as goal

abbrev pub invariant-items : goal.invariant-items
invariant-items l = record {
  order : InOrder l.stage;
  outsider : l.stage.outsider ≡ Some l.me;
  made : IsMade l.me l.call l.done l.fn.stage.world.past l.stage.world.past;
}

abbrev pub decreases-items : goal.decreases-items
decreases-items l = left_of l.call l.done
