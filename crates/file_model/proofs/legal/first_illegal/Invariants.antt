use Rattle.std.proofs.Common.{◌≡◌, take}
use Rattle.file_log.specs.Legal.{Legal}
use Rattle.file_log.specs.State.{first, state_of}
use Rattle.file_model.specs.Held.{with_log}
use Rattle.file_model.specs.Queues.{AreQueues}
use Rattle.file_model.proofs.legal.first_illegal.Given as goal

abbrev pub invariant-loop-index : goal.invariant-loop-index
invariant-loop-index l = record {
  world : l.world ≡ with_log l.start (take l.index l.log);
  queues : AreQueues l.queues (state_of l.world.past);
  legal : Legal (first l.start.past.start) (take l.index l.log);
}
