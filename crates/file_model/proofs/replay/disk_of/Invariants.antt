use Rattle.std.proofs.Common.{◌≡◌, take}
use Rattle.file_model.specs.Held.{with_log}
use Rattle.file_model.proofs.replay.disk_of.Given as goal

abbrev pub invariant-loop-item : goal.invariant-loop-item
invariant-loop-item l = l.world ≡ with_log l.start (take l.item-index l.log)
