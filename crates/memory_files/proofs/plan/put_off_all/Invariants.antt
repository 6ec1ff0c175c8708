use Rattle.std.proofs.Common.{◌≡◌, ◌++◌, map, take, drop}
use Rattle.memory_files.specs.Plans.{put_off}
use Rattle.memory_files.proofs.plan.put_off_all.Given as goal

abbrev pub invariant-loop-fault : goal.invariant-loop-fault
invariant-loop-fault l = l.faults ≡ map (put_off l.number) (take l.fault-index l.initial.faults) ++ drop l.fault-index l.initial.faults
