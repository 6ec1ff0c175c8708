use Rattle.std.proofs.Common.{◌≡◌, length}
use Rattle.host_files.proofs.system.read_into.Given as goal

-- an empty slice takes no second turn
abbrev pub invariant-loop : goal.invariant-loop
invariant-loop l = length l.into ≡ 0 → l.counter ≡ 0
