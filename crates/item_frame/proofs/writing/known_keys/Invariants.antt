use Rattle.std.proofs.Common.{length}
use Rattle.item_frame.proofs.KeysLaws.{AreWhole}
use Rattle.item_frame.proofs.writing.known_keys.Given as goal

abbrev pub invariant-loop-rest : goal.invariant-loop-rest
invariant-loop-rest l = AreWhole l.rest → AreWhole l.keys

abbrev pub decreases-loop-rest : goal.decreases-loop-rest
decreases-loop-rest l = length l.rest
