use Rattle.std.proofs.Common.{◌≡◌, ◌++◌, length}
use Rattle.item_frame.specs.Reading.{keys_in}
use Rattle.item_frame.proofs.fields.keys_of.Given as goal

abbrev pub invariant-loop-key : goal.invariant-loop-key
invariant-loop-key l = l.keys ++ keys_in l.rest ≡ keys_in l.bytes

abbrev pub decreases-loop-key : goal.decreases-loop-key
decreases-loop-key l = length l.rest
