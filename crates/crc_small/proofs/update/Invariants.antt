use Rattle.std.proofs.Common.{◌≡◌, take, fold}
use Rattle.crc_small.specs.Sum.{state_after}
use Rattle.crc_small.proofs.update.Given as goal

abbrev pub invariant-loop-eight : goal.invariant-loop-eight
invariant-loop-eight l = l.after ≡ fold state_after l.state (take l.eight-index l.eights)

abbrev pub invariant-loop-byte : goal.invariant-loop-byte
invariant-loop-byte l = l.after ≡ state_after l.initial.after (take l.byte-index l.rest)
