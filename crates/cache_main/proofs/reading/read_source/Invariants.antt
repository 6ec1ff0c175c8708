use Rattle.std.proofs.Common.{◌+◌, ◌-◌}
use Rattle.cache_types.specs.declared.limits.TheConstants.{MAX_ITEM}
use Rattle.cache_main.proofs.Taking.{HasTaken}
use Rattle.cache_main.proofs.reading.read_source.Given as goal

abbrev pub invariant-pieces : goal.invariant-pieces
invariant-pieces g l =
    let s = g.S.Source in
    HasTaken l.buffer.items l.filled (s.left l.fn.source) (s.left l.source) (s.faults l.fn.source) (s.faults l.source)

abbrev pub decreases-pieces : goal.decreases-pieces
decreases-pieces g l = MAX_ITEM + 1 - l.filled
