use Rattle.std.proofs.Common.{length}
use Rattle.cache_main.proofs.Pieces.{Stands}
use Rattle.cache_main.proofs.printing.write_all.Given as goal

abbrev pub invariant-pieces : goal.invariant-pieces
invariant-pieces g l =
    let k = g.K.Sink in
    Stands l.bytes l.rest (k.written l.fn.out) (k.written l.out) (k.faults l.fn.out) (k.faults l.out)

abbrev pub decreases-pieces : goal.decreases-pieces
decreases-pieces g l = length l.rest
