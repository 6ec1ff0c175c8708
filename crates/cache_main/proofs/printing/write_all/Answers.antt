use Rattle.cache_main.proofs.Pieces.{goes_on, range_is}
use Rattle.cache_main.proofs.printing.write_all.Goals as goal

pub pieces-preserved : goal.pieces-preserved
pieces-preserved g c =
    let k = g.K.Sink in
    let w = c.in-Some.ensures.written in
    goes_on c.args.bytes.now c.pieces.rest.now _ (k.written c.args.out.now) (k.written c.pieces.out) (k.written c.write.new.self) (k.faults c.args.out.now) (k.faults c.pieces.out) (k.faults c.write.new.self) c.in-Some.n c.pieces.invariant w.0 w.2 c.in-Some.ensures.cause.later (range_is c.in-Some.n c.pieces.rest.now)
