use Rattle.std.proofs.Common.{arith}
use Rattle.op_union.proofs.Untold.{untold}
use Rattle.op_union.proofs.put.put_in_folder.Goals as goal

pub returns-in_default-copy-clause-done : goal.returns-in_default-copy-clause-done
returns-in_default-copy-clause-done g c =
    let f = g.F.Files in
    let old = c.args.files.now in
    untold (f.me old) c.args.request (f.history old) (f.faults old) c.requires.put (rw c.in-Put.is omega (arith, c.if-len.false, c.len-len.ensures))
