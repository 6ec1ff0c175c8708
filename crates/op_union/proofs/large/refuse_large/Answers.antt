use Rattle.std.proofs.Common.{of_calls}
use Rattle.folder_store.proofs.Keeping.{idle_in}
use Rattle.op_union.proofs.Refusing.{refused_large}
use Rattle.op_union.proofs.large.refuse_large.Goals as goal

pub returns-clause-refused : goal.returns-clause-refused
returns-clause-refused g c =
    let f = g.F.Files in
    let a = c.args in
    let old = a.files.now in
    let new = c.operate.new.files in
    let idle = idle_in (f.me old) (f.seen old) (f.history old) c.requires.idle c.known.ensures in
    refused_large (f.me old) a.request a.n (f.history old) (f.history new) (f.faults old) (f.faults new) c.operate.result c.requires.large idle _ (λ m made. search of_calls) c.operate.ensures.ended
