use Rattle.std.proofs.Common.{of_calls}
use Rattle.folder_store.proofs.Keeping.{idle_in}
use Rattle.folder_store.proofs.WholeLookup.{looked_up}
use Rattle.folder_store.proofs.lookup.folder_get.Goals as goal

pub returns-clause-looked : goal.returns-clause-looked
returns-clause-looked g c =
    let f = g.F.Files in
    let a = c.args in
    let old = a.files.now in
    let new = c.operate.new.files in
    let idle = idle_in (f.me old) (f.seen old) (f.history old) c.requires c.known-2.ensures in
    looked_up (f.me old) a.request a.root a.driver a.key (f.history old) (f.history new) (f.faults old) (f.faults new) c.operate.result idle _ (λ m made. search of_calls) c.known.ensures.fits c.operate.ensures.ended
