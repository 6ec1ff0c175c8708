use Rattle.std.proofs.Common.{of_calls}
use Rattle.folder_store.specs.Put.{item_in}
use Rattle.folder_store.proofs.Keeping.{idle_in}
use Rattle.folder_store.proofs.WholePut.{put_done}
use Rattle.folder_store.proofs.putting.folder_put.Goals as goal

pub returns-clause-done : goal.returns-clause-done
returns-clause-done g c =
    let f = g.F.Files in
    let a = c.args in
    let old = a.files.now in
    let new = c.operate.new.files in
    let idle = idle_in (f.me old) (f.seen old) (f.history old) c.requires.idle c.known-2.ensures in
    put_done (f.me old) a.request a.root a.driver a.key (item_in a.request) (f.history old) (f.history new) (f.faults old) (f.faults new) c.operate.result idle _ (λ m made. search of_calls) c.known.ensures.fits c.requires.asks c.operate.ensures.ended
