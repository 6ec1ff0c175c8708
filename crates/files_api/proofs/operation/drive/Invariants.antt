use Rattle.std.proofs.Common.{◌≡◌, ℕ, true}
use Rattle.files_api.proofs.Driving.{SoFar}
use Rattle.files_api.proofs.operation.drive.Given as goal

abbrev pub invariant-calls : goal.invariant-calls
invariant-calls g l =
    let m = g.M.Machine in
    let f = g.F.Files in
    record {
      right : m.right l.machine;
      slots : (at : ℕ) → (f.seen l.files).filled at ≡ m.slots l.machine at;
      calm : (f.seen l.files).hurt ≡ true → m.hurt l.machine ≡ true;
      inside : (f.seen l.files).inside ≡ true;
      me : f.me l.files ≡ f.me l.fn.files;
      so_far : SoFar m.asks m.asked m.fed (f.me l.fn.files) (m.left l.fn.machine) (m.left l.machine) l.fn.machine l.machine (f.history l.fn.files) (f.history l.files) (f.faults l.fn.files) (f.faults l.files);
    }

abbrev pub decreases-calls : goal.decreases-calls
decreases-calls g l = g.M.Machine.left l.machine
