use Rattle.std.proofs.Common.{◌≡◌, ◌+◌, ◌<◌, ap, arith, rules}
use Rattle.std.specs.HashMap.{spare}
use Rattle.world_tables.specs.Told.{Told}
use Rattle.file_model.proofs.OpenOperations.{AreSame-reordered, ends-begun}
use Rattle.file_model.proofs.operations.begin_in_room.Goals as goal

pub returns-in_err-make_room-clause-err : goal.returns-in_err-make_room-clause-err
returns-in_err-make_room-clause-err c = search (rules, AreSame-reordered c.args.operations.now c.reserve.new.self c.reserve.ensures.entries)

pub returns-clause-room : goal.returns-clause-room
returns-clause-room c =
    let reserved = c.reserve.new.self in
    let same = AreSame-reordered c.args.operations.now reserved c.reserve.ensures.entries in
    let spare_one : 0 < spare reserved = omega (arith, c.in_ok-reserve.ensures.ok) in
    let inserted = c.insert-begun.ensures in
    let more = ends-begun reserved c.insert-begun.new.self c.args.who c.insert-begun.result (inserted.succeeds spare_one) inserted.old inserted.entries in
    let taken : c.make_room.new.self.room ≡ c.args.book.now.room + 3 = ap (λ (t : Told). t.room) c.in_ok-make_room.ensures.ok in
    omega (arith, same.ends_are, more, taken)
