use Rattle.std.proofs.Common.{◌≡◌, ◌∙◌, ◌-◌, false, true, sym, ap, arith, rules}
use Rattle.world_tables.specs.Told.{Told}
use Rattle.file_model.specs.Room.{ends_of}
use Rattle.file_model.proofs.OpenOperations.{ends-ended}
use Rattle.file_model.proofs.operations.end_in_room.Goals as goal

pub give_room-requires : goal.give_room-requires
give_room-requires c =
    let less = ends-ended c.args.operations.now c.remove.new.self c.args.who c.in-Some.operation (sym c.remove.ensures.value ∙ c.in-Some.is) c.remove.ensures.entries in
    let whole : c.in-Some.operation.hurt ≡ false = search rules in
    let two : ends_of c.in-Some.operation.hurt ≡ 2 = ap ends_of whole in
    omega (arith, c.requires, less, two)

pub returns-then-not-operation-clause-room : goal.returns-then-not-operation-clause-room
returns-then-not-operation-clause-room c =
    let less = ends-ended c.args.operations.now c.remove.new.self c.args.who c.in-Some.operation (sym c.remove.ensures.value ∙ c.in-Some.is) c.remove.ensures.entries in
    let whole : c.in-Some.operation.hurt ≡ false = search rules in
    let two : ends_of c.in-Some.operation.hurt ≡ 2 = ap ends_of whole in
    let given : c.give_room.new.self.room ≡ c.args.book.now.room - 1 = ap (λ (t : Told). t.room) c.give_room.ensures in
    omega (arith, c.requires, less, two, given)

pub returns-else-not-operation-clause-room : goal.returns-else-not-operation-clause-room
returns-else-not-operation-clause-room c =
    let less = ends-ended c.args.operations.now c.remove.new.self c.args.who c.in-Some.operation (sym c.remove.ensures.value ∙ c.in-Some.is) c.remove.ensures.entries in
    let hurt : c.in-Some.operation.hurt ≡ true = search rules in
    let one : ends_of c.in-Some.operation.hurt ≡ 1 = ap ends_of hurt in
    omega (arith, less, one)
