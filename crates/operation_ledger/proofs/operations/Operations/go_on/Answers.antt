use Rattle.std.proofs.Common.{◌≡◌, Some, sym, refl}
use Rattle.std.specs.Prelude.{IsSome}
use Rattle.operation_ledger.specs.Operations.{operation_of}
use Rattle.operation_ledger.proofs.Seating.{on_ok, err_then, goes_one, goes_none, held_still}
use Rattle.operation_ledger.proofs.operations.Operations.go_on.Goals as goal

pub returns-in-None-clause-ok : goal.returns-in-None-clause-ok
returns-in-None-clause-ok c = λ s a seat after.
    goes_none c.args.who c.args.self.now (record { alloc = c.args.self.now.alloc; held = c.get_mut.follows.lender-at-none }) s c.args.item.now a after.kept (sym c.in-None.ensures.value) (rw c.get_mut.follows.holds-at-none refl)

pub returns-in-Some-clause-ok : goal.returns-in-Some-clause-ok
returns-in-Some-clause-ok c =
    let found : operation_of c.args.self.now c.args.who ≡ Some c.in-Some.operation.now = sym c.in-Some.ensures.value in
    let some : IsSome (operation_of c.args.self.now c.args.who) = rw found refl in
    on_ok c.follow.result c.follow.ensures.ok (λ h s a seat after.
    goes_one c.args.who c.args.self.now (record { alloc = c.args.self.now.alloc; held = c.get_mut.follows.lender c.follow.new.self }) s c.args.item.now c.in-Some.operation.now c.follow.new.self a after.kept found ((c.get_mut.follows.holds c.follow.new.self).3 some).0
    (λ o held. h s o held a.listed after))

pub returns-in-Some-clause-err : goal.returns-in-Some-clause-err
returns-in-Some-clause-err c =
    let found : operation_of c.args.self.now c.args.who ≡ Some c.in-Some.operation.now = sym c.in-Some.ensures.value in
    let some : IsSome (operation_of c.args.self.now c.args.who) = rw found refl in
    err_then c.follow.result c.follow.ensures.err (λ h s a.
    held_still c.args.who c.args.self.now (record { alloc = c.args.self.now.alloc; held = c.get_mut.follows.lender c.follow.new.self }) s c.in-Some.operation.now c.follow.new.self a found ((c.get_mut.follows.holds c.follow.new.self).3 some).0 h)
