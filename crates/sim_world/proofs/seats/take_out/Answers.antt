use Rattle.std.proofs.Common.{◌≡◌, ◌<◌, ◌∙◌, Some, ap, sym, length, arith}
use Rattle.sim_world.specs.declared.seats.Seat.{Seat}
use Rattle.sim_world.specs.Tables.{place_in}
use Rattle.sim_world.proofs.SeatTable.{found_there, out_there, once_there, missed, none_out}
use Rattle.sim_world.proofs.seats.take_out.Goals as goal

pub returns-then-place-len-clause-task : goal.returns-then-place-len-clause-task
returns-then-place-len-clause-task c =
    let seats = c.args.seats.now in
    let place : c.place_of-place.result ≡ place_in c.args.who seats.items = c.place_of-place.ensures ∙ ap (place_in c.args.who) c.deref.ensures.value in
    let less : c.place_of-place.result < length seats.items = omega (arith, seats.ok.0) in
    ap (λ (seat : Seat). Some seat.task) c.remove-seat.ensures.value ∙ sym (found_there c.args.who seats.items c.remove-seat.result c.place_of-place.result place less)

pub returns-then-place-len-clause-others : goal.returns-then-place-len-clause-others
returns-then-place-len-clause-others c = λ w.
    let seats = c.args.seats.now in
    let place : c.place_of-place.result ≡ place_in c.args.who seats.items = c.place_of-place.ensures ∙ ap (place_in c.args.who) c.deref.ensures.value in
    let less : c.place_of-place.result < length seats.items = omega (arith, seats.ok.0) in
    rw c.remove-seat.ensures.items (out_there c.args.who seats.items w c.place_of-place.result place less c.requires)

pub returns-then-place-len-clause-once : goal.returns-then-place-len-clause-once
returns-then-place-len-clause-once c =
    let seats = c.args.seats.now in
    let place : c.place_of-place.result ≡ place_in c.args.who seats.items = c.place_of-place.ensures ∙ ap (place_in c.args.who) c.deref.ensures.value in
    let less : c.place_of-place.result < length seats.items = omega (arith, seats.ok.0) in
    rw c.remove-seat.ensures.items (once_there c.args.who seats.items c.place_of-place.result place less c.requires)

pub returns-clause-task : goal.returns-clause-task
returns-clause-task c =
    let seats = c.args.seats.now in
    let place : c.place_of-place.result ≡ place_in c.args.who seats.items = c.place_of-place.ensures ∙ ap (place_in c.args.who) c.deref.ensures.value in
    sym (missed c.args.who seats.items (omega (arith, place, seats.ok.0)))

pub returns-clause-others : goal.returns-clause-others
returns-clause-others c = λ w.
    let seats = c.args.seats.now in
    let place : c.place_of-place.result ≡ place_in c.args.who seats.items = c.place_of-place.ensures ∙ ap (place_in c.args.who) c.deref.ensures.value in
    none_out c.args.who seats.items w (missed c.args.who seats.items (omega (arith, place, seats.ok.0)))
