use Rattle.std.proofs.Common.{◌≡◌, ◌+◌, ℕ, List, Option, sym, subst, rules, arith}
use Rattle.cache_types.specs.declared.limits.TheConstants.{MAX_BLOB}
use Rattle.cache_main.specs.Reading.{TakesAtMost}
use Rattle.cache_main.proofs.Taking.{begins, at_most, too_many, goes_on, whole_blob}
use Rattle.cache_main.proofs.reading.read_source.Goals as goal

pub pieces-init : goal.pieces-init
pieces-init g c = begins c.in-Ok.buffer.items (g.S.Source.left c.args.source.now) (g.S.Source.faults c.args.source.now) (omega (arith, c.in-Ok.ensures)) (omega (arith, c.in-Ok.ensures))

pub pieces-preserved : goal.pieces-preserved
pieces-preserved g c =
    let read = c.in-Some.ensures.read in
    goes_on c.pieces.buffer.items c.make_room.new.buffer.items c.read_piece.new.buffer.items c.pieces.filled c.in-Some.n _ (g.S.Source.left c.pieces.source) _ _ _ _ c.pieces.invariant c.make_room.ensures.kept (search rules) c.read_piece.ensures.kept (search rules) read.0 (search rules) read.1 c.read_piece.ensures.cause.later

pub returns-in-Some-eq0-clause-read : goal.returns-in-Some-eq0-clause-read
returns-in-Some-eq0-clause-read g c =
    whole_blob c.pieces.buffer.items c.make_room.new.buffer.items c.read_piece.new.buffer.items c.read_up_to.result c.pieces.filled c.in-Some-eq0.field-0 _ (g.S.Source.left c.pieces.source) _ _ _ c.pieces.invariant c.make_room.ensures.kept c.read_piece.ensures.kept (search rules) c.read_up_to.ensures c.pieces-test.true (search rules) c.in-Some-eq0.ensures.read.1 c.in-Some-eq0.field-0-test

pub returns-in_default-make_room-clause-taken : goal.returns-in_default-make_room-clause-taken
returns-in_default-make_room-clause-taken g c = at_most c.pieces.buffer.items c.pieces.filled _ (g.S.Source.left c.pieces.source) _ _ c.pieces.invariant

pub returns-in-Some-eq0-clause-taken : goal.returns-in-Some-eq0-clause-taken
returns-in-Some-eq0-clause-taken g c =
    let read = c.in-Some-eq0.ensures.read in
    at_most c.read_piece.new.buffer.items (c.pieces.filled + c.in-Some-eq0.field-0) _ (g.S.Source.left c.read_piece.new.source) _ _
    (goes_on c.pieces.buffer.items c.make_room.new.buffer.items c.read_piece.new.buffer.items c.pieces.filled c.in-Some-eq0.field-0 _ (g.S.Source.left c.pieces.source) (g.S.Source.left c.read_piece.new.source) _ _ _ c.pieces.invariant c.make_room.ensures.kept (search rules) c.read_piece.ensures.kept (search rules) read.0 (search rules) read.1 c.read_piece.ensures.cause.later)

pub returns-in-Failed-clause-taken : goal.returns-in-Failed-clause-taken
returns-in-Failed-clause-taken g c =
    let left = g.S.Source.left in
    subst (λ (now : Option (List ℕ)). TakesAtMost (MAX_BLOB + 1) (left c.args.source.now) now) (sym c.in-Failed.ensures.read) (at_most c.pieces.buffer.items c.pieces.filled _ (left c.pieces.source) _ _ c.pieces.invariant)

pub returns-clause-read : goal.returns-clause-read
returns-clause-read g c = too_many c.pieces.buffer.items c.pieces.filled _ (g.S.Source.left c.pieces.source) _ _ c.pieces.invariant c.pieces-test.false

pub returns-clause-taken : goal.returns-clause-taken
returns-clause-taken g c = at_most c.pieces.buffer.items c.pieces.filled _ (g.S.Source.left c.pieces.source) _ _ c.pieces.invariant
