use Rattle.std.proofs.Common.{◌≡◌, ◌∙◌, ◌++◌, [], ◌+◌, List, length, take, drop, ap, sym, subst, append_assoc, arith, length-append}
use Rattle.std.proofs.lemmas.List.{append-nil, take_all}
use Rattle.file_log.specs.declared.item.LogItem.{LogItem}
use Rattle.file_model.specs.Held.{first_of}
use Rattle.world_tables.specs.declared.piece.Piece.{Piece}
use Rattle.world_tables.specs.Pieces.{items_of_piece, items_of_pieces, items_grown}
use Rattle.file_model.proofs.Replays.{can_go_on, goes_on, pieces-more, pieces-whole}
use Rattle.file_model.proofs.world.World.first_items.Goals as goal

pub replay_piece-requires : goal.replay_piece-requires
replay_piece-requires c =
    let pieces = c.pieces.result.0.now in
    let grown = items_grown c.pieces.result.1.now in
    let i = c.loop-piece.piece-index in
    let piece = c.piece-item.result in
    let done = items_of_pieces (take i pieces) in
    let rest = items_of_pieces (drop (i + 1) pieces) in
    let whole = c.pieces.ensures.items ∙ ap (λ (log : List LogItem). log ++ grown) (pieces-whole pieces i piece c.loop-piece-test.true c.piece-item.is) ∙ append_assoc (done ++ items_of_piece piece) rest grown in
    can_go_on c.args.n c.loop-piece.left c.args.self.now c.loop-piece.world done (items_of_piece piece) (rest ++ grown) c.loop-piece.invariant.world c.loop-piece.invariant.left c.pieces.ensures.legal whole

pub loop-piece-preserved : goal.loop-piece-preserved
loop-piece-preserved c =
    let pieces = c.pieces.result.0.now in
    let i = c.loop-piece.piece-index in
    let piece = c.piece-item.result in
    let done = items_of_pieces (take i pieces) in
    let more : items_of_pieces (take (i + 1) pieces) ≡ done ++ items_of_piece piece = pieces-more pieces i piece c.loop-piece-test.true c.piece-item.is in
    let world = goes_on c.args.n c.loop-piece.left c.args.self.now c.loop-piece.world c.replay_piece.new.self done (items_of_piece piece) c.loop-piece.invariant.world c.loop-piece.invariant.left c.in_ok-replay_piece.ensures in
    record {
      world = subst (λ (log : List LogItem). c.replay_piece.new.self ≡ first_of c.args.n (record { past = record { start = c.args.self.now.past.start; log = log }; clock = c.args.self.now.clock })) (sym more) world;
      left = omega (arith, c.saturating_sub-left.ensures, c.len_of_piece.ensures, c.loop-piece.invariant.left, ap length more, length-append done (items_of_piece piece));
    }

pub replay_growing-requires : goal.replay_growing-requires
replay_growing-requires c =
    let pieces = c.pieces.result.0.now in
    let grown = items_grown c.pieces.result.1.now in
    let all : take c.loop-piece.piece-index pieces ≡ pieces = take_all c.loop-piece.piece-index pieces c.loop-piece-test.false in
    let whole = c.pieces.ensures.items ∙ ap (λ (ps : List Piece). items_of_pieces ps ++ grown) (sym all) ∙ sym (append-nil (items_of_pieces (take c.loop-piece.piece-index pieces) ++ grown)) in
    can_go_on c.args.n c.loop-piece.left c.args.self.now c.loop-piece.world (items_of_pieces (take c.loop-piece.piece-index pieces)) grown [] c.loop-piece.invariant.world c.loop-piece.invariant.left c.pieces.ensures.legal whole

pub returns : goal.returns
returns c =
    let pieces = c.pieces.result.0.now in
    let grown = items_grown c.pieces.result.1.now in
    let all : take c.loop-piece.piece-index pieces ≡ pieces = take_all c.loop-piece.piece-index pieces c.loop-piece-test.false in
    let whole = c.pieces.ensures.items ∙ ap (λ (ps : List Piece). items_of_pieces ps ++ grown) (sym all) in
    let world = goes_on c.args.n c.loop-piece.left c.args.self.now c.loop-piece.world c.replay_growing.new.self (items_of_pieces (take c.loop-piece.piece-index pieces)) grown c.loop-piece.invariant.world c.loop-piece.invariant.left c.in_ok-replay_growing.ensures in
    subst (λ (log : List LogItem). c.replay_growing.new.self ≡ first_of c.args.n (record { past = record { start = c.args.self.now.past.start; log = log }; clock = c.args.self.now.clock })) (sym whole) world
