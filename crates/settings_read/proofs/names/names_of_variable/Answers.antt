use Rattle.std.proofs.Common.{◌≡◌, ◌==◌, ◌<◌, Bor, List, ℕ, length, get_or, map, take, rules, tests, sym, ap, ◌∙◌, arith}
use Rattle.std.specs.List.{slice_split}
use Rattle.std.proofs.lemmas.Iterator.Consumers.{YieldsList-turn, YieldsList-end, YieldsList-at}
use Rattle.std.proofs.lemmas.Iterator.Splits.{YieldsList-from_slice_split}
use Rattle.std.proofs.lemmas.List.{length_push, take_all}
use Rattle.settings_read.specs.Names.{names_among}
use Rattle.settings_read.proofs.Repeats.{names_among_more}
use Rattle.settings_read.proofs.names.names_of_variable.Goals as goal

pub loop-piece-preserved : goal.loop-piece-preserved
loop-piece-preserved c =
    let parts : List (List ℕ) = slice_split (λ byte. byte == 44) c.args.text.now in
    let turn : (length c.loop-piece.yielded < length parts) × (c.in-Some.piece.now ≡ get_or parts (length c.loop-piece.yielded) c.in-Some.piece.now) =
    YieldsList-turn (YieldsList-at c.into_iter-piece-iterator.ensures.into_iter_gives (YieldsList-from_slice_split _ (λ byte. byte == 44) c.args.text.now (c.split-piece-items.ensures.rest ∙ c.as_bytes.ensures.value) c.split-piece-items.ensures.done c.split-piece-items.ensures.closure (λ x r q k. search (rules, tests)))) c.loop-piece.yielded _ c.loop-piece.yielded_by _ _ c.in-Some.piece c.in-Some.is c.next.ensures.steps in (
      search rules,
      search rules,
      c.in_ok-add_name.ensures.names
          ∙ names_among_more parts (length c.loop-piece.yielded) c.loop-piece.names c.in-Some.piece.now turn.0 turn.1 c.loop-piece.invariant.2
          ∙ ap (λ (n : ℕ). names_among (take n parts)) (sym (length_push c.loop-piece.yielded c.in-Some.piece)),
      c.in_ok-add_name.ensures.seen,
    )

pub returns : goal.returns
returns c =
    let parts : List (List ℕ) = slice_split (λ byte. byte == 44) c.args.text.now in
    let end : (map (λ (piece : Bor (List ℕ)). piece.now) c.loop-piece.yielded ≡ parts) × (length c.loop-piece.yielded ≡ length parts) =
    YieldsList-end (YieldsList-at c.into_iter-piece-iterator.ensures.into_iter_gives (YieldsList-from_slice_split _ (λ byte. byte == 44) c.args.text.now (c.split-piece-items.ensures.rest ∙ c.as_bytes.ensures.value) c.split-piece-items.ensures.done c.split-piece-items.ensures.closure (λ x r q k. search (rules, tests)))) c.loop-piece.yielded _ c.loop-piece.yielded_by _ _ c.in-None.is c.next.ensures.steps in
    c.loop-piece.invariant.2 ∙ ap names_among (ap (λ (n : ℕ). take n parts) end.1 ∙ take_all (length parts) parts (omega arith))
