use Rattle.std.proofs.Common.{◌≡◌, ◌<◌, Bor, List, ℕ, true, false, length, get_or, map, take, rules, refl, inl, sym, subst, arith, lit<}
use Rattle.std.proofs.lemmas.Iterator.Consumers.{YieldsList-turn, YieldsList-end, YieldsList-at}
use Rattle.std.proofs.lemmas.Iterator.Splits.{YieldsList-from_str_split}
use Rattle.std.proofs.lemmas.List.{length_push, take_all}
use Rattle.cache_key.specs.Digits.{IsKeyText}
use Rattle.report_text.specs.declared.status.Status.TheVariants.{BadKey}
use Rattle.cache_main.specs.Keys.{pieces_of}
use Rattle.cache_main.proofs.Exact.{ok_or_err, never}
use Rattle.cache_main.proofs.Spelling.{AreSpelled, spelled_more, not_all}
use Rattle.cache_main.proofs.keys.keys_between_commas.Goals as goal

pub returns-in_default-clause-bad : goal.returns-in_default-clause-bad
returns-in_default-clause-bad c =
    let parts : List (List ℕ) = pieces_of c.args.text.now in
    let turn : (length c.loop-piece.yielded < length parts) × (c.in-Some.piece.now ≡ get_or parts (length c.loop-piece.yielded) c.in-Some.piece.now) =
    YieldsList-turn (YieldsList-at c.into_iter-piece-iterator.ensures.into_iter_gives (YieldsList-from_str_split 44 c.args.text.now (lit< tt) c.split-piece-items.ensures.text c.split-piece-items.ensures.has_more c.split-piece-items.ensures.pattern)) c.loop-piece.yielded _ c.loop-piece.yielded_by _ _ c.in-Some.piece c.in-Some.is c.next.ensures.steps in
    let is_not : IsKeyText c.in-Some.piece.now → ⊥ = λ k. (let clash : false ≡ true = c.in_default.ensures.found.1 k in absurd cc) in
    record { only = λ e. not_all parts (length c.loop-piece.yielded) c.in-Some.piece.now turn.0 turn.1 is_not; always = λ p. inl refl }

pub loop-piece-preserved : goal.loop-piece-preserved
loop-piece-preserved c =
    let parts : List (List ℕ) = pieces_of c.args.text.now in
    let turn : (length c.loop-piece.yielded < length parts) × (c.in-Some.piece.now ≡ get_or parts (length c.loop-piece.yielded) c.in-Some.piece.now) =
    YieldsList-turn (YieldsList-at c.into_iter-piece-iterator.ensures.into_iter_gives (YieldsList-from_str_split 44 c.args.text.now (lit< tt) c.split-piece-items.ensures.text c.split-piece-items.ensures.has_more c.split-piece-items.ensures.pattern)) c.loop-piece.yielded _ c.loop-piece.yielded_by _ _ c.in-Some.piece c.in-Some.is c.next.ensures.steps in (
      search rules,
      search rules,
      subst (AreSpelled _) (sym c.in-Ok-push.ensures.ok)
          (spelled_more parts (length c.loop-piece.yielded) _ c.loop-piece.keys c.in-Some.piece.now c.in-Ok.key turn.0 turn.1 (length_push c.loop-piece.yielded c.in-Some.piece) (c.in-Ok.ensures.found.0 refl) c.in-Ok.ensures.value c.loop-piece.invariant.2),
    )

pub returns-clause-spelled : goal.returns-clause-spelled
returns-clause-spelled c =
    let parts : List (List ℕ) = pieces_of c.args.text.now in
    let end : (map (λ (piece : Bor (List ℕ)). piece.now) c.loop-piece.yielded ≡ parts) × (length c.loop-piece.yielded ≡ length parts) =
    YieldsList-end (YieldsList-at c.into_iter-piece-iterator.ensures.into_iter_gives (YieldsList-from_str_split 44 c.args.text.now (lit< tt) c.split-piece-items.ensures.text c.split-piece-items.ensures.has_more c.split-piece-items.ensures.pattern)) c.loop-piece.yielded _ c.loop-piece.yielded_by _ _ c.in-None.is c.next.ensures.steps in
    let whole : take (length c.loop-piece.yielded) parts ≡ parts = take_all (length c.loop-piece.yielded) parts (omega (arith, end.1)) in
    let spelled : AreSpelled parts c.loop-piece.keys = subst (λ (texts : List (List ℕ)). AreSpelled texts c.loop-piece.keys) whole c.loop-piece.invariant.2 in
    spelled.spell

pub returns-clause-good : goal.returns-clause-good
returns-clause-good c =
    let parts : List (List ℕ) = pieces_of c.args.text.now in
    let end : (map (λ (piece : Bor (List ℕ)). piece.now) c.loop-piece.yielded ≡ parts) × (length c.loop-piece.yielded ≡ length parts) =
    YieldsList-end (YieldsList-at c.into_iter-piece-iterator.ensures.into_iter_gives (YieldsList-from_str_split 44 c.args.text.now (lit< tt) c.split-piece-items.ensures.text c.split-piece-items.ensures.has_more c.split-piece-items.ensures.pattern)) c.loop-piece.yielded _ c.loop-piece.yielded_by _ _ c.in-None.is c.next.ensures.steps in
    let whole : take (length c.loop-piece.yielded) parts ≡ parts = take_all (length c.loop-piece.yielded) parts (omega (arith, end.1)) in
    let spelled : AreSpelled parts c.loop-piece.keys = subst (λ (texts : List (List ℕ)). AreSpelled texts c.loop-piece.keys) whole c.loop-piece.invariant.2 in
    spelled.good

pub returns-clause-bad : goal.returns-clause-bad
returns-clause-bad c =
    let parts : List (List ℕ) = pieces_of c.args.text.now in
    let end : (map (λ (piece : Bor (List ℕ)). piece.now) c.loop-piece.yielded ≡ parts) × (length c.loop-piece.yielded ≡ length parts) =
    YieldsList-end (YieldsList-at c.into_iter-piece-iterator.ensures.into_iter_gives (YieldsList-from_str_split 44 c.args.text.now (lit< tt) c.split-piece-items.ensures.text c.split-piece-items.ensures.has_more c.split-piece-items.ensures.pattern)) c.loop-piece.yielded _ c.loop-piece.yielded_by _ _ c.in-None.is c.next.ensures.steps in
    let whole : take (length c.loop-piece.yielded) parts ≡ parts = take_all (length c.loop-piece.yielded) parts (omega (arith, end.1)) in
    let spelled : AreSpelled parts c.loop-piece.keys = subst (λ (texts : List (List ℕ)). AreSpelled texts c.loop-piece.keys) whole c.loop-piece.invariant.2 in
    never _ _ _ (ok_or_err c.loop-piece.keys BadKey) (λ bad. bad spelled.good)
