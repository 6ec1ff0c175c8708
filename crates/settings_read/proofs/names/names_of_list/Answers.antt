use Rattle.std.proofs.Common.{◌≡◌, ◌==◌, ◌<◌, ◌≤◌, Bor, List, [], ℕ, nat_le, le-leb, length, get_or, map, take, rules, tests, sym, ap, ◌∙◌, arith}
use Rattle.std.specs.List.{slice_split}
use Rattle.std.specs.Str.Lines.{strip_carriage_return}
use Rattle.std.proofs.lemmas.Iterator.Consumers.{YieldsList-turn, YieldsList-end, YieldsList-at}
use Rattle.std.proofs.lemmas.Iterator.Splits.{YieldsList-from_slice_split}
use Rattle.std.proofs.lemmas.Bool.{cond-true}
use Rattle.std.proofs.lemmas.List.{length-map, length_push, get_or-map, take_all}
use Rattle.settings_read.specs.Names.{names_among}
use Rattle.settings_read.specs.Seen.{with_name}
use Rattle.settings_read.proofs.Repeats.{names_among_more}
use Rattle.settings_read.proofs.names.names_of_list.Goals as goal

pub loop-line-preserved : goal.loop-line-preserved
loop-line-preserved c =
    let n : ℕ = length c.loop-line.yielded in
    let parts : List (List ℕ) = slice_split (λ byte. byte == 10) c.args.bytes.now in
    let lines : List (List ℕ) = map strip_carriage_return parts in
    let line : List ℕ = strip_carriage_return c.in-Some.line.now in
    let turn : (n < length parts) × (c.in-Some.line.now ≡ get_or parts n c.in-Some.line.now) =
    YieldsList-turn (YieldsList-at c.into_iter-line-iterator.ensures.into_iter_gives (YieldsList-from_slice_split _ (λ byte. byte == 10) c.args.bytes.now c.split-line-items.ensures.rest c.split-line-items.ensures.done c.split-line-items.ensures.closure (λ x r q k. search (rules, tests)))) c.loop-line.yielded _ c.loop-line.yielded_by _ _ c.in-Some.line c.in-Some.is c.next.ensures.steps in
    let within : n < length lines = omega (arith, length-map parts strip_carriage_return, turn.0) in
    let is : line ≡ get_or lines n line = ap strip_carriage_return turn.1 ∙ sym (get_or-map strip_carriage_return parts n c.in-Some.line.now line turn.0) in (
      search rules,
      search rules,
      c.in_ok-add_name.ensures.names
          ∙ ap (with_name c.loop-line.names) c.without_return.ensures
          ∙ names_among_more lines n c.loop-line.names line within is c.loop-line.invariant.2
          ∙ ap (λ (k : ℕ). names_among (take k lines)) (sym (length_push c.loop-line.yielded c.in-Some.line)),
      c.in_ok-add_name.ensures.seen,
    )

pub returns : goal.returns
returns c =
    let parts : List (List ℕ) = slice_split (λ byte. byte == 10) c.args.bytes.now in
    let lines : List (List ℕ) = map strip_carriage_return parts in
    let end : (map (λ (line : Bor (List ℕ)). line.now) c.loop-line.yielded ≡ parts) × (length c.loop-line.yielded ≡ length parts) =
    YieldsList-end (YieldsList-at c.into_iter-line-iterator.ensures.into_iter_gives (YieldsList-from_slice_split _ (λ byte. byte == 10) c.args.bytes.now c.split-line-items.ensures.rest c.split-line-items.ensures.done c.split-line-items.ensures.closure (λ x r q k. search (rules, tests)))) c.loop-line.yielded _ c.loop-line.yielded_by _ _ c.in-None.is c.next.ensures.steps in
    let short : length c.args.bytes.now ≤ 65536 = c.if-bytes-gt-MAX_LIST.false in
    c.loop-line.invariant.2
    ∙ ap names_among (ap (λ (n : ℕ). take n lines) end.1 ∙ take_all (length parts) lines (omega (arith, length-map parts strip_carriage_return)))
    ∙ sym (cond-true (nat_le (length c.args.bytes.now) 65536) (names_among lines) [] (le-leb (length c.args.bytes.now) 65536 short))
