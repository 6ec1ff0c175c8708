use Rattle.std.proofs.Common.{◌≡◌, ◌∙◌, ◌+◌, ◌<◌, ℕ, List, None, Option, Some, ap, arith, cond, get_or, length, refl, sym, take}
use Rattle.std.proofs.lemmas.List.{take_all}
use Rattle.std.specs.Option.{option_or}
use Rattle.cache_types.specs.declared.name.Name.{Name}
use Rattle.cache_types.specs.Names.{same_name}
use Rattle.file_log.specs.Disk.{Start, number_from}
use Rattle.world_tables.proofs.Starts.{number_from-more}
use Rattle.world_tables.proofs.tables.names_of.Goals as goal

abbrev none : Option ℕ
none = None

pub loop-pair-preserved : goal.loop-pair-preserved
loop-pair-preserved c =
    let inv = c.loop-pair.invariant in
    let i = c.loop-pair.pair-index in
    let start = c.args.start.now in
    let d = c.pair-item.result in
    let file = c.loop-pair.file in
    let less : i < length start = c.loop-pair-test.true in
    let name : d.0 ≡ (get_or start i d).0 = ap (λ (pair : Name × List ℕ). pair.0) c.pair-item.is in
    let same : file ≡ 0 + i = omega (arith, inv.0) in (
      omega (arith, inv.0),
      λ n.
          let before : Option ℕ = number_from 0 (take i start) n in
          c.in_ok-put_first.ensures.ok n
          ∙ ap (λ (o : Option ℕ). option_or o (cond (same_name d.0 n) (Some file) none)) (inv.1 n)
          ∙ ap (λ (m : Name). option_or before (cond (same_name m n) (Some file) none)) name
          ∙ ap (λ (k : ℕ). option_or before (cond (same_name (get_or start i d).0 n) (Some k) none)) same
          ∙ sym (number_from-more 0 i (i + 1) start d n less refl),
    )

pub returns : goal.returns
returns c =
    let all : take c.loop-pair.pair-index c.args.start.now ≡ c.args.start.now = take_all c.loop-pair.pair-index c.args.start.now c.loop-pair-test.false in
    λ n. c.loop-pair.invariant.1 n ∙ ap (λ (start : Start). number_from 0 start n) all
