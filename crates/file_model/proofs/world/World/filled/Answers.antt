use Rattle.std.proofs.Common.{◌≡◌, ◌≢◌, ◌<◌, ◌∙◌, ℕ, false, get_or, length, set, length-set, arith}
use Rattle.std.specs.Prelude.{is_some}
use Rattle.std.proofs.lemmas.List.{get_or-set_same, get_or-set_other}
use borrow.Author.Count.{below_more}
use Rattle.file_log.specs.State.{disk_of}
use Rattle.file_model.proofs.world.World.filled.Goals as goal

pub loop-slot-preserved : goal.loop-slot-preserved
loop-slot-preserved c =
    let inv = c.loop-slot.invariant in
    let filled = c.loop-slot.filled in
    let slot = c.loop-slot.slot in
    let value = c.is_open.result in
    let short : slot < length filled = omega (arith, inv.0, c.loop-slot-test.true) in
    let P : ℕ → Type 0 = λ at. get_or (set filled slot value) at false ≡ is_some ((disk_of c.args.self.now.past).slots c.args.who at) in
    let below : (at : ℕ) → at < slot → P at = λ at less. let apart : at ≢ slot = omega arith in get_or-set_other filled slot at value false apart ∙ inv.1 at less in
    let here : P slot = get_or-set_same filled slot value false short ∙ c.is_open.ensures in
    (length-set filled slot value ∙ inv.0, below_more P slot below here)
