use Rattle.std.proofs.Common.{arith, ap, ◌∙◌, ◌≡◌, ◌*◌, ◌/◌, ℕ, fold, length, take, drop}
use Rattle.std.specs.Simd.{first_chunks}
use Rattle.std.proofs.lemmas.List.{take_all}
use Rattle.crc_small.specs.Sum.{state_after}
use Rattle.crc_small.proofs.Pieces.{state_after_eights}
use Rattle.crc_small.proofs.update.Goals as goal

pub returns : goal.returns
returns c =
    let state = c.args.state in
    let bytes = c.args.bytes.now in
    let eights = c.as_chunks.result.0.now in
    let rest = c.as_chunks.result.1.now in
    let count = length bytes / 8 in
    let all_eights : take c.loop-eight.eight-index eights ≡ eights = take_all _ eights (omega arith) in
    let all_rest : take c.loop-byte.byte-index rest ≡ rest = take_all _ rest (omega arith) in
    let middle : c.loop-eight.after ≡ fold state_after state (first_chunks 8 count bytes) = c.loop-eight.invariant ∙ ap (fold state_after state) (all_eights ∙ c.as_chunks.ensures.front) in
    c.loop-byte.invariant
    ∙ ap (state_after c.loop-eight.after) (all_rest ∙ c.as_chunks.ensures.back)
    ∙ ap (λ (s : ℕ). state_after s (drop (count * 8) bytes)) middle
    ∙ state_after_eights count (count * 8) state bytes (omega arith)
