use Rattle.std.proofs.Common.{arith, sym, ◌∙◌, ap, ℕ, ◌/◌}
use Rattle.std.specs.Prelude.{bit_xor, bit_and}
use Rattle.crc_small.specs.Tables.{shifts}
use Rattle.crc_small.proofs.Steps.{byte_at_once}
use Rattle.crc_small.proofs.next.Goals as goal

pub returns : goal.returns
returns c =
    ap (λ (n : ℕ). bit_xor n (c.args.state / 256)) (c.entry.ensures ∙ ap (λ (b : ℕ). shifts 8 (bit_and (bit_xor c.args.state b) 255)) c.from.ensures) ∙ sym (byte_at_once c.args.state c.args.byte (omega arith))
