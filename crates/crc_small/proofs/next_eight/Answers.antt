use Rattle.std.proofs.Common.{arith, rules, ap, sym, ◌∙◌, ◌≡◌, ◌<◌, ◌^◌, ℕ, length, get_or}
use Rattle.std.specs.Prelude.{bit_xor}
use Rattle.std.specs.Int.{w64, from_le_bytes}
use Rattle.std.proofs.lemmas.Nat.{xor_lt}
use Rattle.crc_small.proofs.Steps.{eight_at_once}
use Rattle.crc_small.proofs.next_eight.Goals as goal

pub returns : goal.returns
returns c =
    let word = bit_xor c.from.result c.from_le_bytes.result in
    let eight : length c.args.bytes ≡ 8 = omega arith in
    let bytes : (i : ℕ) → get_or c.args.bytes i 0 < 256 = search rules in
    let is : word ≡ bit_xor c.args.state (from_le_bytes w64 c.args.bytes) = ap (λ (n : ℕ). bit_xor n c.from_le_bytes.result) c.from.ensures ∙ ap (λ (n : ℕ). bit_xor c.args.state n) c.from_le_bytes.ensures in
    let small : word < 2 ^ 64 = xor_lt 64 c.from.result c.from_le_bytes.result (omega arith) (omega arith) in
    rw (c.entry.ensures, c.entry-2.ensures, c.entry-3.ensures, c.entry-4.ensures, c.entry-5.ensures, c.entry-6.ensures, c.entry-7.ensures, c.entry-8.ensures)
    (sym (eight_at_once c.args.state word c.args.bytes c.to_le_bytes.result eight bytes is small c.to_le_bytes.ensures))
