use Rattle.std.proofs.Common.{◌≡◌, ◌≤◌, ◌+◌, ◌*◌, length, drop, ap, ◌∙◌, arith}
use Rattle.std.proofs.lemmas.List.{take_rest}
use Rattle.item_frame.specs.Reading.{number}
use Rattle.item_frame.proofs.Spelled.{keys_fit}
use Rattle.item_frame.proofs.fields.meta_of.Goals as goal

pub slice_bounds-keys_of-end : goal.slice_bounds-keys_of-end
slice_bounds-keys_of-end c =
    let bytes = c.args.bytes.now in
    let fit : 8 + 20 * number (drop 4 bytes) ≤ length bytes =
    keys_fit bytes c.requires.long c.requires.right (λ zero. c.if-number_of-eq0.false (c.number_of.ensures ∙ zero)) in
    let count : c.number_of-count.result ≡ number (drop 4 bytes) = c.number_of-count.ensures ∙ ap number (take_rest bytes 4) in
    omega (arith, fit, count)
