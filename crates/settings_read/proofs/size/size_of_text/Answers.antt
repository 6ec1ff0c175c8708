use Rattle.std.proofs.Common.{ap, ◌∙◌, arith, List, ℕ, take}
use Rattle.std.specs.Char.{is_ascii_digit}
use Rattle.std.specs.List.{list_all}
use Rattle.std.proofs.lemmas.List.Sums.{prefix_len-le-length}
use Rattle.settings_read.proofs.Digits.{front_passes}
use Rattle.settings_read.proofs.size.size_of_text.Goals as goal

pub split_at-requires : goal.split_at-requires
split_at-requires c = omega (arith, c.digits_in.ensures, prefix_len-le-length is_ascii_digit c.as_bytes-bytes.result.now)

pub number_of-requires : goal.number_of-requires
number_of-requires c =
    let bytes : List ℕ = c.as_bytes-bytes.result.now in
    ap (list_all is_ascii_digit) (c.split_at.ensures.front ∙ ap (λ (n : ℕ). take n bytes) c.digits_in.ensures) ∙ front_passes is_ascii_digit bytes
