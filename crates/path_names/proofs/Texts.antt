-- Digits are text.
use Rattle.std.proofs.Common.{ℕ, ◌<◌, List, ltb, refl}
use Rattle.std.proofs.lemmas.Bool.{ltb-true}
use Rattle.std.proofs.lemmas.List.Elements.{All-weaker}
use Rattle.std.proofs.lemmas.List.Sums.{AllPass-from_list_all}
use Rattle.std.proofs.lemmas.Str.Ascii.{IsAscii-from_all}
use Rattle.std.specs.Str.{IsAscii}
use Rattle.hex.specs.Hex.{encode_lower, lower_digits}
use Rattle.hex.proofs.HexLemmas.{IsAscii-encode_with}

digits_ascii : IsAscii lower_digits
digits_ascii =
    let tested = AllPass-from_list_all (λ b. ltb b 128) lower_digits refl in
    IsAscii-from_all lower_digits (All-weaker _ (λ b. b < 128) (λ b. ltb-true b 128) lower_digits tested)

-- what bytes are encoded as is text
pub IsAscii-encode_lower : (bytes : List ℕ) → IsAscii (encode_lower bytes)
IsAscii-encode_lower bytes = IsAscii-encode_with lower_digits bytes digits_ascii
