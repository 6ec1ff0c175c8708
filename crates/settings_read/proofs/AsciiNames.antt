-- A name of a read-only database is ASCII.
use Rattle.std.proofs.Common.{◌≡◌, ◌<◌, ◌≤◌, ℕ, true, not, ◌&&◌, ◌==◌, nat_le, List, IsAscii, arith, leb-true}
use Rattle.std.proofs.lemmas.Bool.{and_parts}
use Rattle.std.proofs.lemmas.List.Elements.{All-weaker}
use Rattle.std.proofs.lemmas.List.Sums.{AllPass-from_list_all}
use Rattle.std.proofs.lemmas.Str.Ascii.{IsAscii-from_all}
use Rattle.path_names.specs.RoNames.{is_ro_byte, is_ro_name}

below_128 : (b : ℕ) → is_ro_byte b ≡ true → b < 128
below_128 b e =
    let no_comma : ((nat_le 0x21 b && nat_le b 0x7e && not (b == 47)) ≡ true) × (not (b == 44) ≡ true) = and_parts _ _ e in
    let no_slash : ((nat_le 0x21 b && nat_le b 0x7e) ≡ true) × (not (b == 47) ≡ true) = and_parts _ _ no_comma.0 in
    let range : (nat_le 0x21 b ≡ true) × (nat_le b 0x7e ≡ true) = and_parts _ _ no_slash.0 in
    let top : b ≤ 0x7e = leb-true b 0x7e range.1 in
    omega arith

pub is_ascii : (text : List ℕ) → is_ro_name text ≡ true → IsAscii text
unfolding is_ro_name
is_ascii text e = IsAscii-from_all text (All-weaker (λ b. is_ro_byte b ≡ true) (λ b. b < 128) below_128 text (AllPass-from_list_all is_ro_byte text (and_parts _ _ e).1))
