-- The digits of a key.
use Rattle.std.specs.Prelude.{◌≡◌, ℕ, List, length, Ok}
use Rattle.std.specs.List.{AllPass}
use Rattle.hex.specs.Hex.{decode_of, encode_lower, is_hex_digit}
use Rattle.cache_types.specs.declared.key.Key.{Key}

-- the 40 lower-case digits of a key, two for each byte
abbrev pub digits_of : Key → List ℕ
digits_of key = encode_lower key.bytes

-- a text that is a key: 40 hexadecimal digits, each of either case
pub record IsKeyText (text : List ℕ) : Type 0 where
  pub length_is : length text ≡ 40
  pub digits : AllPass is_hex_digit text

-- the text spells the key, in digits of either case
abbrev pub Spells : List ℕ → Key → Type 0
Spells text key = decode_of text ≡ Ok key.bytes
