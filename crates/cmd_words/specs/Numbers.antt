-- Numbers, as words spell them.
use Rattle.std.specs.Prelude.{ℕ, ◌^◌, Bool, false, ◌&&◌, nat_le, nat_lt, if◌then◌else◌, List, length, Option, Some, None}
use Rattle.std.specs.Char.{is_ascii_digit}
use Rattle.std.specs.List.{list_all}
use Rattle.std.specs.Option.{option_map_or}
use Rattle.std.specs.Str.Parse.{digits_value}

-- 1 to 20 decimal digits, whatever zeros stand in front
abbrev pub is_numeral : List ℕ → Bool
is_numeral text = nat_le 1 (length text) && nat_le (length text) 20 && list_all is_ascii_digit text

-- the number that they spell, where it is below 2^64
abbrev pub number_of : List ℕ → Option ℕ
number_of text = if is_numeral text && nat_lt (digits_value 10 text) (2 ^ 64) then Some (digits_value 10 text) else None

-- a text spells a number of at most so much
abbrev pub is_number_up_to : ℕ → List ℕ → Bool
is_number_up_to most text = option_map_or (λ number. nat_le number most) (number_of text) false
