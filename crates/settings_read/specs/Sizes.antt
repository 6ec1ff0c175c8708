-- Sizes of caches, as texts spell them.
use Rattle.std.specs.Prelude.{ℕ, ◌*◌, ◌^◌, min, ◌==◌, if◌then◌else◌, List, [], ◌∷◌, length, map, drop, find, take_while, codes, bytes_eq, Option, None, option_map, unwrap_or}
use Rattle.std.specs.Char.{is_ascii_digit, to_ascii_lowercase}
use Rattle.std.specs.List.{prefix_len}
use Rattle.std.specs.Str.Parse.{digits_value}

-- the letters, in lower case, and how many bytes each stands for; no letter stands for as many as G
abbrev pub units : List (List ℕ × ℕ)
units = (codes "k", 1024) ∷ (codes "m", 1024 ^ 2) ∷ (codes "g", 1024 ^ 3) ∷ (codes "", 1024 ^ 3) ∷ []

-- the bytes of a letter in either case
abbrev pub unit_of : List ℕ → Option ℕ
unit_of letter = option_map (λ unit. unit.1) (find (λ unit. bytes_eq unit.0 (map to_ascii_lowercase letter)) units)

-- the digits at the front of a text
abbrev pub digits_in : List ℕ → List ℕ
digits_in text = take_while is_ascii_digit text

-- what stands behind them
abbrev pub behind_digits : List ℕ → List ℕ
behind_digits text = drop (prefix_len is_ascii_digit text) text

-- the bytes that a text spells: one or more digits, and at most a letter
abbrev pub spelled_size : List ℕ → Option ℕ
spelled_size text = if length (digits_in text) == 0 then None else option_map (λ unit. digits_value 10 (digits_in text) * unit) (unit_of (behind_digits text))

-- a size of 0 counts as 1 GiB, and one above 1 TiB as 1 TiB
abbrev pub bounded : ℕ → ℕ
bounded size = if size == 0 then 1024 ^ 3 else min size (1024 ^ 4)

-- the size that a text gives; any other text counts as 0
abbrev pub size_of : List ℕ → ℕ
size_of text = bounded (unwrap_or (spelled_size text) 0)
