-- Lines of keys, and of what `verify` found.
use Rattle.std.specs.Prelude.{ℕ, List, [], ◌++◌, codes, decimal, Option, Some, None}
use Rattle.std.specs.List.{flat_map}
use Rattle.cache_key.specs.Digits.{digits_of}
use Rattle.cache_types.specs.declared.key.Key.{Key}
use Rattle.cache_types.specs.declared.row.Row.{Row}
use Rattle.cache_types.specs.declared.row.Row.TheVariants as rows

-- a line's end
abbrev pub line_end : List ℕ
line_end = codes "\n"

-- a key's line: its digits
abbrev pub key_line : Key → List ℕ
key_line key = digits_of key ++ line_end

-- one key a line
abbrev pub key_lines : List Key → List ℕ
key_lines keys = flat_map key_line keys

-- the row's place in the index and a space, where it has one
abbrev pub place_part : Option ℕ → List ℕ
place_part None = []
place_part (Some place) = decimal place ++ codes " "

-- the key, or a dash where there is none
abbrev pub key_part : Option Key → List ℕ
key_part None = codes "-"
key_part (Some key) = digits_of key

-- a row's line, before its end
abbrev pub row_line : Row → List ℕ
row_line (rows.Head text) = text
row_line (rows.Entry place key finding) = place_part place ++ (key_part key ++ (codes " " ++ finding))

-- one row a line
abbrev pub row_lines : List Row → List ℕ
row_lines list = flat_map (λ row. row_line row ++ line_end) list
