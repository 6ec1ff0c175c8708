-- Numbers and parts of a file's bytes, by the places where they stand.
use Rattle.std.specs.Prelude.{ℕ, List, take, drop}
use Rattle.std.specs.Int.{w64, from_le_bytes}

-- so many bytes from a place on
abbrev pub part : ℕ → ℕ → List ℕ → List ℕ
part place count bytes = take count (drop place bytes)

-- the number in the first eight bytes, the lowest first
abbrev pub long_number : List ℕ → ℕ
long_number bytes = from_le_bytes w64 (take 8 bytes)

-- the number in the eight bytes at a place
abbrev pub long_number_at : ℕ → List ℕ → ℕ
long_number_at place bytes = long_number (drop place bytes)
