-- The CRC-32 of bytes, bit by bit.
use Rattle.std.specs.Prelude.{ℕ, zero, suc, ◌-◌, ◌/◌, ◌%◌, ◌^◌, ◌==◌, List, [], ◌∷◌, fold, if◌then◌else◌, bit_xor}

-- the reflected polynomial
abbrev pub polynomial : ℕ
polynomial = 0xEDB88320

-- the state after one bit
abbrev pub bit_step : ℕ → ℕ → ℕ
bit_step state bit = if state % 2 == bit then state / 2 else bit_xor (state / 2) polynomial

-- so many bits of a number, the lowest first
abbrev pub bits : ℕ → ℕ → List ℕ
bits zero number = []
bits (suc count) number = number % 2 ∷ bits count (number / 2)

-- the state after the eight bits of a byte
unfoldable pub byte_step : ℕ → ℕ → ℕ
byte_step state byte = fold bit_step state (bits 8 byte)

-- the state before the first byte: all ones
abbrev pub first_state : ℕ
first_state = 2 ^ 32 - 1

-- the state after the bytes
abbrev pub state_after : ℕ → List ℕ → ℕ
state_after state bytes = fold byte_step state bytes

-- the sum that a state stands for: each of its bits turned
abbrev pub finished : ℕ → ℕ
finished state = 2 ^ 32 - 1 - state

-- the CRC-32 of the bytes
abbrev pub Sum : List ℕ → ℕ
Sum bytes = finished (state_after first_state bytes)
