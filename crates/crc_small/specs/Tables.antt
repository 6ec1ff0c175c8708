-- What the tables hold: steps of a state that has its byte in it already.
use Rattle.std.specs.Prelude.{ℕ, zero, suc, ◌/◌, ◌%◌, ◌==◌, if◌then◌else◌, bit_xor}
use Rattle.crc_small.specs.Sum.{polynomial}

-- the state after one step
abbrev pub shift : ℕ → ℕ
shift state = if state % 2 == 0 then state / 2 else bit_xor (state / 2) polynomial

-- the state after so many steps
unfoldable pub shifts : ℕ → ℕ → ℕ
shifts zero state = state
shifts (suc count) state = shifts count (shift state)
