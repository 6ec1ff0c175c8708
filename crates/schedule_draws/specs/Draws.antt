-- Numbers drawn one after another from a seed, by a linear congruential generator modulo 2^64.
use Rattle.std.specs.Prelude.{ℕ, ◌+◌, ◌*◌, ◌^◌, ◌/◌, ◌%◌}

-- the state after a draw
abbrev pub next_state : ℕ → ℕ
next_state state = (state * 6364136223846793005 + 1442695040888963407) % 2 ^ 64

-- what a state gives below n: its highest 31 bits modulo n
abbrev pub drawn : ℕ → ℕ → ℕ
drawn state n = (state / 2 ^ 33) % n
