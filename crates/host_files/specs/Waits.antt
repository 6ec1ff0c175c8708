-- How long a seat waits.
use Rattle.std.specs.Prelude.{ℕ, ◌-◌, ◌*◌, ◌^◌, min, nat_lt, if◌then◌else◌, Option, Some, None}

-- the microseconds for which a seat sleeps that waited so often before: the first four times it only yields, then each sleep is twice the one before, up to 10 milliseconds
abbrev pub sleep_after : ℕ → Option ℕ
sleep_after waits = if nat_lt waits 4 then None else Some (min (50 * 2 ^ (waits - 4)) 10000)
