-- Calls that are to fail, by their numbers.
use Rattle.std.specs.Prelude.{◌+◌, ◌-◌, ◌^◌, Bool, min, nat_eq}
use Rattle.std.specs.List.{list_any}
use Rattle.memory_files.specs.declared.failing.Failing.{Failing}

-- the next call is to fail: its number, counted from 0, is one of these
abbrev pub is_due : Failing → Bool
is_due f = list_any (λ number. nat_eq number f.calls) f.numbers.items

-- one call later; the last number that there is stays
abbrev pub counted : Failing → Failing
counted f = record f { calls = min (f.calls + 1) (2 ^ 64 - 1) }
