-- How often in a row a file's lock was found held.
use Rattle.std.specs.Prelude.{◌≡◌, ℕ, nat_eq, min, List, Option, Some, None}
use Rattle.operation_ledger.specs.declared.tries.HeldTries.{HeldTries}
use Rattle.world_tables.specs.Find.{find_by}

-- a count that was found, or none yet
abbrev pub counted : Option ℕ → ℕ
counted None = 0
counted (Some held) = held

-- how often this file's lock was
abbrev pub tries_of : List HeldTries → ℕ → ℕ
tries_of tries file = counted (find_by (λ t. nat_eq t.file file) (λ t. t.held) tries)

-- they are the rows of held tries, up to 63
abbrev pub AreTries : List HeldTries → (ℕ → ℕ) → Type 0
AreTries tries row = (file : ℕ) → tries_of tries file ≡ min 63 (row file)
