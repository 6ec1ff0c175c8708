-- A blob that is held, or that none is.
use Rattle.std.specs.Prelude.{ℕ, List, Option, Some, None}

-- one of the blobs that are held, or none where none is
abbrev pub IsGiven : (List ℕ → Type 0) → Option (List ℕ) → Type 0
IsGiven Held (Some blob) = Held blob
IsGiven Held None = (blob : List ℕ) → Held blob → ⊥
