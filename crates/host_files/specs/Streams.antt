-- What is read from a reader of the system, where the reader tells what it has left.
use Rattle.std.specs.Prelude.{◌≡◌, ◌<◌, ℕ, List, length, take, Option}
use Rattle.std.specs.Io.KnownBytes.{Consumes, IsAtEnd, Keeps}
use Rattle.files_api.specs.declared.took.Took.{Took}
use Rattle.files_api.specs.declared.took.Took.TheVariants as took

-- the next bytes were taken, and none for a slice that isn't empty only at the end; a failure takes none
abbrev pub TakesNext : Took → Option (List ℕ) → Option (List ℕ) → List ℕ → Type 0
TakesNext (took.Some n) old new into = Consumes old new (take n into) × (n ≡ 0 → 0 < length into → IsAtEnd new)
TakesNext took.Failed old new into = Keeps old new
