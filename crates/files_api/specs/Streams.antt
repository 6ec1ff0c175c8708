-- Streams that bytes come from and go to.
use Rattle.std.specs.Prelude.{◌≡◌, ◌≤◌, ◌<◌, ◌+◌, ◌-◌, ◌^◌, ℕ, min, List, [], ◌++◌, length, take, drop, Option, Some, None}
use Rattle.file_log.specs.Told.{Rose}
use Rattle.files_api.specs.declared.took.Took.{Took}
use Rattle.files_api.specs.declared.took.Took.TheVariants as took

-- the next n bytes of those that are left were copied, and a slice that isn't empty gets none only at the end
abbrev pub GivesNext : Option (List ℕ) → Option (List ℕ) → ℕ → List ℕ → Type 0
GivesNext None left n into = Unit {0}
GivesNext (Some bytes) left n into = (take n into ≡ take n bytes) × (n ≤ length bytes) × (left ≡ Some (drop n bytes)) × (n ≡ 0 → 0 < length into → bytes ≡ [])

-- what a reading did to the bytes that are left, and to the slice; of what stands there behind the bytes that were copied nothing is said
abbrev pub IsRead : Took → Option (List ℕ) → Option (List ℕ) → List ℕ → Type 0
IsRead (took.Some n) old new into = (n ≤ length into) × GivesNext old new n into
IsRead took.Failed old new into = new ≡ old

-- the first n bytes were added
abbrev pub IsAdded : Option (List ℕ) → Option (List ℕ) → List ℕ → Type 0
IsAdded None new bytes = Unit {0}
IsAdded (Some written) new bytes = new ≡ Some (written ++ bytes)

-- what a writing did to the bytes that are written
abbrev pub IsWritten : Took → Option (List ℕ) → Option (List ℕ) → List ℕ → Type 0
IsWritten (took.Some n) old new bytes = (n ≤ length bytes) × (0 < length bytes → 1 ≤ n) × IsAdded old new (take n bytes)
IsWritten took.Failed old new bytes = new ≡ old

-- a count of faults never falls, and `Failed` comes only where it rose
pub record HasFault (before now : ℕ) (result : Took) : Type 0 where
  pub later : before ≤ now
  pub failed : result ≡ took.Failed → Rose before now
