-- The entry of a blob, what a lookup of it leaves, and what a put of it and then a lookup leave.
use Rattle.std.specs.Prelude.{◌≡◌, ◌⊎◌, ℕ, List, [], ◌∷◌, ◌++◌, codes, Option, Some}
use Rattle.cache_types.specs.declared.name.Name.{Name}
use Rattle.cache_types.specs.declared.name.Name.TheVariants.{Entry}
use Rattle.cache_main.specs.declared.round_trip.RoundTrip.{RoundTrip}
use Rattle.cache_tests.specs.declared.premises.TheConstants.{KEY, ENTRY}
use Rattle.report_text.specs.declared.status.Status.{Status}
use Rattle.report_text.specs.declared.status.Status.TheVariants as statuses

-- this command for driver `d` and GPU `g`, in the folder `store`
abbrev pub words_of_abc : List ℕ → List (List ℕ)
words_of_abc command = command ∷ codes "--id=d" ∷ codes "--gpu=g" ∷ codes "--layout=folder" ∷ codes "--root=store" ∷ codes "a9993e364706816aba3e25717850c26c9cd0d89d" ∷ []

-- the one file that lies on the disk
abbrev pub files_of_abc : List (Name × List ℕ)
files_of_abc = (Entry 0 KEY, ENTRY) ∷ []

-- The blob was printed. Else there was no memory for the lookup, and nothing was printed; or none for what is printed.
abbrev pub IsFound : Status → Option (List ℕ) → Type 0
IsFound statuses.Ok written = written ≡ Some (codes "abc")
IsFound statuses.NoMemory written = written ≡ Some []
IsFound statuses.WriteFault written = Unit {0}
IsFound status written = ⊥

-- the put's line was printed, and then the blob: the put's own behind `stored`, any behind `kept`
abbrev pub IsGivenBack : Option (List ℕ) → Type 0
IsGivenBack written = (written ≡ Some (codes "stored\nabc")) ⊎ ((blob : List ℕ) × (written ≡ Some (codes "kept\n" ++ blob)))

-- so it was by the lookup, unless there was no memory for it, or none for what is printed
abbrev pub IsFoundAgain : Status → Option (List ℕ) → Type 0
IsFoundAgain statuses.Ok written = IsGivenBack written
IsFoundAgain statuses.NoMemory written = Unit {0}
IsFoundAgain statuses.WriteFault written = Unit {0}
IsFoundAgain status written = ⊥

-- a put that ended well is found again
abbrev pub IsPutAndFound : RoundTrip → Option (List ℕ) → Type 0
IsPutAndFound ended written = ended.put ≡ statuses.Ok → IsFoundAgain ended.get written
