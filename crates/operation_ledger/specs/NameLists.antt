-- Lists of names by number.
use Rattle.std.specs.Prelude.{◌≡◌, ℕ, List, [], get_or}
use Rattle.cache_types.specs.declared.name.Name.{Name}

-- the names under a number, none where it isn't there
abbrev pub names_at : List (List Name) → ℕ → List Name
names_at files file = get_or files file []

-- the same names stand under each number
abbrev pub HaveSame : List (List Name) → List (List Name) → Type 0
HaveSame old new = (file : ℕ) → names_at new file ≡ names_at old file
