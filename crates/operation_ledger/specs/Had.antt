-- The names that files have had, by the file's number.
use Rattle.std.specs.Prelude.{◌≡◌, ℕ, nat_eq, List, ◌++◌, filter, map}
use Rattle.cache_types.specs.declared.name.Name.{Name}
use Rattle.operation_ledger.specs.NameLists.{names_at}
use Rattle.operation_ledger.specs.declared.names_had.NamesHad.{NamesHad}

-- the names of this file among names with their files
abbrev pub names_of_file : ℕ → List (Name × ℕ) → List Name
names_of_file file had = map (λ p. p.0) (filter (λ p. nat_eq p.1 file) had)

-- they stand there for each file
abbrev pub IsNamesHad : NamesHad → List (Name × ℕ) → Type 0
IsNamesHad names had = (file : ℕ) → names_at names.files.items file ≡ names_of_file file had

-- these stand there beside what stood there before
abbrev pub Gains : NamesHad → NamesHad → List (Name × ℕ) → Type 0
Gains old new more = (had : List (Name × ℕ)) → IsNamesHad old had → IsNamesHad new (had ++ more)
