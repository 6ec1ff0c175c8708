-- Names of read-only databases, as a variable and a list file give them.
use Rattle.std.specs.Prelude.{ℕ, not, nat_le, ◌==◌, if◌then◌else◌, List, [], ◌∷◌, length, map, filter, bytes_eq}
use Rattle.std.specs.List.{slice_split}
use Rattle.std.specs.Str.Lines.{strip_carriage_return}
use Rattle.path_names.specs.RoNames.{is_ro_name}

-- of equal names the first stays
abbrev pub first_of_each : List (List ℕ) → List (List ℕ)
first_of_each [] = []
first_of_each (name ∷ names) = name ∷ filter (λ other. not (bytes_eq name other)) (first_of_each names)

-- the pieces that are names, each once
abbrev pub names_among : List (List ℕ) → List (List ℕ)
names_among pieces = first_of_each (filter is_ro_name pieces)

-- a variable has them between commas
abbrev pub names_of_variable : List ℕ → List (List ℕ)
names_of_variable text = names_among (slice_split (λ byte. byte == 44) text)

-- a list file has one in a line, which may end in a carriage return; a file of more than 64 KiB has none
abbrev pub names_of_list : List ℕ → List (List ℕ)
names_of_list bytes = if nat_le (length bytes) 65536 then names_among (map strip_carriage_return (slice_split (λ byte. byte == 10) bytes)) else []
