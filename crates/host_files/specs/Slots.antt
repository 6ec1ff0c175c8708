-- Open files in slots.
use Rattle.std.specs.Prelude.{ℕ, Bool, List, [], get_or, Option, Some, None, is_some}
use Rattle.host_files.specs.declared.opened.Opened.{Opened}

abbrev pub none : {A : Type 0} → Option A
none = None

-- a slot that has a file; there is none beyond the last
abbrev pub filled_in : {A : Type 0} → List (Option A) → ℕ → Bool
filled_in slots at = is_some (get_or slots at none)

abbrev pub path_opened : Option Opened → List ℕ
path_opened None = []
path_opened (Some opened) = opened.path

-- the path that a slot's file was opened by
abbrev pub path_of_slot : List (Option Opened) → ℕ → List ℕ
path_of_slot slots at = path_opened (get_or slots at none)
