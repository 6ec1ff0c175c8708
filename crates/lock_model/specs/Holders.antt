-- Who holds which file.
use Rattle.std.specs.Prelude.{◌≡◌, ◌≢◌, ℕ, nat_eq, Bool, List, [], ◌∷◌, Option, Some, None, if◌then◌else◌}

-- the holder that stands beside a file
abbrev pub holder_in : {H : Type 0} → List (ℕ × H) → ℕ → Option H
holder_in [] file = None
holder_in (x ∷ xs) file = if nat_eq x.0 file then Some x.1 else holder_in xs file

-- no file stands there twice
abbrev pub Once : {H : Type 0} → List (ℕ × H) → Type 0
Once [] = Unit {0}
Once (x ∷ xs) = (holder_in xs x.0 ≡ None) × Once xs

-- a holder of these holds no more
abbrev pub freed_of : {H : Type 0} → (H → Bool) → Option H → Option H
freed_of these None = None
freed_of these (Some holder) = if these holder then None else Some holder

-- another than this one holds it
abbrev pub IsOthers : ℕ → Option ℕ → Type 0
IsOthers holder None = ⊥
IsOthers holder (Some other) = other ≢ holder
