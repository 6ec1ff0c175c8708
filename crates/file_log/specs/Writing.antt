-- Bytes written into a file.
use Rattle.std.specs.Prelude.{ℕ, ◌+◌, ◌-◌, nat_lt, nat_eq, List, [], ◌∷◌, ◌++◌, length, take, drop, replicate, if◌then◌else◌}

-- the file with zero bytes after it, up to a place beyond its end
abbrev pub reaching : ℕ → List ℕ → List ℕ
reaching at bytes = bytes ++ replicate (at - length bytes) 0

-- the file after these values were written from a place on; a gap before them becomes zero bytes
abbrev pub pasted : ℕ → List ℕ → List ℕ → List ℕ
pasted at values bytes = take at (reaching at bytes) ++ (values ++ drop (at + length values) bytes)

-- the same, where no values leave the file as it was
abbrev pub written : ℕ → List ℕ → List ℕ → List ℕ
written at values bytes = if nat_eq (length values) 0 then bytes else pasted at values bytes
