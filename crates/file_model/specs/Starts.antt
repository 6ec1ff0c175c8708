-- The files that are there at first.
use Rattle.std.specs.Prelude.{◌≡◌, [], ◌∷◌, None}
use Rattle.file_log.specs.Disk.{Start, number_from}

-- no two have the same name
abbrev pub NamesDiffer : Start → Type 0
NamesDiffer [] = Unit {0}
NamesDiffer (file ∷ start) = (number_from 0 start file.0 ≡ None) × NamesDiffer start
