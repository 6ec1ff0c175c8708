-- The files that names have, among those that they have had.
use Rattle.std.specs.Prelude.{◌≡◌, ℕ, true, List, Option, Some, None}
use Rattle.cache_types.specs.declared.name.Name.{Name}
use Rattle.file_log.specs.Disk.{Disk}
use Rattle.seat_rules.specs.Kinds.{is_entry}
use Rattle.log_summary.specs.Telling.{In}

-- each file that a name has is among those that names have had
abbrev pub AreListed : List (Name × ℕ) → Disk → Type 0
AreListed had d = (name : Name) (file : ℕ) → d.names name ≡ Some file → In had (name, file)

-- the file, if there is one, is among those that entries have had
abbrev pub WasEntry : List (Name × ℕ) → Option ℕ → Type 0
WasEntry had None = Unit {0}
WasEntry had (Some file) = (name : Name) × (is_entry name ≡ true) × In had (name, file)
