-- Files that one seat has to itself.
use Rattle.std.specs.Prelude.{◌≡◌, Option, Some, None}
use Rattle.cache_types.specs.declared.seat.Who.{Who}
use Rattle.file_log.specs.Log.{History, own}

-- their log is told, and every item of it is the seat's own
abbrev pub IsLone : Who → Option History → Type 0
IsLone me None = ⊥
IsLone me (Some h) = own me h.log ≡ h.log
