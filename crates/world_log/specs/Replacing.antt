-- A name gets another file in the place of its own.
use Rattle.std.specs.Prelude.{Bool, not, ◌&&◌, is_none}
use Rattle.cache_types.specs.declared.name.Name.{Name}
use Rattle.cache_types.specs.declared.seat.Who.{Who}
use Rattle.file_log.specs.Disk.{Disk}
use Rattle.seat_rules.specs.Changes.{may_write}
use Rattle.seat_rules.specs.Kinds.{comes_guarded, is_foreign, is_lasting}
use Rattle.rule_checks.specs.Tests.{implies}

-- another file may come in the place of a name that is no entry's
abbrev pub may_replace : Disk → Who → Name → Bool
may_replace d who to = implies (is_lasting to) (is_none (d.names to)) && not (is_foreign to) && implies (comes_guarded to) (may_write d who to)
