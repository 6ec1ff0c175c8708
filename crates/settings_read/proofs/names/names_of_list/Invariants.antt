use Rattle.std.proofs.Common.{◌≡◌, ◌==◌, length, map, take}
use Rattle.std.specs.List.{slice_split}
use Rattle.std.specs.Str.Lines.{strip_carriage_return}
use Rattle.settings_read.specs.Names.{names_among}
use Rattle.settings_read.specs.Seen.{IsSeen}
use Rattle.settings_read.proofs.names.names_of_list.Given as goal

abbrev pub invariant-loop-line : goal.invariant-loop-line
invariant-loop-line l =
    (goal.iterator-loop-line).can_next l.line-iterator
    × (goal.iterator-loop-line).is_finite l.line-iterator
    × (l.names ≡ names_among (take (length l.yielded) (map strip_carriage_return (slice_split (λ byte. byte == 10) l.bytes))))
    × IsSeen l.seen l.names
