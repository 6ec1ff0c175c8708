-- The status that each answer ends a call with.
use Rattle.std.specs.Prelude.{ℕ, Bool, ◌||◌, if◌then◌else◌, List, codes, eqb}
use Rattle.std.specs.List.{ends_with, list_all}
use Rattle.std.specs.Cmp.Lexicographic.{pointwise}
use Rattle.cache_types.specs.declared.answer.Answer.{Answer}
use Rattle.cache_types.specs.declared.answer.Answer.TheVariants as answers
use Rattle.report_text.specs.declared.status.Status.{Status}
use Rattle.report_text.specs.declared.status.Status.TheVariants as statuses
use Rattle.report_text.specs.Lines.{row_line}

-- a finding that tells of no damage
abbrev pub is_no_damage : List ℕ → Bool
is_no_damage finding = pointwise eqb finding (codes "ok") || pointwise eqb finding (codes "absent") || pointwise eqb finding (codes "OtherFormat")

-- a line that tells of no damage
abbrev pub ends_well : List ℕ → Bool
ends_well line = ends_with eqb line (codes " ok") || ends_with eqb line (codes " absent") || ends_with eqb line (codes " OtherFormat")

-- the status of a call that ends with this answer
abbrev pub status_of_answer : Answer → Status
status_of_answer answers.Miss = statuses.Miss
status_of_answer (answers.Rows list) =
    if list_all (λ row. ends_well (row_line row)) list then statuses.Ok else statuses.Damaged
status_of_answer (answers.TooLarge n) = statuses.TooLarge n
status_of_answer answers.Foreign = statuses.Foreign
status_of_answer answers.Busy = statuses.Busy
status_of_answer answers.FilesFault = statuses.FilesFault
status_of_answer answers.NoMemory = statuses.NoMemory
status_of_answer answer = statuses.Ok
