use Rattle.std.proofs.Common.{◌≡◌, ◌++◌, ◌∷◌, append_assoc}
use Rattle.report_text.specs.Lines.{row_line, place_part, key_part}
use Rattle.report_text.specs.Outcomes.{ends_well}
use Rattle.report_text.proofs.Endings.{spaced_well}
use Rattle.report_text.proofs.outcome.is_well.Goals as goal

pub returns-in-Entry : goal.returns-in-Entry
returns-in-Entry c =
    let line : ends_well (row_line c.args.row.now) ≡ ends_well (32 ∷ c.in-Entry.finding) =
    rw (c.in-Entry.is, ← append_assoc) (spaced_well (place_part c.in-Entry.place ++ key_part c.in-Entry.key) c.in-Entry.finding) in
    rw (line, ← c.as_str-in-Entry.ensures) c.closes_well.ensures
