use Rattle.std.proofs.Common.{◌≡◌, take, string_bytes}
use Rattle.report_text.specs.Lines.{row_lines}
use Rattle.report_text.proofs.lines.text_of_rows.Given as goal

abbrev pub invariant-loop-row : goal.invariant-loop-row
invariant-loop-row l = string_bytes l.text ≡ row_lines (take l.row-index l.rows)
