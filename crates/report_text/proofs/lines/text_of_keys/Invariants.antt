use Rattle.std.proofs.Common.{◌≡◌, take, string_bytes}
use Rattle.report_text.specs.Lines.{key_lines}
use Rattle.report_text.proofs.lines.text_of_keys.Given as goal

abbrev pub invariant-loop-key : goal.invariant-loop-key
invariant-loop-key l = string_bytes l.text ≡ key_lines (take l.key-index l.keys)
