use Rattle.std.proofs.Common.{◌≡◌, length, map, string_bytes}
use Rattle.cmd_words.specs.Parsed.{has_stray}
use Rattle.cmd_words.proofs.parsing.has_stray.Given as goal

abbrev pub invariant-loop-rest : goal.invariant-loop-rest
invariant-loop-rest l = has_stray (map string_bytes l.rest) ≡ has_stray (map string_bytes l.words)

abbrev pub decreases-loop-rest : goal.decreases-loop-rest
decreases-loop-rest l = length l.rest
