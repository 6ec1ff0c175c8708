use Rattle.std.proofs.Common.{◌≡◌, ◌++◌, map}
use Rattle.clap.specs.Walk.{rows_of}
use Rattle.clap.specs.Matches.{found_of, ids_left}
use Rattle.cmd_words.specs.Parsed.{options_named}
use Rattle.cmd_words.proofs.parsing.options_in.Given as goal

abbrev pub invariant-loop-name : goal.invariant-loop-name
invariant-loop-name l = l.options ++ options_named (rows_of (found_of l.found)) (ids_left l.name-iterator) ≡ options_named (rows_of (found_of l.found)) (map (λ r. r.id) (rows_of (found_of l.found)))
