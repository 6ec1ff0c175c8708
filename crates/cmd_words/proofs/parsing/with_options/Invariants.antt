use Rattle.std.proofs.Common.{◌≡◌, length, map}
use Rattle.clap.specs.Simple.{app_of}
use Rattle.cmd_words.specs.Parsed.{with_options}
use Rattle.cmd_words.proofs.parsing.with_options.Given as goal

abbrev pub invariant-loop-rest : goal.invariant-loop-rest
invariant-loop-rest l = with_options (app_of l.parser) (map (λ name. name.now) l.rest) ≡ with_options (app_of l.fn.bare) (map (λ name. name.now) l.names)

abbrev pub decreases-loop-rest : goal.decreases-loop-rest
decreases-loop-rest l = length l.rest
