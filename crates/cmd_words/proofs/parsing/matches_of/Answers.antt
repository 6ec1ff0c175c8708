use Rattle.std.proofs.Common.{◌∙◌, ap, map, string_bytes}
use Rattle.clap.specs.Simple.{App, is_simple, matches_of}
use Rattle.cmd_words.proofs.parsing.matches_of.Goals as goal

pub returns-in-Ok-clause-rows : goal.returns-in-Ok-clause-rows
returns-in-Ok-clause-rows c =
    let made = c.in_ok-parser_of_words.ensures in
    (c.in-Ok.ensures.matches (ap is_simple made)).0 ∙ ap (λ (a : App). matches_of a (map string_bytes c.args.words.now)) made
