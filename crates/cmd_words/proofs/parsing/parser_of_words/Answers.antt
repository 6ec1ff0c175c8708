use Rattle.std.proofs.Common.{rules, ◌≡◌, ◌∙◌, ap, ap₂}
use Rattle.clap.specs.Simple.{App, with_rule}
use Rattle.clap.specs.Walk.{rule_of}
use Rattle.cmd_words.specs.Parsed.{option_names, place_rule, with_options}
use Rattle.cmd_words.proofs.parsing.parser_of_words.Goals as goal

pub returns : goal.returns
returns c =
    let place : rule_of c.action-places.result ≡ place_rule = search rules in
    let options = c.in_ok-parser.ensures ∙ ap (λ (a : App). with_options a option_names) c.bare_parser.ensures in
    c.in_ok-arg.ensures.shape (search rules) ∙ ap₂ with_rule options place
