use Rattle.std.proofs.Common.{rules, ◌∙◌, ap₂, sym, map, string_bytes, List, ℕ, Some}
use Rattle.cmd_words.specs.declared.option_list.OptionPair.{OptionPair}
use Rattle.clap.specs.Matches.{found_of}
use Rattle.clap.specs.Walk.{rows_of}
use Rattle.cmd_words.specs.Parsed.{parts_in}
use Rattle.cmd_words.proofs.Parses.{no_repeat_taken, stray_taken, taken_none, taken_rows}
use Rattle.cmd_words.proofs.parsing.parsed.Goals as goal

pub returns-then-has_stray-clause-usage : goal.returns-then-has_stray-clause-usage
returns-then-has_stray-clause-usage c = λ _. stray_taken (map string_bytes c.args.words.now) (sym c.has_stray.ensures ∙ c.if-has_stray.true)

pub returns-in_err-found-clause-usage : goal.returns-in_err-found-clause-usage
returns-in_err-found-clause-usage c = λ refused. taken_none (map string_bytes c.args.words.now) (sym c.has_stray.ensures ∙ c.if-has_stray.false) (c.matches_of.ensures.usage (search rules))

pub command_in-requires : goal.command_in-requires
command_in-requires c =
    let words : List (List ℕ) = map string_bytes c.args.words.now in
    no_repeat_taken words (parts_in (rows_of (found_of c.in_ok-found.found)))
    (taken_rows words (rows_of (found_of c.in_ok-found.found)) (sym c.has_stray.ensures ∙ c.if-has_stray.false) c.in_ok-found.ensures.fits c.in_ok-found.ensures.rows)

pub returns-clause-parts : goal.returns-clause-parts
returns-clause-parts c =
    let words : List (List ℕ) = map string_bytes c.args.words.now in
    taken_rows words (rows_of (found_of c.in_ok-found.found)) (sym c.has_stray.ensures ∙ c.if-has_stray.false) c.in_ok-found.ensures.fits c.in_ok-found.ensures.rows
    ∙ ap₂ (λ (options : List OptionPair) (places : List (List ℕ)). Some (record { options = options; places = places })) (sym c.in_ok-command_in.ensures.options) (sym c.in_ok-command_in.ensures.places)
