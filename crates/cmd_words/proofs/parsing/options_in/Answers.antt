use Rattle.std.proofs.Common.{◌≡◌, ◌∙◌, ap, ap₂, sym, List, ℕ, [], ◌++◌, append-nil}
use Rattle.cmd_words.specs.declared.option_list.OptionPair.{OptionPair}
use Rattle.clap.specs.Matches.{found_of, ids_left}
use Rattle.clap.specs.Walk.{Row, rows_of}
use Rattle.cmd_words.specs.Parsed.{options_named}
use Rattle.cmd_words.proofs.Finds.{named_is}
use Rattle.cmd_words.proofs.Parses.{ids_are, nothing_left}
use Rattle.cmd_words.proofs.parsing.options_in.Goals as goal

pub loop-name-init : goal.loop-name-init
loop-name-init c =
    let rows : List Row = rows_of (found_of c.args.found.now) in
    ap₂ (λ (before : List OptionPair) (names : List (List ℕ)). before ++ options_named rows names) c.new-options.ensures
    (ap ids_left c.into_iter-name-iterator.ensures.into_iter_gives ∙ c.ids-name-items.ensures ∙ ids_are (found_of c.args.found.now).entries.items)

pub returns : goal.returns
returns c =
    let rows : List Row = rows_of (found_of c.args.found.now) in
    let left : ids_left c.loop-name.name-iterator ≡ [] = nothing_left (ids_left c.loop-name.name-iterator) c.in-None.ensures.steps.0 in
    sym (append-nil c.loop-name.options)
    ∙ ap (λ (names : List (List ℕ)). c.loop-name.options ++ options_named rows names) (sym left)
    ∙ c.loop-name.invariant
    ∙ named_is rows c.requires
