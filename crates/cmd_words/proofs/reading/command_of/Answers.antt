use Rattle.std.proofs.Common.{rules, ◌≡◌, ◌∙◌, ap, sym, map, string_bytes, List, ℕ, ◌∷◌, Option, Some, None, Bool, true, false, cond}
use Rattle.cmd_words.specs.Parsed.{taken_parts}
use Rattle.cmd_words.specs.declared.command.Command.{Command}
use Rattle.cmd_words.specs.declared.word.Word.{Word}
use Rattle.cmd_words.specs.Reading.{Parts, is_fit, reading_of}
use Rattle.cmd_words.specs.Table.{row_of, word_of}
use Rattle.cmd_words.proofs.Fits.{reading_of_fit, reading_of_none}
use Rattle.cmd_words.proofs.Laws.{known}
use Rattle.cmd_words.proofs.Parses.{taken_once}
use Rattle.cmd_words.proofs.reading.command_of.Goals as goal

abbrev made : Word → Parts → Option Command
made word parts = Some (record { word = word; options = parts.options; places = parts.places })

-- the command is what the words read as
read : (first : List ℕ) (rest : List (List ℕ)) (found : Option Word) (word : Word) (command : Command) (fit : Bool) → found ≡ word_of first → found ≡ Some word → command.word ≡ word
    → taken_parts rest ≡ Some (record { options = command.options; places = command.places })
    → fit ≡ is_fit (row_of command.word) (record { options = command.options; places = command.places }) → reading_of (first ∷ rest) ≡ cond fit (Some command) None
read first rest found word command fit told is same taken tested =
    let parts : Parts = record { options = command.options; places = command.places } in
    reading_of_fit first rest word parts fit (sym told ∙ is) taken (ap (λ (w : Word). is_fit (row_of w) parts) (sym same) ∙ sym tested)
    ∙ ap (λ (w : Word). cond fit (made w parts) None) (sym same)

pub returns-in_err-command-clause-usage : goal.returns-in_err-command-clause-usage
returns-in_err-command-clause-usage c = λ refused. reading_of_none c.args.first.now (map string_bytes c.args.rest.now) c.in-Some.word (sym c.word_of.ensures ∙ c.in-Some.is) (c.parsed.ensures.usage (search rules))

pub is_fit-requires : goal.is_fit-requires
is_fit-requires c = (taken_once (map string_bytes c.args.rest.now) _ c.in_ok-command.ensures.parts).1

pub returns-then-is_fit-clause-reading : goal.returns-then-is_fit-clause-reading
returns-then-is_fit-clause-reading c =
    read c.args.first.now (map string_bytes c.args.rest.now) c.word_of.result c.in-Some.word c.in_ok-command.command true c.word_of.ensures c.in-Some.is c.in_ok-command.ensures.word c.in_ok-command.ensures.parts (sym c.if-is_fit.true ∙ c.is_fit.ensures)

pub returns-then-is_fit-clause-known : goal.returns-then-is_fit-clause-known
returns-then-is_fit-clause-known c =
    known (c.args.first.now ∷ map string_bytes c.args.rest.now) c.in_ok-command.command
    (read c.args.first.now (map string_bytes c.args.rest.now) c.word_of.result c.in-Some.word c.in_ok-command.command true c.word_of.ensures c.in-Some.is c.in_ok-command.ensures.word c.in_ok-command.ensures.parts (sym c.if-is_fit.true ∙ c.is_fit.ensures))

pub returns-else-is_fit-clause-usage : goal.returns-else-is_fit-clause-usage
returns-else-is_fit-clause-usage c = λ _.
    read c.args.first.now (map string_bytes c.args.rest.now) c.word_of.result c.in-Some.word c.in_ok-command.command false c.word_of.ensures c.in-Some.is c.in_ok-command.ensures.word c.in_ok-command.ensures.parts (sym c.if-is_fit.false ∙ c.is_fit.ensures)
