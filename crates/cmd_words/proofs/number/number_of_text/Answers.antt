use Rattle.std.proofs.Common.{◌≡◌, ◌∙◌, sym, ap, true}
use Rattle.cmd_words.specs.Numbers.{is_numeral}
use Rattle.cmd_words.proofs.Numerals.{parsed}
use Rattle.cmd_words.proofs.number.number_of_text.Goals as goal

pub returns-then-is_numeral : goal.returns-then-is_numeral
returns-then-is_numeral c =
    let is : is_numeral c.args.text.now ≡ true = ap is_numeral (sym c.as_bytes.ensures.value) ∙ sym c.is_numeral.ensures ∙ c.if-is_numeral.true in
    c.ok.ensures.value ∙ parsed c.args.text.now c.parse.result is c.parse.ensures.value.0
