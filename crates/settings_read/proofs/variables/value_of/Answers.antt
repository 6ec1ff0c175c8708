use Rattle.std.proofs.Common.{◌==◌, List, ℕ, length, None, Some, ap, sym, ◌∙◌, option_copied}
use Rattle.std.proofs.lemmas.Bool.{cond-true, cond-false}
use Rattle.settings_read.specs.Variables.{unless_empty}
use Rattle.settings_read.proofs.Pairs.{value_found}
use Rattle.settings_read.proofs.variables.value_of.Goals as goal

pub returns-in_err-first_pair : goal.returns-in_err-first_pair
returns-in_err-first_pair c = ap option_copied c.from_residual.ensures ∙ sym (value_found c.args.vars.now c.args.name.now None c.in_err-first_pair.ensures)

pub returns-then-is_empty : goal.returns-then-is_empty
returns-then-is_empty c =
    let value : List ℕ = c.as_str-value.result.now in
    sym (value_found c.args.vars.now c.args.name.now (Some c.in_ok-first_pair.field-0.now) c.in_ok-first_pair.ensures
    ∙ ap unless_empty (sym c.as_str-value.ensures.value)
    ∙ cond-true (length value == 0) None (Some value) (sym c.is_empty.ensures ∙ c.if-is_empty.true))

pub returns-else-is_empty : goal.returns-else-is_empty
returns-else-is_empty c =
    let value : List ℕ = c.as_str-value.result.now in
    sym (value_found c.args.vars.now c.args.name.now (Some c.in_ok-first_pair.field-0.now) c.in_ok-first_pair.ensures
    ∙ ap unless_empty (sym c.as_str-value.ensures.value)
    ∙ cond-false (length value == 0) None (Some value) (sym c.is_empty.ensures ∙ c.if-is_empty.false))
