use Rattle.std.proofs.Common.{sym, ◌∙◌}
use Rattle.cache_types.proofs.Texts.{no_zero, too_long, text_split}
use Rattle.cache_types.proofs.front.split_text.Goals as goal

pub returns-in_err-end-clause-none : goal.returns-in_err-end-clause-none
returns-in_err-end-clause-none c = λ _ text rest s. no_zero _ text rest (sym c.first_zero.ensures ∙ c.in_err-end.was) s

pub returns-then-end-gt-MAX_DRIVER_TEXT-clause-none :
    goal.returns-then-end-gt-MAX_DRIVER_TEXT-clause-none
returns-then-end-gt-MAX_DRIVER_TEXT-clause-none c = λ _ text rest s.
    too_long _ text rest _ (sym c.first_zero.ensures ∙ c.in_ok-end.was) c.if-end-gt-MAX_DRIVER_TEXT.true s

pub returns-clause-found : goal.returns-clause-found
returns-clause-found c =
    text_split _ _ (sym c.first_zero.ensures ∙ c.in_ok-end.was) c.if-end-gt-MAX_DRIVER_TEXT.false
