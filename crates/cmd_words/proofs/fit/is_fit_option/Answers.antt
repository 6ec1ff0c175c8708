use Rattle.std.proofs.Common.{◌∙◌, ap₂, List, ℕ}
use Rattle.cmd_words.specs.Options.{has_fit_value}
use Rattle.cmd_words.proofs.fit.is_fit_option.Goals as goal

pub returns : goal.returns
returns c = c.is_fit_value.ensures ∙ ap₂ (λ (name value : List ℕ). has_fit_value (record { name = name; value = value })) c.as_str.ensures c.as_str-2.ensures
