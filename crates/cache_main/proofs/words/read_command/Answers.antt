use Rattle.std.proofs.Common.{refl, inl, sym, ◌∙◌, map, string_bytes}
use Rattle.cache_main.proofs.Asking.{asked_is, not_served, not_read, not_usage}
use Rattle.cache_main.proofs.words.read_command.Goals as goal

pub returns-then-is_served-clause-asked : goal.returns-then-is_served-clause-asked
returns-then-is_served-clause-asked c = asked_is _ c.in-Ok.command c.in-Ok.ensures.reading (sym c.is_served.ensures ∙ c.if-is_served.true)

pub returns-then-is_served-clause-usage : goal.returns-then-is_served-clause-usage
returns-then-is_served-clause-usage c = not_usage c.in-Ok.command (map string_bytes c.args.words.now) c.in-Ok.command (asked_is _ c.in-Ok.command c.in-Ok.ensures.reading (sym c.is_served.ensures ∙ c.if-is_served.true))

pub returns-else-is_served-clause-usage : goal.returns-else-is_served-clause-usage
returns-else-is_served-clause-usage c = record { only = λ e. not_served (map string_bytes c.args.words.now) c.in-Ok.command c.in-Ok.ensures.reading (sym c.is_served.ensures ∙ c.if-is_served.false); always = λ p. inl refl }

pub returns-in-Err-Usage-clause-usage : goal.returns-in-Err-Usage-clause-usage
returns-in-Err-Usage-clause-usage c = record { only = λ e. not_read (map string_bytes c.args.words.now) (c.in-Err-Usage.ensures.usage (cc)); always = λ p. inl refl }
