use Rattle.std.proofs.Common.{map, string_bytes, rules}
use Rattle.cmd_words.specs.declared.command.Command.{Command}
use Rattle.path_names.specs.declared.paths.Paths.{Paths}
use Rattle.report_text.specs.declared.status.Status.TheVariants.{TooManyReadOnly}
use Rattle.settings_read.specs.declared.cache_settings.CacheSettings.{CacheSettings}
use Rattle.settings_read.specs.Settings.{HasTooMany}
use Rattle.settings_read.specs.Variables.{texts_of}
use Rattle.cache_main.specs.Settings.{over_of}
use Rattle.cache_main.specs.Words.{asked, NeedsSettings}
use Rattle.cache_main.proofs.Asking.{refuses_asked}
use Rattle.cache_main.proofs.plan.plan_of.Goals as goal

pub returns-in-Err-settings_for-clause-too_many : goal.returns-in-Err-settings_for-clause-too_many
returns-in-Err-settings_for-clause-too_many c = λ n.
    refuses_asked CacheSettings Paths c.in-Err-settings_for.status (TooManyReadOnly n) (asked (map string_bytes c.args.words.now)) c.in-Ok.command (λ (command : Command). NeedsSettings command.word) (λ (command : Command). HasTooMany (texts_of c.args.vars.now) (over_of command) n) c.in-Ok.ensures.asked (c.needs_settings.ensures.0 (search rules)) (c.in-Err-settings_for.ensures.too_many n)
