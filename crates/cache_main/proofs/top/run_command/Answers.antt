use Rattle.std.proofs.Common.{refl, ap, sym, arith}
use Rattle.settings_read.specs.Variables.{texts_of}
use Rattle.cache_main.proofs.SettingsEnds.{settings_ends}
use Rattle.cache_main.proofs.top.run_command.Goals as goal

pub returns-in-Settings-clause-ends : goal.returns-in-Settings-clause-ends
returns-in-Settings-clause-ends g c = settings_ends _ _ _ c.args.command.now (texts_of c.args.vars.now) _ c.run_settings.result _ _ _ _ _ _ _ _ _ _ c.in-Settings.is refl refl c.run_settings.ensures (omega arith) (λ same. sym (ap g.K.Sink.faults same))
