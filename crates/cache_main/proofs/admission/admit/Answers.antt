use Rattle.settings_read.specs.Variables.{texts_of}
use Rattle.cache_main.proofs.Admitting.{SettingsRefused, settings_refused}
use Rattle.cache_main.proofs.admission.admit.Goals as goal

pub returns-in-Err-clause-refused : goal.returns-in-Err-clause-refused
returns-in-Err-clause-refused c =
    let refused : SettingsRefused c.args.command.now (texts_of c.args.vars.now) c.in-Err.status =
    record { off = c.in-Err.ensures.off; no_root = c.in-Err.ensures.no_root; too_many = c.in-Err.ensures.too_many; refused = c.in-Err.ensures.refused } in
    settings_refused c.args.command.now (texts_of c.args.vars.now) c.in-Err.status refused
