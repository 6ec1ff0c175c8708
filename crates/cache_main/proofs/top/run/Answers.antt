use Rattle.std.proofs.Common.{Option, refl, sym, ap, subst}
use Rattle.cmd_words.specs.declared.command.Command.{Command}
use Rattle.settings_read.specs.Variables.{texts_of}
use Rattle.cache_main.specs.Cooperating.{MissesTruly}
use Rattle.cache_main.specs.Top.{RefusesSource}
use Rattle.cache_main.proofs.Among.{stays, ends_keep, ends_missed}
use Rattle.cache_main.proofs.top.run.Goals as goal

pub returns-in-Ok-clause-too_large : goal.returns-in-Ok-clause-too_large
returns-in-Ok-clause-too_large g c = λ count e.
    let left = g.S.Source.left in
    subst (λ (asked : Option Command). RefusesSource asked count (left c.args.source.now) (left c.run_command.new.source)) (sym c.in-Ok.ensures.asked) (c.run_command.ensures.ends.too_large count e)

pub returns-in-Ok-clause-keeps : goal.returns-in-Ok-clause-keeps
returns-in-Ok-clause-keeps g c =
    let f = g.F.Files in
    ends_keep (f.me c.args.files.now) (f.history c.args.files.now) (f.history c.run_command.new.files) _ _ c.in-Ok.command (texts_of c.args.vars.now) c.run_command.result _ _ _ _ _ _ _ _ c.run_command.ensures.ends (λ same. ap f.history same) c.run_command.ensures.files

pub returns-in-Ok-clause-misses : goal.returns-in-Ok-clause-misses
returns-in-Ok-clause-misses g c =
    let f = g.F.Files in
    subst (λ (asked : Option Command). MissesTruly asked (f.me c.args.files.now) c.run_command.result (f.history c.args.files.now) (f.history c.run_command.new.files)) (sym c.in-Ok.ensures.asked)
    (ends_missed (f.me c.args.files.now) (f.history c.args.files.now) (f.history c.run_command.new.files) _ _ c.in-Ok.command (texts_of c.args.vars.now) c.run_command.result _ _ _ _ _ _ _ _ c.run_command.ensures.ends c.in-Ok.ensures.served)

pub returns-in-Err-clause-keeps : goal.returns-in-Err-clause-keeps
returns-in-Err-clause-keeps g c =
    let f = g.F.Files in
    stays (f.me c.args.files.now) (f.history c.args.files.now) _ refl
