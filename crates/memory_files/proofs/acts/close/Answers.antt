use Rattle.std.proofs.Common.{sym, subst}
use Rattle.file_log.specs.declared.call.Call.TheVariants.{Close}
use Rattle.file_log.specs.declared.reply.Reply.TheVariants.{Done}
use Rattle.memory_files.specs.Seats.{Tells}
use Rattle.memory_files.proofs.Calls.{did_tells}
use Rattle.memory_files.proofs.acts.close.Goals as goal

pub returns-clause-tells : goal.returns-clause-tells
returns-clause-tells c =
    let me = c.args.me in
    let call = Close c.args.slot in
    let old = c.args.world.now in
    subst (Tells me call Done old) (sym c.close.ensures.told) (did_tells me call Done old tt c.requires.goes_on (λ inside. (tt, tt)) c.close.ensures.legal)
