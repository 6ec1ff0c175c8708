use Rattle.std.proofs.Common.{◌∙◌, true, sym, subst}
use Rattle.file_log.specs.declared.call.Call.TheVariants.{WriteAt}
use Rattle.file_log.specs.declared.reply.Reply.TheVariants.{Done}
use Rattle.file_model.specs.Held.{Held}
use Rattle.memory_files.specs.Failures.{Fails}
use Rattle.memory_files.specs.Seats.{Tells}
use Rattle.memory_files.proofs.Calls.{write_tells}
use Rattle.memory_files.proofs.Failures.{fails_at_once}
use Rattle.memory_files.proofs.acts.write.Goals as goal

pub returns-in-Ok-clause-tells : goal.returns-in-Ok-clause-tells
returns-in-Ok-clause-tells c =
    let me = c.args.me in
    let call = WriteAt c.args.slot c.args.at c.args.bytes in
    let old = c.args.world.now in
    subst (Tells me call Done old) (sym c.in-Ok.ensures.ok) (write_tells me c.args.slot c.args.at c.args.bytes old (sym c.is_empty.ensures ∙ c.if-is_empty.false) c.requires.goes_on c.in-Ok.ensures.legal)

pub returns-in-Err-clause-tells : goal.returns-in-Err-clause-tells
returns-in-Err-clause-tells c =
    let me = c.args.me in
    let call = WriteAt c.args.slot c.args.at c.args.bytes in
    let old = c.args.world.now in
    fails_at_once me call old tt c.requires.may.1 c.requires.goes_on true c.fail.result c.fail.new.world
    (subst (λ (w : Held). Fails me true c.fail.result w c.fail.new.world) c.in-Err.ensures.err c.fail.ensures.fails)
