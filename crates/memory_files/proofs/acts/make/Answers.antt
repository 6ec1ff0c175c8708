use Rattle.std.proofs.Common.{true, sym, subst}
use Rattle.file_model.specs.Held.{Held}
use Rattle.memory_files.specs.Failures.{Fails}
use Rattle.memory_files.specs.Seats.{Tells}
use Rattle.memory_files.proofs.Calls.{did_tells}
use Rattle.memory_files.proofs.Failures.{fails_at_once}
use Rattle.memory_files.proofs.acts.make.Goals as goal

pub returns-in-Ok-clause-tells : goal.returns-in-Ok-clause-tells
returns-in-Ok-clause-tells c =
    let me = c.args.me in
    let call = c.args.call in
    let old = c.args.world.now in
    let told = c.in-Ok.ensures in
    subst (Tells me call c.in-Ok.reply old) (sym told.ok) (did_tells me call c.in-Ok.reply old c.requires.one c.requires.goes_on told.fits told.legal)

pub returns-in-Err-clause-tells : goal.returns-in-Err-clause-tells
returns-in-Err-clause-tells c =
    let me = c.args.me in
    let call = c.args.call in
    let old = c.args.world.now in
    fails_at_once me call old c.requires.fails c.requires.may.1 c.requires.goes_on true c.fail.result c.fail.new.world
    (subst (λ (w : Held). Fails me true c.fail.result w c.fail.new.world) c.in-Err.ensures.err c.fail.ensures.fails)
