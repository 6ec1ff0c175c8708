use Rattle.std.proofs.Common.{◌∙◌, List, ℕ, true, ap, subst}
use Rattle.file_log.specs.declared.call.Call.TheVariants.{WriteAt}
use Rattle.file_log.specs.Exchange.{byte_items}
use Rattle.file_log.specs.Legal.{Legal}
use Rattle.file_log.specs.State.{state_of}
use Rattle.file_model.specs.Held.{Held, told}
use Rattle.memory_files.specs.Failures.{Fails}
use Rattle.memory_files.proofs.Failures.{fails_tells, fails_at_once, still_calm, still_goes_on}
use Rattle.memory_files.proofs.acts.write_part.Goals as goal

pub fail-requires-clause-calm : goal.fail-requires-clause-calm
fail-requires-clause-calm c =
    let me = c.args.me in
    let call = WriteAt c.args.slot c.args.at c.args.bytes in
    let old = c.args.world.now in
    let is = c.in-Ok.ensures.ok ∙ ap (λ (part : List ℕ). told old (byte_items me c.args.slot c.args.at part)) c.cut.ensures in
    still_calm me call c.min.result old c.write_run.new.self c.requires.may.1 is

pub fail-requires-clause-goes_on : goal.fail-requires-clause-goes_on
fail-requires-clause-goes_on c =
    let me = c.args.me in
    let call = WriteAt c.args.slot c.args.at c.args.bytes in
    let old = c.args.world.now in
    let is = c.in-Ok.ensures.ok ∙ ap (λ (part : List ℕ). told old (byte_items me c.args.slot c.args.at part)) c.cut.ensures in
    still_goes_on me call c.min.result old c.write_run.new.self c.requires.goes_on is

pub returns-in-Ok-clause-tells : goal.returns-in-Ok-clause-tells
returns-in-Ok-clause-tells c =
    let me = c.args.me in
    let slot = c.args.slot in
    let at = c.args.at in
    let call = WriteAt slot at c.args.bytes in
    let old = c.args.world.now in
    let is = c.in-Ok.ensures.ok ∙ ap (λ (part : List ℕ). told old (byte_items me slot at part)) c.cut.ensures in
    let legal = subst (λ (part : List ℕ). Legal (state_of old.past) (byte_items me slot at part)) c.cut.ensures c.in-Ok.ensures.legal in
    fails_tells me call c.min.result old tt c.requires.may.1 c.requires.goes_on legal c.args.fault.memory c.fail.result c.write_run.new.self c.fail.new.world is c.fail.ensures.fails

pub returns-in-Err-clause-tells : goal.returns-in-Err-clause-tells
returns-in-Err-clause-tells c =
    let me = c.args.me in
    let call = WriteAt c.args.slot c.args.at c.args.bytes in
    let old = c.args.world.now in
    let result = c.fail-in-Err.result in
    let new = c.fail-in-Err.new.world in
    fails_at_once me call old tt c.requires.may.1 c.requires.goes_on true result new
    (subst (λ (w : Held). Fails me true result w new) c.in-Err.ensures.err c.fail-in-Err.ensures.fails)
