use Rattle.std.proofs.Common.{ap}
use Rattle.memory_files.specs.Plans.{is_tell}
use Rattle.memory_files.proofs.Failures.{fails_at_once}
use Rattle.memory_files.proofs.Planned.{tell_refused, counted_may_fail, fails_so}
use Rattle.memory_files.proofs.acts.refuse.Goals as goal

pub returns-in-Tell-clause-tells : goal.returns-in-Tell-clause-tells
returns-in-Tell-clause-tells c = tell_refused c.args.me c.args.call c.args.world.now c.requires.counted (ap is_tell c.in-Tell.is) c.requires.goes_on

pub returns : goal.returns
returns c =
    let me = c.args.me in
    let call = c.args.call in
    let old = c.args.world.now in
    let memory = c.args.fault.memory in
    let may = counted_may_fail call c.requires.counted c.in_default.not-Tell in
    record {
      tells = fails_at_once me call old may c.requires.may.1 c.requires.goes_on memory c.fail.result c.fail.new.world c.fail.ensures.fails;
      refused = fails_so me memory c.fail.result old c.fail.new.world c.fail.ensures.fails;
    }
