use Rattle.std.proofs.Common.{◌≡◌, ℕ, Bool, sym, ap, subst, ◌∙◌}
use mathlib.Core.Path.{fun_ext}
use Rattle.files_api.specs.declared.machine.Step.{Step}
use Rattle.files_api.specs.declared.machine.Step.TheVariants.{Ask}
use Rattle.file_log.specs.Exchange.{Answers}
use Rattle.file_log.specs.Told.{Called}
use Rattle.files_api.specs.Drive.{Allows, Goes}
use Rattle.files_api.proofs.Driving.{goes_on, ends, filled_then, hurt_then, inside_then}
use Rattle.files_api.proofs.operation.drive.Goals as goal

pub returns-in-Done-clause-run : goal.returns-in-Done-clause-run
returns-in-Done-clause-run g c = ends _ _ _ _ _ _ _ _ _ _ _ _ _ _ c.calls.invariant.so_far (sym c.in-Done.ensures.step) c.in-Done.ensures.after

pub calls-preserved : goal.calls-preserved
calls-preserved g c =
    let m = g.M.Machine in
    let f = g.F.Files in
    let now = c.calls.machine in
    let next = c.feed.new.self in
    let call = c.in-Ask.call in
    let reply = c.call-reply.result in
    let seen = f.seen c.calls.files in
    let is : m.asks now ≡ Ask call = sym c.in-Ask.ensures.step in
    let fed : m.fed (m.asked now) reply next = rw (← c.in-Ask.ensures.after) c.feed.ensures in
    let within = c.calls.invariant.inside in
    let fits = subst (λ (b : Bool). Answers b call reply) within c.call-reply.ensures.fits in
    let goes = subst (λ (s : Step). Goes (m.slots now) (m.hurt now) (m.left now) s reply (m.slots next) (m.hurt next) (m.left next)) is (g.met.M.Machine.goes_on now next reply c.calls.invariant.right fed) fits in
    let allows = subst (λ (s : Step). Allows (m.slots now) (m.hurt now) s) is (g.met.M.Machine.allowed now c.calls.invariant.right) in
    let same : seen.filled ≡ m.slots now = fun_ext c.calls.invariant.slots in
    let told = subst (λ (b : Bool). Called (f.me c.calls.files) b call reply (f.history c.calls.files) (f.history c.call-reply.new.self)) within c.call-reply.ensures.told in
    record {
      right = g.met.M.Machine.stays now next call reply c.calls.invariant.right is fits fed;
      calm = λ e. goes.covers (hurt_then seen (m.slots now) (m.hurt now) call reply same within c.calls.invariant.calm (sym c.call-reply.ensures.seen.hurt ∙ e));
      slots = λ at. c.call-reply.ensures.seen.filled at ∙ filled_then seen (m.slots now) (m.hurt now) call reply same within at ∙ sym (goes.filled at);
      inside = c.call-reply.ensures.seen.inside ∙ inside_then seen (m.slots now) (m.hurt now) call reply same within allows.1;
      me = c.call-reply.ensures.me ∙ c.calls.invariant.me;
      so_far = goes_on _ _ _ _ _ _ _ _ now next _ (f.history c.calls.files) _ _ _ _ call reply c.calls.invariant.so_far is fits fed goes.less c.call-reply.ensures.cause (rw c.calls.invariant.me at told);
    }
