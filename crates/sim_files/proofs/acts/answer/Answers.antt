use Rattle.std.proofs.Common.{◌∙◌, arith}
use Rattle.sim_files.proofs.Calling.{made_first, made_due, may_still, made_more, made_reply, left_less, next_fits}
use Rattle.sim_files.proofs.acts.answer.Goals as goal

pub items-init : goal.items-init
items-init c = record { order = c.requires.order; outsider = c.requires.outsider; made = made_first c.args.me c.args.call.now c.args.stage.now.world.past c.requires.goes_on }

pub own_step-requires-clause-may : goal.own_step-requires-clause-may
own_step-requires-clause-may c =
    let old = c.args.stage.now.world.past in
    let mid = made_due c.args.me c.args.call.now c.items.done old c.items.stage c.play_before.new.stage c.seen-inside.result.inside c.is_due-due.result c.items.invariant.made c.items.invariant.outsider c.play_before.ensures.grows c.play_before.ensures.still c.seen-inside.ensures.inside c.is_due-due.ensures in
    may_still c.args.me c.args.call.now c.items.done old c.play_before.new.stage.world.past mid c.requires.may

pub own_step-requires-clause-place : goal.own_step-requires-clause-place
own_step-requires-clause-place c = c.items.invariant.made.place

pub own_step-requires-clause-alive : goal.own_step-requires-clause-alive
own_step-requires-clause-alive c =
    let old = c.args.stage.now.world.past in
    let mid = made_due c.args.me c.args.call.now c.items.done old c.items.stage c.play_before.new.stage c.seen-inside.result.inside c.is_due-due.result c.items.invariant.made c.items.invariant.outsider c.play_before.ensures.grows c.play_before.ensures.still c.seen-inside.ensures.inside c.is_due-due.ensures in
    mid.goes_on

pub overflow_add-done : goal.overflow_add-done
overflow_add-done c = omega (arith, next_fits c.args.call.now c.items.done c.call_known.ensures c.in-More.ensures.stepped.fits)

pub items-preserved : goal.items-preserved
items-preserved c =
    let old = c.args.stage.now.world.past in
    let mid = made_due c.args.me c.args.call.now c.items.done old c.items.stage c.play_before.new.stage c.seen-inside.result.inside c.is_due-due.result c.items.invariant.made c.items.invariant.outsider c.play_before.ensures.grows c.play_before.ensures.still c.seen-inside.ensures.inside c.is_due-due.ensures in
    record {
      order = c.own_step.ensures.order;
      outsider = c.own_step.ensures.outsider ∙ c.play_before.ensures.outsider ∙ c.items.invariant.outsider;
      made = made_more c.args.me c.args.call.now c.items.done old c.play_before.new.stage.world c.own_step.new.self.world mid c.requires.may c.in-More.ensures.stepped;
    }

pub items-smaller : goal.items-smaller
items-smaller c = left_less c.args.call.now c.items.done c.in-More.ensures.stepped.fits

pub returns-in-Reply-clause-tells : goal.returns-in-Reply-clause-tells
returns-in-Reply-clause-tells c =
    let old = c.args.stage.now.world.past in
    let mid = made_due c.args.me c.args.call.now c.items.done old c.items.stage c.play_before.new.stage c.seen-inside.result.inside c.is_due-due.result c.items.invariant.made c.items.invariant.outsider c.play_before.ensures.grows c.play_before.ensures.still c.seen-inside.ensures.inside c.is_due-due.ensures in
    made_reply c.args.me c.args.call.now c.items.done old c.play_before.new.stage.world c.own_step.new.self.world mid c.requires.may c.in-Reply.reply c.in-Reply.ensures.stepped
