use Rattle.std.proofs.Common.{◌≡◌, ◌∙◌, false, List, None, sym, ap}
use Rattle.std.proofs.lemmas.Result.{on_ok_weaker, on_err_weaker}
use Rattle.file_log.specs.State.{State, state_of}
use Rattle.sim_world.specs.declared.failing.Failing.{Failing}
use Rattle.sim_world.specs.Tables.{task_of, failing_of}
use Rattle.sim_world.specs.Stages.{scene_from}
use Rattle.sim_world.proofs.Moving.{idle_seated, idle_plays, moved_seated, moved_jobs, moved_plays, moved_lacks}
use Rattle.sim_world.proofs.Ordered.{state_is, may_advance}
use Rattle.sim_world.proofs.Passing.{known_apart, advance_passes}
use Rattle.sim_world.proofs.Turning.{turn_applied}
use Rattle.sim_world.proofs.stage.Stage.step.Goals as goal

pub advance-moved-requires-clause-may : goal.advance-moved-requires-clause-may
advance-moved-requires-clause-may c =
    let old = c.args.self.now in
    let who = c.args.who in
    let goes : (state_of old.world.past).halted who.process ≡ false = sym c.is_halted.ensures ∙ c.if-is_halted.false in
    may_advance who old.world old.seats.items c.in-Some.task c.requires.order.seated (known_apart old.outsider who c.requires.elsewhere) goes (sym c.in-Some.ensures.task)

pub returns-clause-order : goal.returns-clause-order
returns-clause-order c =
    let old = c.args.self.now in
    let who = c.args.who in
    let w = c.advance-moved.new.world in
    let goes : (state_of old.world.past).halted who.process ≡ false = sym c.is_halted.ensures ∙ c.if-is_halted.false in
    let out = c.take_out.new.seats.items in
    let seats = c.put_in.new.seats.items in
    let taken = c.in-Some.ensures in
    record {
      seated = moved_seated who old.world w old.seats.items out seats c.in-Some.task c.advance-moved.result c.requires.order.seated (known_apart old.outsider who c.requires.elsewhere) goes taken.task taken.others taken.once c.put_in.ensures c.failing_of-failing.result c.advance-moved.ensures;
      queues = moved_jobs who old.world w old.seats.items out seats c.in-Some.task c.advance-moved.result c.requires.order.seated (known_apart old.outsider who c.requires.elsewhere) goes taken.task taken.others taken.once c.put_in.ensures c.failing_of-failing.result old.jobs.items old.offered.items c.advance-moved.ensures c.requires.order.queues;
    }

pub returns-clause-plays : goal.returns-clause-plays
returns-clause-plays c =
    let old = c.args.self.now in
    let who = c.args.who in
    let w = c.advance-moved.new.world in
    let goes : (state_of old.world.past).halted who.process ≡ false = sym c.is_halted.ensures ∙ c.if-is_halted.false in
    let goes_there = sym (ap (λ (s : State). s.halted who.process) (state_is old.world c.requires.order.seated.start)) ∙ goes in
    let out = c.take_out.new.seats.items in
    let seats = c.put_in.new.seats.items in
    let taken = c.in-Some.ensures in
    let waits : c.failing_of-failing.result ≡ failing_of old.failing.items who = c.failing_of-failing.ensures ∙ ap (λ (failing : List Failing). failing_of failing who) c.deref.ensures.value in
    on_ok_weaker c.settle.result
    (λ brought. turn_applied (scene_from old.world old.seats.items old.failing.items old.jobs.items) (scene_from w seats c.settle.new.failing.items old.jobs.items) goes_there
    (moved_plays who old.world w old.seats.items out seats c.in-Some.task c.advance-moved.result c.requires.order.seated (known_apart old.outsider who c.requires.elsewhere) goes taken.task taken.others taken.once c.put_in.ensures
    old.failing.items c.settle.new.failing.items old.jobs.items c.failing_of-failing.result waits c.settle.ensures.failing brought c.advance-moved.ensures))
    c.settle.ensures.brought

pub returns-clause-grows : goal.returns-clause-grows
returns-clause-grows c =
    let old = c.args.self.now in
    advance_passes old.outsider c.args.who old.world c.advance-moved.new.world c.in-Some.task c.failing_of-failing.result c.advance-moved.result c.requires.elsewhere c.advance-moved.ensures

pub returns-clause-refused : goal.returns-clause-refused
returns-clause-refused c =
    let old = c.args.self.now in
    let who = c.args.who in
    let goes : (state_of old.world.past).halted who.process ≡ false = sym c.is_halted.ensures ∙ c.if-is_halted.false in
    let taken = c.in-Some.ensures in
    let waits : c.failing_of-failing.result ≡ failing_of old.failing.items who = c.failing_of-failing.ensures ∙ ap (λ (failing : List Failing). failing_of failing who) c.deref.ensures.value in
    on_err_weaker c.settle.result
    (λ lack. moved_lacks who old.world c.advance-moved.new.world old.seats.items c.take_out.new.seats.items c.put_in.new.seats.items c.in-Some.task c.advance-moved.result c.requires.order.seated (known_apart old.outsider who c.requires.elsewhere) goes taken.task taken.others taken.once c.put_in.ensures
    old.failing.items c.settle.new.failing.items old.jobs.items c.failing_of-failing.result waits c.settle.ensures.failing lack c.advance-moved.ensures)
    c.settle.ensures.lack

pub returns-in_default-clause-order : goal.returns-in_default-clause-order
returns-in_default-clause-order c =
    let old = c.args.self.now in
    let who = c.args.who in
    let out = c.take_out.ensures in
    let none : None ≡ task_of old.seats.items who = sym c.in_default.is ∙ out.task in
    record { seated = idle_seated who old.world old.seats.items c.take_out.new.seats.items c.requires.order.seated none out.others out.once; queues = c.requires.order.queues }

pub returns-in_default-clause-plays : goal.returns-in_default-clause-plays
returns-in_default-clause-plays c =
    let old = c.args.self.now in
    let who = c.args.who in
    let goes : (state_of old.world.past).halted who.process ≡ false = sym c.is_halted.ensures ∙ c.if-is_halted.false in
    let goes_there = sym (ap (λ (s : State). s.halted who.process) (state_is old.world c.requires.order.seated.start)) ∙ goes in
    let out = c.take_out.new.seats.items in
    let none : None ≡ task_of old.seats.items who = sym c.in_default.is ∙ c.take_out.ensures.task in
    turn_applied (scene_from old.world old.seats.items old.failing.items old.jobs.items) (scene_from old.world out old.failing.items old.jobs.items) goes_there
    (idle_plays who old.world old.seats.items out old.failing.items old.jobs.items none c.take_out.ensures.others)
