use Rattle.std.proofs.Common.{◌≡◌, ◌∙◌, ◌∷◌, [], false, ap, sym, subst}
use Rattle.std.specs.Prelude.{is_some}
use Rattle.cache_types.specs.declared.seat.Who.{Who}
use Rattle.file_log.specs.declared.item.LogItem.TheVariants.{Stop}
use Rattle.file_log.specs.Seat.{course_of}
use Rattle.file_log.specs.State.{disk_of}
use Rattle.file_model.specs.Held.{Held, told, first_of}
use Rattle.memory_files.specs.Seats.{GoesOn}
use Rattle.memory_files.specs.Stopped.{stopped_at}
use Rattle.memory_files.proofs.NewSeats.{empty_then, goes_on_after_stop, outside_then}
use Rattle.memory_files.proofs.files.MemFiles.stopped_after.Goals as goal

pub on-requires-clause-empty : goal.on-requires-clause-empty
on-requires-clause-empty c = λ at small.
    let n = c.args.n in
    let files = c.args.self.now in
    let world : c.stop.new.self ≡ stopped_at n files.me.process files.world =
    c.in_ok-stop.ensures.ok
    ∙ ap (λ (w : Held). told w (Stop c.seat.result.process ∷ [])) (c.in_ok-world.ensures ∙ ap (first_of n) c.world.ensures.world)
    ∙ ap (λ (me : Who). stopped_at n me.process files.world) c.seat.ensures in
    subst (λ (w : Held). is_some ((disk_of w.past).slots c.args.next at) ≡ false) (sym world) (empty_then c.args.next at n files.me.process files.world c.requires.new)

pub on-requires-clause-goes_on : goal.on-requires-clause-goes_on
on-requires-clause-goes_on c =
    let n = c.args.n in
    let files = c.args.self.now in
    let world : c.stop.new.self ≡ stopped_at n files.me.process files.world =
    c.in_ok-stop.ensures.ok
    ∙ ap (λ (w : Held). told w (Stop c.seat.result.process ∷ [])) (c.in_ok-world.ensures ∙ ap (first_of n) c.world.ensures.world)
    ∙ ap (λ (me : Who). stopped_at n me.process files.world) c.seat.ensures in
    subst (λ (w : Held). GoesOn c.args.next w.past) (sym world) (goes_on_after_stop c.args.next n files.me.process files.world c.requires.other c.requires.goes_on)

pub returns-clause-idle : goal.returns-clause-idle
returns-clause-idle c =
    let n = c.args.n in
    let files = c.args.self.now in
    let world : c.stop.new.self ≡ stopped_at n files.me.process files.world =
    c.in_ok-stop.ensures.ok
    ∙ ap (λ (w : Held). told w (Stop c.seat.result.process ∷ [])) (c.in_ok-world.ensures ∙ ap (first_of n) c.world.ensures.world)
    ∙ ap (λ (me : Who). stopped_at n me.process files.world) c.seat.ensures in
    c.on.ensures.idle (subst (λ (w : Held). (course_of c.args.next w.past.log).inside ≡ false) (sym world) (outside_then c.args.next n files.me.process files.world c.requires.new))
