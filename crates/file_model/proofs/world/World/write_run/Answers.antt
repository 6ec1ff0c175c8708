use Rattle.std.proofs.Common.{◌≡◌, ◌∙◌, false, ap, sym, subst, nat_eq}
use Rattle.std.specs.HashSet.{contains}
use Rattle.file_log.specs.Exchange.{byte_items}
use Rattle.file_log.specs.Legal.{IsOpen}
use Rattle.file_log.specs.Seat.{IsFilled}
use Rattle.file_log.specs.State.{state_of, disk_of}
use Rattle.file_model.specs.Calls.{filled_of}
use Rattle.file_model.specs.Held.{Held}
use Rattle.file_model.specs.Operations.{course_in}
use Rattle.world_tables.specs.Tables.{disk_at}
use Rattle.world_tables.specs.Told.{Told}
use Rattle.file_model.specs.Worlds.{past_of}
use Rattle.file_model.proofs.Following.{follows_on, run_after, run_stops_none, run_courses, run_legal}
use Rattle.file_model.proofs.world.World.write_run.Goals as goal

pub invariant_of-self-2 : goal.invariant_of-self-2
invariant_of-self-2 c =
    let old = c.self.inside in
    let who = c.args.who in
    let slot = c.args.slot in
    let at = c.args.at in
    let values = c.args.bytes in
    let items = byte_items who slot at values in
    let told = c.in_ok-write_run.ensures.told in
    let can : IsFilled (filled_of (disk_of (past_of old)) who) slot = subst (λ (h : Held). IsFilled (filled_of (disk_of h.past) who) slot) (sym c.self.view_is) c.requires.slot in
    let alive : (state_of (past_of old)).halted who.process ≡ false = subst (λ (h : Held). (state_of h.past).halted who.process ≡ false) (sym c.self.view_is) c.requires.alive in
    let is_open : IsOpen (disk_of (past_of old)) who slot = record { small = can.0; filled = can.1 } in
    record {
      follows = follows_on (past_of old) (disk_at old.tables) (disk_at c.write_run.new.self) (contains nat_eq old.halted) (course_in old.operations) (course_in old.operations) items c.write_run.new.book.items
          c.self.invariant.follows (ap (λ (t : Told). t.items) told) (run_legal (state_of (past_of old)) who slot at values alive is_open c.known.ensures)
          (c.in_ok-write_run.ensures.ok ∙ sym (run_after (disk_at old.tables) who slot at values)) (run_stops_none who slot at values) (λ w. run_courses who slot at values w (course_in old.operations w));
      room = rw (c.in_ok-write_run.ensures.slots, told) c.self.invariant.room;
    }

pub returns-clause-legal : goal.returns-clause-legal
returns-clause-legal c =
    let who = c.args.who in
    let slot = c.args.slot in
    let can = c.requires.slot in
    run_legal (state_of c.args.self.now.past) who slot c.args.at c.args.bytes c.requires.alive (record { small = can.0; filled = can.1 }) c.known.ensures
