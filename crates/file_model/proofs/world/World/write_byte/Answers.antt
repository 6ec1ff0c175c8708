use Rattle.std.proofs.Common.{◌≡◌, ◌∷◌, [], ◌<◌, false, ap, sym, refl, subst, arith, nat_eq}
use Rattle.std.specs.HashSet.{contains}
use Rattle.cache_types.specs.Seats.{same_seat}
use Rattle.file_log.specs.declared.item.LogItem.TheVariants.{Byte}
use Rattle.file_log.specs.Legal.{IsLegal, IsOpen}
use Rattle.file_log.specs.Seat.{IsFilled}
use Rattle.file_log.specs.State.{state_of, disk_of}
use Rattle.file_model.specs.Calls.{filled_of}
use Rattle.file_model.specs.Held.{Held}
use Rattle.file_model.specs.Operations.{course_in}
use Rattle.world_tables.specs.Tables.{disk_at}
use Rattle.world_tables.specs.Told.{Told}
use Rattle.file_model.specs.Worlds.{past_of}
use Rattle.file_model.proofs.Following.{follows_on, either}
use Rattle.file_model.proofs.world.World.write_byte.Goals as goal

pub invariant_of-self-2 : goal.invariant_of-self-2
invariant_of-self-2 c =
    let old = c.self.inside in
    let who = c.args.who in
    let slot = c.args.slot in
    let item = Byte who slot c.args.at c.args.value in
    let told = c.in_ok-write_byte.ensures.told in
    let can : IsFilled (filled_of (disk_of (past_of old)) who) slot = subst (λ (h : Held). IsFilled (filled_of (disk_of h.past) who) slot) (sym c.self.view_is) c.requires.slot in
    let alive : (state_of (past_of old)).halted who.process ≡ false = subst (λ (h : Held). (state_of h.past).halted who.process ≡ false) (sym c.self.view_is) c.requires.alive in
    let is_open : IsOpen (disk_of (past_of old)) who slot = record { small = can.0; filled = can.1 } in
    let byte : c.args.value < 256 = omega arith in
    let legal : IsLegal (state_of (past_of old)) item = (alive, record { is_open = is_open; byte = byte }) in
    record {
      follows = follows_on (past_of old) (disk_at old.tables) (disk_at c.write_byte.new.self) (contains nat_eq old.halted) (course_in old.operations) (course_in old.operations) (item ∷ []) c.write_byte.new.book.items
          c.self.invariant.follows (ap (λ (t : Told). t.items) told) (legal, tt) c.in_ok-write_byte.ensures.ok (λ halted process. refl) (λ w. sym (either (same_seat w who) (course_in old.operations w)));
      room = rw (c.in_ok-write_byte.ensures.slots, told) c.self.invariant.room;
    }
