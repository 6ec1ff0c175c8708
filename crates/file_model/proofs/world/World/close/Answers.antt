use Rattle.std.proofs.Common.{◌≡◌, ◌++◌, ◌∷◌, [], ◌+◌, ◌-◌, ◌≤◌, false, ap, sym, refl, subst, arith, nat_eq}
use Rattle.std.specs.HashSet.{contains}
use Rattle.std.specs.Prelude.{IsSome}
use Rattle.cache_types.specs.Seats.{same_seat}
use Rattle.file_log.specs.declared.call.Call.TheVariants.{Close}
use Rattle.file_log.specs.declared.reply.Reply.TheVariants.{Done}
use Rattle.file_log.specs.declared.item.LogItem.TheVariants.{Did}
use Rattle.file_log.specs.Disk.{Disk}
use Rattle.file_log.specs.Legal.{IsOpen}
use Rattle.file_log.specs.Seat.{IsFilled}
use Rattle.file_log.specs.State.{state_of, disk_of}
use Rattle.file_model.specs.Calls.{filled_of}
use Rattle.file_model.specs.Held.{Held}
use Rattle.file_model.specs.Operations.{course_in}
use Rattle.world_tables.specs.Room.{closes}
use Rattle.world_tables.specs.Tables.{disk_at}
use Rattle.world_tables.specs.Told.{Told}
use Rattle.file_model.specs.Worlds.{past_of}
use Rattle.file_model.proofs.Following.{follows_on, either}
use Rattle.file_model.proofs.world.World.close.Goals as goal

pub invariant_of-self : goal.invariant_of-self
invariant_of-self c =
    let old = c.self.inside in
    let who = c.args.who in
    let slot = c.args.slot in
    let item = Did who (Close slot) Done in
    let can : IsFilled (filled_of (disk_of (past_of old)) who) slot = subst (λ (h : Held). IsFilled (filled_of (disk_of h.past) who) slot) (sym c.self.view_is) c.requires.slot in
    let alive : (state_of (past_of old)).halted who.process ≡ false = subst (λ (h : Held). (state_of h.past).halted who.process ≡ false) (sym c.self.view_is) c.requires.alive in
    let here : IsSome ((disk_at old.tables).slots who slot) = subst (λ (d : Disk). IsSome (d.slots who slot)) (sym c.self.invariant.follows.disk) can.1 in
    let fewer : closes c.close.new.self.slots.items + 1 ≤ closes old.tables.slots.items = c.close.ensures.fewer here in
    let left : c.put.new.self.room ≡ old.book.room - 1 = ap (λ (t : Told). t.room) c.put.ensures in
    let book : c.put.new.self.items ≡ old.book.items ++ item ∷ [] = ap (λ (t : Told). t.items) c.put.ensures in
    let is_open : IsOpen (disk_of (past_of old)) who slot = record { small = can.0; filled = can.1 } in
    record {
      follows = follows_on (past_of old) (disk_at old.tables) (disk_at c.close.new.self) (contains nat_eq old.halted) (course_in old.operations) (course_in old.operations) (item ∷ []) c.put.new.self.items
          c.self.invariant.follows book ((alive, (is_open, tt)), tt) c.close.ensures.disk (λ halted process. refl) (λ w. sym (either (same_seat w who) (course_in old.operations w)));
      room = omega (arith, c.self.invariant.room, left, fewer);
    }
