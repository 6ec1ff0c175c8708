use Rattle.std.proofs.Common.{◌≡◌, ◌∙◌, ◌++◌, ◌∷◌, [], ◌+◌, ◌-◌, List, ap, sym, subst, arith, nat_eq}
use Rattle.std.specs.HashSet.{contains}
use Rattle.file_log.specs.declared.item.LogItem.{LogItem}
use Rattle.file_log.specs.Legal.{IsLegal}
use Rattle.file_log.specs.State.{state_of}
use Rattle.file_model.specs.Held.{Held}
use Rattle.file_model.specs.Operations.{course_in}
use Rattle.world_tables.specs.Tables.{disk_at}
use Rattle.world_tables.specs.Told.{Told}
use Rattle.file_model.specs.Worlds.{past_of}
use Rattle.file_model.proofs.Following.{follows_on, plain_disk, plain_stops, plain_course}
use Rattle.file_model.proofs.world.World.add_plain.Goals as goal

pub invariant_of-self-2 : goal.invariant_of-self-2
invariant_of-self-2 c =
    let old = c.self.inside in
    let item = c.args.item in
    let plain = c.requires.plain in
    let items : c.make_room.new.self.items ≡ old.book.items = ap (λ (t : Told). t.items) c.in_ok-make_room.ensures.ok in
    let taken : c.make_room.new.self.room ≡ old.book.room + 1 = ap (λ (t : Told). t.room) c.in_ok-make_room.ensures.ok in
    let left : c.put.new.self.room ≡ c.make_room.new.self.room - 1 = ap (λ (t : Told). t.room) c.put.ensures in
    let book : c.put.new.self.items ≡ old.book.items ++ item ∷ [] = ap (λ (t : Told). t.items) c.put.ensures ∙ ap (λ (log : List LogItem). log ++ item ∷ []) items in
    let legal : IsLegal (state_of (past_of old)) item = subst (λ (h : Held). IsLegal (state_of h.past) item) (sym c.self.view_is) c.requires.legal in
    record {
      follows = follows_on (past_of old) (disk_at old.tables) (disk_at old.tables) (contains nat_eq old.halted) (course_in old.operations) (course_in old.operations) (item ∷ []) c.put.new.self.items
          c.self.invariant.follows book (legal, tt) (plain_disk (disk_at old.tables) item plain) (plain_stops item plain) (λ w. plain_course w (course_in old.operations w) item plain);
      room = omega (arith, c.self.invariant.room, left, taken);
    }
