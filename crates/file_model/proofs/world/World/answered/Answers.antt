use Rattle.std.proofs.Common.{◌≡◌, ◌∙◌, ◌++◌, ◌∷◌, [], ◌+◌, ◌-◌, List, ap, sym, refl, subst, arith, nat_eq}
use Rattle.std.specs.HashSet.{contains}
use Rattle.cache_types.specs.Seats.{same_seat}
use Rattle.file_log.specs.declared.item.LogItem.{LogItem}
use Rattle.file_log.specs.declared.item.LogItem.TheVariants.{Did}
use Rattle.file_log.specs.Legal.{IsLegal}
use Rattle.file_log.specs.State.{state_of}
use Rattle.file_model.specs.Held.{Held}
use Rattle.file_model.specs.Operations.{course_in}
use Rattle.world_tables.specs.Room.{closes_by}
use Rattle.world_tables.specs.Tables.{disk_at}
use Rattle.world_tables.specs.Told.{Told}
use Rattle.file_model.specs.Worlds.{past_of}
use Rattle.file_model.proofs.Following.{follows_on, follows_still, either}
use Rattle.file_model.proofs.world.World.answered.Goals as goal

pub invariant_of-self : goal.invariant_of-self
invariant_of-self c =
    let old = c.self.inside in
    let same = c.in_err-answer_in_room.ensures.err in
    let items : c.answer_in_room.new.book.items ≡ old.book.items = ap (λ (t : Told). t.items) same.1 in
    let room : c.answer_in_room.new.book.room ≡ old.book.room = ap (λ (t : Told). t.room) same.1 in
    record {
      follows = follows_still (past_of old) (disk_at old.tables) (disk_at c.answer_in_room.new.tables) (contains nat_eq old.halted) (course_in old.operations) (course_in old.operations) c.answer_in_room.new.book.items
          c.self.invariant.follows items same.0 (λ w. refl);
      room = omega (arith, c.self.invariant.room, room, c.in_err-answer_in_room.ensures.no_more);
    }

pub invariant_of-self-2 : goal.invariant_of-self-2
invariant_of-self-2 c =
    let old = c.self.inside in
    let who = c.args.who in
    let call = c.args.call in
    let reply = c.args.reply in
    let item = Did who call reply in
    let more = 1 + closes_by call reply in
    let items : c.answer_in_room.new.book.items ≡ old.book.items = ap (λ (t : Told). t.items) c.in_ok-answer_in_room.ensures.room in
    let taken : c.answer_in_room.new.book.room ≡ old.book.room + more = ap (λ (t : Told). t.room) c.in_ok-answer_in_room.ensures.room in
    let left : c.put.new.self.room ≡ c.answer_in_room.new.book.room - 1 = ap (λ (t : Told). t.room) c.put.ensures in
    let book : c.put.new.self.items ≡ old.book.items ++ item ∷ [] = ap (λ (t : Told). t.items) c.put.ensures ∙ ap (λ (log : List LogItem). log ++ item ∷ []) items in
    let legal : IsLegal (state_of (past_of old)) item = subst (λ (h : Held). IsLegal (state_of h.past) item) (sym c.self.view_is) c.requires in
    record {
      follows = follows_on (past_of old) (disk_at old.tables) (disk_at c.answer_in_room.new.tables) (contains nat_eq old.halted) (course_in old.operations) (course_in old.operations) (item ∷ []) c.put.new.self.items
          c.self.invariant.follows book (legal, tt) c.in_ok-answer_in_room.ensures.ok (λ halted process. refl) (λ w. sym (either (same_seat w who) (course_in old.operations w)));
      room = omega (arith, c.self.invariant.room, taken, left, c.in_ok-answer_in_room.ensures.closes);
    }
