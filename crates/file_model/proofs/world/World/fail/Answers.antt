use Rattle.std.proofs.Common.{◌≡◌, ◌∙◌, ◌++◌, ◌∷◌, [], ◌-◌, List, false, ap, sym, refl, subst, arith, nat_eq}
use Rattle.std.specs.HashSet.{contains}
use Rattle.file_log.specs.declared.item.LogItem.{LogItem}
use Rattle.file_log.specs.declared.item.LogItem.TheVariants.{Failed}
use Rattle.file_log.specs.State.{state_of}
use Rattle.file_model.specs.Held.{Held}
use Rattle.file_model.specs.Operations.{course_in}
use Rattle.world_tables.specs.Tables.{disk_at}
use Rattle.world_tables.specs.Told.{Told}
use Rattle.file_model.specs.Worlds.{past_of}
use Rattle.file_model.proofs.Following.{follows_on, follows_still}
use Rattle.file_model.proofs.world.World.fail.Goals as goal

pub invariant_of-self : goal.invariant_of-self
invariant_of-self c =
    let old = c.self.inside in
    let new = c.fail_in_room.new in
    let same = c.in_err-fail_in_room.ensures.err in
    let items : new.book.items ≡ old.book.items = ap (λ (t : Told). t.items) same.1 in
    let room : new.book.room ≡ old.book.room = ap (λ (t : Told). t.room) same.1 in
    record {
      follows = follows_still (past_of old) (disk_at old.tables) (disk_at old.tables) (contains nat_eq old.halted) (course_in old.operations) (course_in new.operations) new.book.items
          c.self.invariant.follows items refl same.0.courses;
      room = omega (arith, c.self.invariant.room, room, same.0.ends_are);
    }

pub invariant_of-self-2 : goal.invariant_of-self-2
invariant_of-self-2 c =
    let old = c.self.inside in
    let who = c.args.who in
    let item = Failed who c.args.memory in
    let new = c.fail_in_room.new in
    let left : c.put.new.self.room ≡ new.book.room - 1 = ap (λ (t : Told). t.room) c.put.ensures in
    let book : c.put.new.self.items ≡ old.book.items ++ item ∷ [] = ap (λ (t : Told). t.items) c.put.ensures ∙ ap (λ (log : List LogItem). log ++ item ∷ []) c.in_ok-fail_in_room.ensures.items in
    let alive : (state_of (past_of old)).halted who.process ≡ false = subst (λ (h : Held). (state_of h.past).halted who.process ≡ false) (sym c.self.view_is) c.requires in
    record {
      follows = follows_on (past_of old) (disk_at old.tables) (disk_at old.tables) (contains nat_eq old.halted) (course_in old.operations) (course_in new.operations) (item ∷ []) c.put.new.self.items
          c.self.invariant.follows book ((alive, tt), tt) refl (λ halted process. refl) c.in_ok-fail_in_room.ensures.courses;
      room = omega (arith, c.self.invariant.room, left, c.in_ok-fail_in_room.ensures.room);
    }
