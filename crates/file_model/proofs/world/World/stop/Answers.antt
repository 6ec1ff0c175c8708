use Rattle.std.proofs.Common.{Bool, true, false, cond, ◌||◌, ◌≡◌, ◌∙◌, ◌++◌, ◌∷◌, [], ◌+◌, ◌-◌, List, ap, refl, arith, nat_eq}
use Rattle.std.specs.HashSet.{contains}
use Rattle.file_log.specs.declared.item.LogItem.{LogItem}
use Rattle.file_log.specs.declared.item.LogItem.TheVariants.{Stop}
use Rattle.file_model.specs.Operations.{course_in}
use Rattle.world_tables.specs.Tables.{disk_at}
use Rattle.world_tables.specs.Told.{Told}
use Rattle.file_model.specs.Worlds.{past_of}
use Rattle.file_model.proofs.Following.{follows_to}
use Rattle.file_model.proofs.world.World.stop.Goals as goal

or_is : (b x : Bool) → cond b true x ≡ (b || x)
or_is true x = refl
or_is false x = refl

pub invariant_of-self-2 : goal.invariant_of-self-2
invariant_of-self-2 c =
    let old = c.self.inside in
    let process = c.args.process in
    let item = Stop process in
    let items : c.make_room.new.self.items ≡ old.book.items = ap (λ (t : Told). t.items) c.in_ok-make_room.ensures.ok in
    let taken : c.make_room.new.self.room ≡ old.book.room + 1 = ap (λ (t : Told). t.room) c.in_ok-make_room.ensures.ok in
    let left : c.put.new.self.room ≡ c.make_room.new.self.room - 1 = ap (λ (t : Told). t.room) c.put.ensures in
    let book : c.put.new.self.items ≡ old.book.items ++ item ∷ [] = ap (λ (t : Told). t.items) c.put.ensures ∙ ap (λ (log : List LogItem). log ++ item ∷ []) items in
    record {
      follows = follows_to (past_of old) (disk_at old.tables) (disk_at c.stop.new.self) (contains nat_eq old.halted) (contains nat_eq c.insert.new.self) (course_in old.operations) (course_in old.operations) (item ∷ []) c.put.new.self.items
          c.self.invariant.follows book ((tt, tt), tt) c.stop.ensures.disk (λ p. c.in_ok-_added.ensures.updates.0 p ∙ or_is (nat_eq process p) (contains nat_eq old.halted p)) (λ w. refl);
      room = omega (arith, c.self.invariant.room, left, taken, c.stop.ensures.no_more);
    }
