use Rattle.std.proofs.Common.{◌≡◌, ◌∙◌, ◌++◌, ◌∷◌, [], ◌+◌, ◌-◌, List, ap, refl, arith, nat_eq}
use Rattle.std.specs.HashSet.{contains}
use Rattle.file_log.specs.declared.item.LogItem.{LogItem}
use Rattle.file_log.specs.declared.item.LogItem.TheVariants.{SetList}
use Rattle.file_model.specs.Operations.{course_in}
use Rattle.world_tables.specs.Tables.{disk_at}
use Rattle.world_tables.specs.Told.{Told}
use Rattle.file_model.specs.Worlds.{past_of}
use Rattle.file_model.proofs.Following.{follows_on}
use Rattle.file_model.proofs.world.World.set_list.Goals as goal

pub invariant_of-self-2 : goal.invariant_of-self-2
invariant_of-self-2 c =
    let old = c.self.inside in
    let new = c.list_in_room.new in
    let item = SetList c.args.text in
    let done = c.in_ok-list_in_room.ensures in
    let items : new.book.items ≡ old.book.items = ap (λ (t : Told). t.items) done.room in
    let taken : new.book.room ≡ old.book.room + 1 = ap (λ (t : Told). t.room) done.room in
    let left : c.put.new.self.room ≡ new.book.room - 1 = ap (λ (t : Told). t.room) c.put.ensures in
    let book : c.put.new.self.items ≡ old.book.items ++ item ∷ [] = ap (λ (t : Told). t.items) c.put.ensures ∙ ap (λ (log : List LogItem). log ++ item ∷ []) items in
    record {
      follows = follows_on (past_of old) (disk_at old.tables) (disk_at new.tables) (contains nat_eq old.halted) (course_in old.operations) (course_in old.operations) (item ∷ []) c.put.new.self.items
          c.self.invariant.follows book ((tt, c.text_known.ensures), tt) done.ok (λ halted process. refl) (λ w. refl);
      room = rw done.slots (omega (arith, c.self.invariant.room, left, taken));
    }
