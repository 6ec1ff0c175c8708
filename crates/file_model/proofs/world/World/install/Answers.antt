use Rattle.std.proofs.Common.{◌≡◌, ◌∙◌, ◌++◌, ◌∷◌, [], ◌+◌, ◌-◌, List, None, ap, sym, refl, subst, arith, nat_eq}
use Rattle.std.specs.HashSet.{contains}
use Rattle.cache_types.specs.declared.name.Name.TheVariants.{Ro, RoIdx}
use Rattle.file_log.specs.declared.item.LogItem.{LogItem}
use Rattle.file_log.specs.declared.item.LogItem.TheVariants.{Install}
use Rattle.file_log.specs.Legal.{IsLegal}
use Rattle.file_log.specs.State.{state_of, disk_of}
use Rattle.file_model.specs.Held.{Held}
use Rattle.file_model.specs.Operations.{course_in}
use Rattle.world_tables.specs.Tables.{disk_at}
use Rattle.world_tables.specs.Told.{Told}
use Rattle.file_model.specs.Worlds.{past_of}
use Rattle.file_model.proofs.Following.{follows_on}
use Rattle.file_model.proofs.world.World.install.Goals as goal

pub invariant_of-self-2 : goal.invariant_of-self-2
invariant_of-self-2 c =
    let old = c.self.inside in
    let new = c.install_in_room.new in
    let root = c.args.root in
    let name = c.args.name in
    let item = Install root name c.args.main c.args.index in
    let done = c.in_ok-install_in_room.ensures in
    let items : new.book.items ≡ old.book.items = ap (λ (t : Told). t.items) done.room in
    let taken : new.book.room ≡ old.book.room + 1 = ap (λ (t : Told). t.room) done.room in
    let left : c.put.new.self.room ≡ new.book.room - 1 = ap (λ (t : Told). t.room) c.put.ensures in
    let book : c.put.new.self.items ≡ old.book.items ++ item ∷ [] = ap (λ (t : Told). t.items) c.put.ensures ∙ ap (λ (log : List LogItem). log ++ item ∷ []) items in
    let no_main = subst (λ (h : Held). (disk_of h.past).names (Ro root name) ≡ None) (sym c.self.view_is) c.requires.main in
    let no_index = subst (λ (h : Held). (disk_of h.past).names (RoIdx root name) ≡ None) (sym c.self.view_is) c.requires.index in
    let legal : IsLegal (state_of (past_of old)) item = (tt, record { main_absent = no_main; index_absent = no_index; main_fits = c.known.ensures; index_fits = c.known-2.ensures }) in
    record {
      follows = follows_on (past_of old) (disk_at old.tables) (disk_at new.tables) (contains nat_eq old.halted) (course_in old.operations) (course_in old.operations) (item ∷ []) c.put.new.self.items
          c.self.invariant.follows book (legal, tt) done.ok (λ halted process. refl) (λ w. refl);
      room = rw done.slots (omega (arith, c.self.invariant.room, left, taken));
    }
