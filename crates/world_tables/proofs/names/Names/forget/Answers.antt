use Rattle.std.proofs.Common.{◌∙◌, None, ap, cond, refl, sym}
use Rattle.cache_types.specs.declared.name.Name.{Name}
use Rattle.cache_types.specs.Names.{same_name}
use Rattle.world_tables.specs.declared.names.Names.{Names}
use Rattle.world_tables.specs.Find.{number_in}
use Rattle.world_tables.proofs.Numbers.{entry_changed, is_other, lock_changed, other_changed, temp_changed}
use Rattle.world_tables.proofs.names.Names.forget.Goals as goal

pub returns-in-Entry : goal.returns-in-Entry
returns-in-Entry c = λ n.
    let old = c.args.self.now in
    let new : Names = record old { entries = c.forget_at.new.numbers } in
    entry_changed old new c.in-Entry.root c.in-Entry.key None c.forget_at.ensures refl refl refl n ∙ ap (λ (m : Name). cond (same_name m n) None (number_in old n)) (sym c.in-Entry.is)

pub returns-in-Temp : goal.returns-in-Temp
returns-in-Temp c = λ n.
    let old = c.args.self.now in
    let new : Names = record old { temps = c.forget_at-in-Temp.new.numbers } in
    temp_changed old new c.in-Temp.root c.in-Temp.key None c.forget_at-in-Temp.ensures refl refl refl n ∙ ap (λ (m : Name). cond (same_name m n) None (number_in old n)) (sym c.in-Temp.is)

pub returns-in-FolderLock : goal.returns-in-FolderLock
returns-in-FolderLock c = λ n.
    let old = c.args.self.now in
    let new : Names = record old { locks = c.forget_at-in-FolderLock.new.numbers } in
    lock_changed old new c.in-FolderLock.root c.in-FolderLock.byte None c.forget_at-in-FolderLock.ensures refl refl refl n ∙ ap (λ (m : Name). cond (same_name m n) None (number_in old n)) (sym c.in-FolderLock.is)

pub returns-in_default : goal.returns-in_default
returns-in_default c =
    let old = c.args.self.now in
    let new : Names = record old { others = c.forget.new.names } in
    other_changed old new c.args.name.now None (is_other c.args.name.now c.in_default.not-Entry c.in_default.not-Temp c.in_default.not-FolderLock) c.forget.ensures refl refl refl
