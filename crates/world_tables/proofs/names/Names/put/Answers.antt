use Rattle.std.proofs.Common.{◌≡◌, ◌∙◌, ◌∷◌, List, Some, ap, cond, refl, sym}
use Rattle.cache_types.specs.declared.name.Name.{Name}
use Rattle.cache_types.specs.Names.{same_name}
use Rattle.world_tables.specs.declared.names.Names.{Names}
use Rattle.world_tables.specs.declared.parts.NamedFile.{NamedFile}
use Rattle.world_tables.specs.Find.{number_in, number_of}
use Rattle.world_tables.proofs.Numbers.{all_same, entry_changed, is_other, lock_changed, on_err, on_ok, other_changed, temp_changed}
use Rattle.world_tables.proofs.names.Names.put.Goals as goal

pub returns-in-Entry-clause-ok : goal.returns-in-Entry-clause-ok
returns-in-Entry-clause-ok c =
    let old = c.args.self.now in
    let new : Names = record old { entries = c.put_at.new.numbers } in
    on_ok c.put_at.result
    (λ h. λ n.
    entry_changed old new c.in-Entry.root c.in-Entry.key (Some c.args.file) h refl refl refl n
    ∙ ap (λ (m : Name). cond (same_name m n) (Some c.args.file) (number_in old n)) (sym c.in-Entry.is))
    c.put_at.ensures.ok

pub returns-in-Entry-clause-err : goal.returns-in-Entry-clause-err
returns-in-Entry-clause-err c =
    let old = c.args.self.now in
    let new : Names = record old { entries = c.put_at.new.numbers } in
    on_err c.put_at.result (λ h. all_same old new h (λ p. refl) (λ p. refl) refl) c.put_at.ensures.err

pub returns-in-Temp-clause-ok : goal.returns-in-Temp-clause-ok
returns-in-Temp-clause-ok c =
    let old = c.args.self.now in
    let new : Names = record old { temps = c.put_at-in-Temp.new.numbers } in
    on_ok c.put_at-in-Temp.result
    (λ h. λ n.
    temp_changed old new c.in-Temp.root c.in-Temp.key (Some c.args.file) h refl refl refl n
    ∙ ap (λ (m : Name). cond (same_name m n) (Some c.args.file) (number_in old n)) (sym c.in-Temp.is))
    c.put_at-in-Temp.ensures.ok

pub returns-in-Temp-clause-err : goal.returns-in-Temp-clause-err
returns-in-Temp-clause-err c =
    let old = c.args.self.now in
    let new : Names = record old { temps = c.put_at-in-Temp.new.numbers } in
    on_err c.put_at-in-Temp.result (λ h. all_same old new (λ p. refl) h (λ p. refl) refl) c.put_at-in-Temp.ensures.err

pub returns-in-FolderLock-clause-ok : goal.returns-in-FolderLock-clause-ok
returns-in-FolderLock-clause-ok c =
    let old = c.args.self.now in
    let new : Names = record old { locks = c.put_at-in-FolderLock.new.numbers } in
    on_ok c.put_at-in-FolderLock.result
    (λ h. λ n.
    lock_changed old new c.in-FolderLock.root c.in-FolderLock.byte (Some c.args.file) h refl refl refl n
    ∙ ap (λ (m : Name). cond (same_name m n) (Some c.args.file) (number_in old n)) (sym c.in-FolderLock.is))
    c.put_at-in-FolderLock.ensures.ok

pub returns-in-FolderLock-clause-err : goal.returns-in-FolderLock-clause-err
returns-in-FolderLock-clause-err c =
    let old = c.args.self.now in
    let new : Names = record old { locks = c.put_at-in-FolderLock.new.numbers } in
    on_err c.put_at-in-FolderLock.result (λ h. all_same old new (λ p. refl) (λ p. refl) h refl) c.put_at-in-FolderLock.ensures.err

pub returns-in_default-clause-ok : goal.returns-in_default-clause-ok
returns-in_default-clause-ok c =
    let old = c.args.self.now in
    let new : Names = record old { others = c.add_name.new.names } in
    let named : NamedFile = record { name = c.args.name; file = c.args.file } in
    on_ok c.add_name.result
    (λ (h : c.add_name.new.names.items ≡ named ∷ old.others.items). other_changed old new c.args.name (Some c.args.file) (is_other c.args.name c.in_default.not-Entry c.in_default.not-Temp c.in_default.not-FolderLock)
    (λ n. ap (λ (xs : List NamedFile). number_of xs n) h) refl refl refl)
    c.add_name.ensures.ok

pub returns-in_default-clause-err : goal.returns-in_default-clause-err
returns-in_default-clause-err c =
    let old = c.args.self.now in
    let new : Names = record old { others = c.add_name.new.names } in
    on_err c.add_name.result (λ h. all_same old new (λ p. refl) (λ p. refl) (λ p. refl) h) c.add_name.ensures.err
