use Rattle.std.proofs.Common.{◌∙◌, ap, ℕ, List, []}
use Rattle.std.specs.Prelude.{Option}
use mathlib.Core.Path.{fun_ext}
use Rattle.cache_types.specs.declared.name.Name.{Name}
use Rattle.file_log.specs.Disk.{Disk, Lock, number_from, opening}
use Rattle.world_tables.specs.Locks.{Holdings}
use Rattle.world_tables.specs.Tables.{disk_from}
use Rattle.world_tables.specs.declared.parts.OpenSlot.{OpenSlot}
use Rattle.world_tables.proofs.Holding.{lock_of-empty}
use Rattle.world_tables.proofs.tables.Tables.new.Goals as goal

pub returns-clause-disk : goal.returns-clause-disk
returns-clause-disk c =
    let with_locks : (ℕ → Option Lock) → Disk = λ locks. record (opening []) { locks = locks } in
    let none : Name → Option ℕ = number_from 0 [] in
    ap (λ (names : Name → Option ℕ). disk_from names c.new-2.result.items c.new-3.result.items c.new-4.result) (fun_ext c.new.ensures)
    ∙ ap (λ (files : List (List ℕ)). disk_from none files c.new-3.result.items c.new-4.result) c.new-2.ensures.items
    ∙ ap (λ (slots : List OpenSlot). disk_from none [] slots c.new-4.result) c.new-3.ensures.items
    ∙ ap (λ (locks : Holdings). disk_from none [] [] locks) c.new-4.ensures
    ∙ ap with_locks lock_of-empty
