use Rattle.std.proofs.Common.{◌∙◌, ap, ℕ, List, Option, None, map, length, get_or, []}
use Rattle.std.proofs.lemmas.List.{length-map}
use mathlib.Core.Path.{fun_ext}
use Rattle.cache_types.specs.declared.name.Name.{Name}
use Rattle.file_log.specs.Disk.{Disk, Lock, number_from}
use Rattle.world_tables.specs.declared.parts.OpenSlot.{OpenSlot}
use Rattle.world_tables.specs.Locks.{Holdings}
use Rattle.world_tables.specs.Tables.{disk_from}
use Rattle.world_tables.proofs.Holding.{lock_of-empty}
use Rattle.world_tables.proofs.tables.Tables.of.Goals as goal

pub returns-clause-disk : goal.returns-clause-disk
returns-clause-disk c =
    let start = c.args.start.now in
    let names : Name → Option ℕ = number_from 0 start in
    let files : List (List ℕ) = map (λ (pair : Name × List ℕ). pair.1) start in
    let opened : ℕ → (ℕ → Option Lock) → Disk = λ n locks. record { names = names; count = n; files = λ f. get_or files f []; slots = λ who slot. None; locks = locks } in
    ap (λ (ns : Name → Option ℕ). disk_from ns c.in_ok-files_of.field-0.items c.new.result.items c.new-2.result) (fun_ext c.in_ok-names_of.ensures)
    ∙ ap (λ (fs : List (List ℕ)). disk_from names fs c.new.result.items c.new-2.result) c.in_ok-files_of.ensures
    ∙ ap (λ (slots : List OpenSlot). disk_from names files slots c.new-2.result) c.new.ensures.items
    ∙ ap (λ (locks : Holdings). disk_from names files [] locks) c.new-2.ensures
    ∙ ap (opened (length files)) lock_of-empty
    ∙ ap (λ (n : ℕ). opened n (λ f. None)) (length-map start (λ (pair : Name × List ℕ). pair.1))
