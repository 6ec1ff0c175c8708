use Rattle.std.proofs.Common.{◌≡◌, ◌∙◌, ◌++◌, ◌+◌, ◌∷◌, [], Some, ap, cond, length, List, ℕ, rules}
use Rattle.cache_types.specs.declared.name.Name.{Name}
use Rattle.cache_types.specs.declared.name.Name.TheVariants.{Ro, RoIdx}
use Rattle.cache_types.specs.Names.{same_name}
use Rattle.file_log.specs.Disk.{created}
use Rattle.world_tables.specs.Find.{number_in}
use Rattle.world_tables.specs.Tables.{disk_from}
use Rattle.world_tables.proofs.Disks.{installed}
use Rattle.world_tables.proofs.tables.Tables.install.Goals as goal

pub returns-clause-ok : goal.returns-clause-ok
returns-clause-ok c =
    let old = c.args.self.now in
    let slots = old.slots.items in
    let locks = old.locks in
    let names = number_in old.names in
    let names' = number_in c.install.new.self in
    let main-name = Ro c.args.root c.args.name.now in
    let index-name = RoIdx c.args.root c.args.name.now in
    let len = length old.files.items in
    let main : c.in_ok-main.main ≡ c.args.main.now = c.in_ok-main.ensures ∙ c.as_slice.ensures in
    let index : c.in_ok-index.index ≡ c.args.index.now = c.in_ok-index.ensures ∙ c.as_slice-2.ensures in
    let files : c.push-index.new.self.items ≡ (old.files.items ++ c.in_ok-main.main ∷ []) ++ c.in_ok-index.index ∷ [] = search rules in
    let named : (n : Name) → names' n ≡ cond (same_name index-name n) (Some (len + 1)) (cond (same_name main-name n) (Some len) (names n)) = search rules in
    ap (λ (fs : List (List ℕ)). disk_from names' fs slots locks) files
    ∙ installed names names' old.files.items slots locks main-name index-name c.in_ok-main.main c.in_ok-index.index named
    ∙ ap (λ (bytes : List ℕ). created (created (disk_from names old.files.items slots locks) main-name bytes) index-name c.in_ok-index.index) main
    ∙ ap (λ (bytes : List ℕ). created (created (disk_from names old.files.items slots locks) main-name c.args.main.now) index-name bytes) index
