use Rattle.std.proofs.Common.{◌≡◌, ◌∙◌, ◌++◌, ◌∷◌, [], Some, ap, sym, cond, length, List, ℕ, rules}
use Rattle.cache_types.specs.declared.name.Name.TheVariants as names
use Rattle.cache_types.specs.Names.{same_name}
use Rattle.file_log.specs.Disk.{created, listed}
use Rattle.world_tables.specs.Find.{number_in}
use Rattle.world_tables.specs.Tables.{disk_from}
use Rattle.world_tables.proofs.Disks.{IsNamed, placed}
use Rattle.world_tables.proofs.tables.Tables.set_list.Goals as goal

pub returns-clause-ok : goal.returns-clause-ok
returns-clause-ok c =
    let old = c.args.self.now in
    let slots = old.slots.items in
    let locks = old.locks in
    let list = c.in_ok-list.list in
    let text : list ≡ c.in-Some.text = c.in_ok-list.ensures ∙ c.as_slice.ensures in
    let names' = number_in c.put.new.self in
    let files : c.push-list.new.self.items ≡ old.files.items ++ list ∷ [] = search rules in
    let named : IsNamed (number_in old.names) names' names.List (Some (length old.files.items)) = search rules in
    ap (λ (fs : List (List ℕ)). disk_from names' fs slots locks) files
    ∙ placed (number_in old.names) names' old.files.items slots locks names.List list named
    ∙ ap (λ (bytes : List ℕ). created (disk_from (number_in old.names) old.files.items slots locks) names.List bytes) text
    ∙ ap (listed (disk_from (number_in old.names) old.files.items slots locks)) (sym c.in-Some.is)
