use Rattle.std.proofs.Common.{◌≡◌, ◌∙◌, ap, sym, None, Some, ℕ, cond, length, List, ◌∷◌, ◌++◌, []}
use Rattle.cache_types.specs.declared.name.Name.{Name}
use Rattle.cache_types.specs.Names.{same_name}
use Rattle.world_tables.specs.declared.parts.OpenSlot.{OpenSlot}
use Rattle.world_tables.specs.Find.{number_in}
use Rattle.world_tables.specs.Tables.{disk_from}
use Rattle.world_tables.proofs.Disks.{IsNamed, opened_new, open_slot}
use Rattle.world_tables.proofs.tables.Tables.create.Goals as goal

pub returns-in_ok-add_file-in-None-clause-ok : goal.returns-in_ok-add_file-in-None-clause-ok
returns-in_ok-add_file-in-None-clause-ok c =
    let old = c.args.self.now in
    let name = c.args.name.now in
    let len = length old.files.items in
    let who = c.args.who in
    let slot = c.args.slot in
    let names = number_in c.add_file.new.names in
    let none : number_in old.names name ≡ None = sym c.number_of.ensures ∙ c.in-None.is in
    let held : c.in_ok-held-in-None.held ≡ name = c.in_ok-held-in-None.ensures in
    let named : IsNamed (number_in old.names) names name (Some len) = λ n. c.in_ok-add_file-in-None.ensures.names n ∙ ap (λ (m : Name). cond (same_name m n) (Some len) (number_in old.names n)) held in
    let files : c.add_file.new.files.items ≡ old.files.items ++ [] ∷ [] = c.in_ok-add_file-in-None.ensures.files in
    let slots : c.add_file.new.slots.items ≡ open_slot who slot len ∷ old.slots.items = c.in_ok-add_file-in-None.ensures.slots in
    ap (λ (f : List (List ℕ)). disk_from names f c.add_file.new.slots.items old.locks) files
    ∙ ap (λ (s : List OpenSlot). disk_from names (old.files.items ++ [] ∷ []) s old.locks) slots
    ∙ opened_new (number_in old.names) names old.files.items old.slots.items old.locks who slot name (number_in old.names name) none named
