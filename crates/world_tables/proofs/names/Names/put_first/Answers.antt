use Rattle.std.proofs.Common.{◌≡◌, ◌∙◌, None, Some, ap, cond, sym}
use Rattle.cache_types.specs.declared.name.Name.{Name}
use Rattle.cache_types.specs.Names.{same_name}
use Rattle.world_tables.specs.Find.{number_in}
use Rattle.world_tables.proofs.Numbers.{first_put, first_stays, on_ok}
use Rattle.world_tables.proofs.names.Names.put_first.Goals as goal

pub returns-in_ok-copy-in-None-clause-ok : goal.returns-in_ok-copy-in-None-clause-ok
returns-in_ok-copy-in-None-clause-ok c =
    let old = c.args.self.now in
    let name = c.args.name.now in
    let none : number_in old name ≡ None = sym c.number_of.ensures ∙ c.in-None.is in
    let copied : c.in_ok-copy-in-None.field-0 ≡ name = c.in_ok-copy-in-None.ensures in
    on_ok c.put.result (λ h. λ n. h n ∙ ap (λ (m : Name). cond (same_name m n) (Some c.args.file) (number_in old n)) copied ∙ first_put old name c.args.file none n) c.put.ensures.ok

pub returns-in-Some-clause-ok : goal.returns-in-Some-clause-ok
returns-in-Some-clause-ok c =
    let old = c.args.self.now in
    first_stays old c.args.name.now c.args.file c.in-Some.field-0 (sym c.number_of.ensures ∙ c.in-Some.is)
