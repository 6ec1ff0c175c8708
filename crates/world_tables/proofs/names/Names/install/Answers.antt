use Rattle.std.proofs.Common.{◌≡◌, ◌∙◌, ◌+◌, ◌∷◌, ℕ, List, Some, ap, cond, refl, rules}
use Rattle.cache_types.specs.declared.name.Name.{Name}
use Rattle.cache_types.specs.declared.name.Name.TheVariants.{Ro, RoIdx}
use Rattle.cache_types.specs.Names.{same_name}
use Rattle.world_tables.specs.declared.names.Names.{Names}
use Rattle.world_tables.specs.declared.parts.NamedFile.{NamedFile}
use Rattle.world_tables.specs.Find.{number_in}
use Rattle.world_tables.proofs.Numbers.{all_same, both_named, on_err, on_ok}
use Rattle.world_tables.proofs.names.Names.install.Goals as goal

pub returns-clause-ok : goal.returns-clause-ok
returns-clause-ok c =
    let old = c.args.self.now in
    let new : Names = record old { others = c.add_both.new.names } in
    let root = c.args.root in
    let file = c.args.file in
    let main : List ℕ = c.in_ok-copy.field-0 in
    let index : List ℕ = c.in_ok-copy-2.field-0 in
    let first : NamedFile = record { name = Ro root main; file = file } in
    let second : NamedFile = record { name = RoIdx root index; file = c.in-Some.next } in
    let next : c.in-Some.next ≡ file + 1 = search rules in
    on_ok c.add_both.result
    (λ h. λ n.
    both_named old new first second tt tt h refl refl refl n
    ∙ ap (λ (k : ℕ). cond (same_name (RoIdx root index) n) (Some k) (cond (same_name (Ro root main) n) (Some file) (number_in old n))) next
    ∙ ap (λ (text : List ℕ). cond (same_name (RoIdx root text) n) (Some (file + 1)) (cond (same_name (Ro root main) n) (Some file) (number_in old n))) c.in_ok-copy-2.ensures
    ∙ ap (λ (text : List ℕ). cond (same_name (RoIdx root c.args.name.now) n) (Some (file + 1)) (cond (same_name (Ro root text) n) (Some file) (number_in old n))) c.in_ok-copy.ensures)
    c.add_both.ensures.ok

pub returns-clause-err : goal.returns-clause-err
returns-clause-err c =
    let old = c.args.self.now in
    let new : Names = record old { others = c.add_both.new.names } in
    on_err c.add_both.result (λ h. all_same old new (λ p. refl) (λ p. refl) (λ p. refl) h) c.add_both.ensures.err
