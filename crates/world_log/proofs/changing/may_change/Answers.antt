use Rattle.std.proofs.Common.{ℕ, List, nat_eq, ap, ◌∙◌}
use Rattle.std.specs.List.{list_all}
use Rattle.cache_types.specs.declared.name.Name.{Name}
use Rattle.file_log.specs.Disk.{Disk}
use Rattle.rule_cases.specs.Cases.{may_change_of}
use Rattle.rule_checks.specs.Tests.{implies}
use Rattle.world_tables.specs.Tables.{disk_at}
use Rattle.world_log.proofs.Named.{all_of_file}
use Rattle.world_log.proofs.changing.may_change.Goals as goal

pub returns : goal.returns
returns c = λ s had disk.
    let test = may_change_of (disk_at c.args.tables.now) c.args.who c.args.file in
    c.may_change_each.ensures
    ∙ ap (λ (names : List Name). list_all test names) (c.names_of.ensures s.had had)
    ∙ all_of_file c.args.file test s.had
    ∙ ap (λ (d : Disk). list_all (λ (p : Name × ℕ). implies (nat_eq p.1 c.args.file) (may_change_of d c.args.who c.args.file p.0)) s.had) disk
