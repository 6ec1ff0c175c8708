use Rattle.std.proofs.Common.{◌≡◌, arith, rules}
use Rattle.std.specs.Prelude.{unwrap_or}
use Rattle.std.specs.Map.{lookup}
use Rattle.std.proofs.lemmas.Grind.{common_steps}
use Rattle.world_log.specs.Grouping.{put_under, is_place}
use Rattle.world_log.proofs.Grouping.{gains_one, gains_none, kept_here}
use Rattle.world_log.proofs.groups.PutGroups.add.Goals as goal

pub returns-clause-ok : goal.returns-clause-ok
returns-clause-ok c =
    let old = c.args.self.now in
    let p = put_under c.args.at c.args.blob in
    let before = c.or_insert-records.result.now in
    let kept = lookup (is_place p.at.store.root p.at.key) old.by_place.entries in
    let value : before ≡ unwrap_or kept c.new.result = grind (arith, common_steps) in
    gains_one old _ p before c.add_to.new.records c.add_to.result c.add_to.ensures.ok (kept_here kept c.new.result before value c.new.ensures.items)
    (λ root key. let now = (c.in_ok-self.ensures.update.0 c.add_to.new.records).0 (record { root = root; key = key }) in search (rules, now))

pub returns-clause-err : goal.returns-clause-err
returns-clause-err c =
    let old = c.args.self.now in
    let p = put_under c.args.at c.args.blob in
    let before = c.or_insert-records.result.now in
    let kept = lookup (is_place p.at.store.root p.at.key) old.by_place.entries in
    let value : before ≡ unwrap_or kept c.new.result = grind (arith, common_steps) in
    gains_none old _ p before c.add_to.new.records c.add_to.result c.add_to.ensures.err (kept_here kept c.new.result before value c.new.ensures.items)
    (λ root key. let now = (c.in_ok-self.ensures.update.0 c.add_to.new.records).0 (record { root = root; key = key }) in search (rules, now))
