use Rattle.std.proofs.Common.{◌≡◌, ◌<◌, length, get_or, Some, rules}
use Rattle.std.proofs.lemmas.Result.{on_ok_weaker, on_err_weaker}
use Rattle.std.specs.List.{position}
use Rattle.rule_checks.specs.Tests.{same_address}
use Rattle.world_log.proofs.Grouping.{place_within, gains_in_place, gains_still, gains_record}
use Rattle.world_log.specs.Grouping.{put_under}
use Rattle.world_log.proofs.groups.add_to.Goals as goal

pub index_mut-requires : goal.index_mut-requires
index_mut-requires c =
    let at : position (λ r. same_address r.at c.args.at) c.args.records.now.items ≡ Some c.in-Some.place = search rules in
    let less : c.in-Some.place < length c.args.records.now.items = place_within (λ r. same_address r.at c.args.at) c.args.records.now.items c.in-Some.place at in
    search (rules, less)

pub returns-in-Some-clause-ok : goal.returns-in-Some-clause-ok
returns-in-Some-clause-ok c =
    let records = c.args.records.now.items in
    let at : position (λ r. same_address r.at c.args.at) records ≡ Some c.in-Some.place = search rules in
    let is : get_or records c.in-Some.place c.index_mut.result.now ≡ c.index_mut.result.now = search rules in
    on_ok_weaker c.push.result (λ more. gains_in_place records c.in-Some.place c.index_mut.result.now c.push.new.self c.args.at c.args.blob at is more) c.push.ensures.ok

pub returns-in_ok-push-in-None-clause-ok : goal.returns-in_ok-push-in-None-clause-ok
returns-in_ok-push-in-None-clause-ok c = search (rules, gains_record c.args.records.now.items c.new.result (put_under c.args.at c.args.blob) c.new.ensures)

pub returns-in-Some-clause-err : goal.returns-in-Some-clause-err
returns-in-Some-clause-err c =
    let records = c.args.records.now.items in
    let at : position (λ r. same_address r.at c.args.at) records ≡ Some c.in-Some.place = search rules in
    let less : c.in-Some.place < length records = place_within (λ r. same_address r.at c.args.at) records c.in-Some.place at in
    let is : get_or records c.in-Some.place c.index_mut.result.now ≡ c.index_mut.result.now = search rules in
    on_err_weaker c.push.result (λ same. gains_still records c.in-Some.place c.index_mut.result.now c.push.new.self less is same) c.push.ensures.err
