use Rattle.std.proofs.Common.{◌≡◌, true, false, sym, ◌∙◌, take, rules}
use Rattle.log_summary.specs.Summary.{summary_of}
use Rattle.rule_cases.specs.Cases.{passes}
use Rattle.world_log.proofs.Going.{disk_told, legal_here, world_then, ledger_then}
use Rattle.world_log.proofs.Places.{fails_first, all_pass, passed_then}
use Rattle.world_log.proofs.check.first_broken.Goals as goal

pub go_on-requires : goal.go_on-requires
go_on-requires c = legal_here c.args.log.now c.loop-index.index c.loop-index.world c.index-log-index.result c.requires c.loop-index-test.true c.index-log-index.is c.loop-index.invariant.world

pub loop-index-preserved : goal.loop-index-preserved
loop-index-preserved c =
    let log = c.args.log.now in
    let i = c.loop-index.index in
    let item = c.index-log-index.result in
    let s = summary_of (take i log) in
    let disk = disk_told log i c.loop-index.world c.loop-index.invariant.world in
    let kept : c.in_ok-passes.field-0 ≡ true = search rules in
    let here : passes s item ≡ true = sym (c.in_ok-passes.ensures s c.loop-index.invariant.ledger (c.tables.ensures ∙ disk)) ∙ kept in
    record {
      world = world_then log i c.loop-index.world c.go_on.new.world item c.loop-index-test.true c.index-log-index.is c.loop-index.invariant.world c.in_ok-go_on.ensures.world;
      ledger = ledger_then log i c.go_on.new.ledger item c.loop-index-test.true c.index-log-index.is c.loop-index.invariant.passed here (λ k. c.in_ok-go_on.ensures.ledger s c.loop-index.invariant.ledger disk k);
      passed = passed_then log i item c.loop-index-test.true c.index-log-index.is c.loop-index.invariant.passed here;
    }

pub returns-then-not-branch : goal.returns-then-not-branch
returns-then-not-branch c =
    let log = c.args.log.now in
    let i = c.loop-index.index in
    let item = c.index-log-index.result in
    let s = summary_of (take i log) in
    let no : c.in_ok-passes.field-0 ≡ false = search rules in
    let fails : passes s item ≡ false = sym (c.in_ok-passes.ensures s c.loop-index.invariant.ledger (c.tables.ensures ∙ disk_told log i c.loop-index.world c.loop-index.invariant.world)) ∙ no in
    fails_first log i item c.requires c.loop-index-test.true c.index-log-index.is c.loop-index.invariant.passed fails

pub returns : goal.returns
returns c = all_pass c.args.log.now c.loop-index.index c.requires c.loop-index-test.false c.loop-index.invariant.passed
