use Rattle.std.proofs.Common.{◌≡◌, ◌∙◌, ◌&&◌, true, false, sym, rules}
use Rattle.folder_rules.specs.Whole.{folder_of}
use Rattle.item_frame.specs.Item.{Reads}
use Rattle.item_frame.specs.Refusals.{IsRefused}
use Rattle.rule_checks.specs.Tests.{same_key, same_store}
use Rattle.world_log.proofs.Readings.{none_elsewhere, any_read, none_read, none_then}
use Rattle.world_log.proofs.puts_at.PutsAt.has_item.Goals as goal

pub returns-then-not-is_in : goal.returns-then-not-is_in
returns-then-not-is_in c =
    let r = c.args.self.now in
    let away : (same_store r.at.store (folder_of c.args.root) && same_key r.at.key c.args.key) ≡ false = search rules in
    sym (none_elsewhere c.args.root c.args.key c.args.bytes.now r away)

pub returns-in-Ok : goal.returns-in-Ok
returns-in-Ok c =
    let r = c.args.self.now in
    let at : (same_store r.at.store (folder_of c.args.root) && same_key r.at.key c.args.key) ≡ true = search rules in
    let reads : Reads r.at.driver c.args.bytes.now c.in-Ok.blob = search rules in
    c.has.ensures ∙ any_read c.args.root c.args.key c.args.bytes.now c.in-Ok.blob r at reads

pub returns-in-Err : goal.returns-in-Err
returns-in-Err c =
    let r = c.args.self.now in
    let refused : IsRefused r.at.driver c.args.bytes.now c.in-Err.refusal = search rules in
    none_then c.is_no_item.result _ c.is_no_item.ensures.none c.is_no_item.ensures.memory (none_read c.args.root c.args.key c.args.bytes.now r c.in-Err.refusal refused)
