use Rattle.std.proofs.Common.{◌≡◌, ◌∙◌, List, ℕ, take, ap, subst, arith}
use Rattle.std.specs.Prelude.{OnOk}
use Rattle.std.proofs.lemmas.List.{take_min}
use Rattle.std.proofs.lemmas.Grind.{common_steps}
use Rattle.file_log.specs.declared.item.LogItem.{LogItem}
use Rattle.file_log.specs.Exchange.{byte_items}
use Rattle.file_model.specs.Held.{told}
use Rattle.world_tables.specs.Pieces.{items_of_run}
use Rattle.world_tables.proofs.Runs.{byte_items-take}
use Rattle.file_model.proofs.world.World.replay_run.Goals as goal

pub returns : goal.returns
returns c =
    let run = c.args.run.now in
    let most = c.args.most in
    let some : c.in_ok-bytes.bytes ≡ take most run.bytes = grind (arith, common_steps, take_min) in
    let items : byte_items run.who run.slot run.at c.in_ok-bytes.bytes ≡ take most (items_of_run run) =
    ap (λ (bytes : List ℕ). byte_items run.who run.slot run.at bytes) some ∙ byte_items-take run.who run.slot run.at most run.bytes in
    subst (λ (news : List LogItem). OnOk c.write_run.result (c.write_run.new.self ≡ told c.args.self.now news)) items c.write_run.ensures.ok
