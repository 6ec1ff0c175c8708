use Rattle.std.proofs.Common.{◌∙◌, sym}
use Rattle.world_tables.proofs.Runs.{length-byte_items}
use Rattle.world_tables.proofs.book.len_of_run.Goals as goal

pub returns : goal.returns
returns c =
    let run = c.args.run.now in
    c.len.ensures ∙ sym (length-byte_items run.who run.slot run.at run.bytes)
