use Rattle.std.proofs.Common.{◌↔◌, IsTrue, IfOk, sym, subst}
use Rattle.file_log.specs.declared.call.Call.{Call}
use Rattle.file_log.specs.declared.reply.Reply.{Reply}
use Rattle.file_log.specs.declared.reply.Reply.TheVariants.{Keys}
use Rattle.file_log.specs.Legal.{IsReply}
use Rattle.world_tables.specs.Tables.{disk_at}
use Rattle.world_tables.proofs.tables.Tables.can_answer.Goals as goal

pub returns-in-ListFolder : goal.returns-in-ListFolder
returns-in-ListFolder c =
    let d = disk_at c.args.self.now in
    let who = c.args.who in
    let listed = subst (λ (call : Call). IfOk c.lists.result (λ can. IsTrue can ↔ IsReply d who call (Keys c.in-Keys.keys))) (sym c.in-ListFolder.is) c.lists.ensures in
    subst (λ (reply : Reply). IfOk c.lists.result (λ can. IsTrue can ↔ IsReply d who c.args.call.now reply)) (sym c.in-Keys.is) listed
