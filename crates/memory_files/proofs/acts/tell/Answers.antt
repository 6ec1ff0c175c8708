use Rattle.std.proofs.Common.{sym, subst}
use Rattle.file_log.specs.declared.call.Call.TheVariants.{Tell}
use Rattle.file_log.specs.declared.reply.Reply.TheVariants.{Done}
use Rattle.memory_files.specs.Seats.{Tells}
use Rattle.memory_files.proofs.Calls.{note_tells}
use Rattle.memory_files.proofs.acts.tell.Goals as goal

pub returns-in-Ok-clause-tells : goal.returns-in-Ok-clause-tells
returns-in-Ok-clause-tells c =
    let me = c.args.me in
    let old = c.args.world.now in
    subst (Tells me (Tell c.args.note) Done old) (sym c.in-Ok.ensures.ok) (note_tells me c.args.note old c.requires c.tell.ensures.legal)
