use Rattle.std.proofs.Common.{sym, subst}
use Rattle.file_log.specs.declared.item.LogItem.{LogItem}
use Rattle.file_log.specs.State.{after}
use Rattle.file_model.specs.Queues.{AreQueues}
use Rattle.file_model.proofs.Tickets.{on_ok}
use Rattle.file_model.proofs.queues.Queues.follow.Goals as goal

pub returns-in-Taken : goal.returns-in-Taken
returns-in-Taken c = λ s are. subst (λ (item : LogItem). AreQueues c.take.new.self (after s item)) (sym c.in-Taken.is) (c.take.ensures s c.in-Taken.ticket are)

pub returns-in-Queued : goal.returns-in-Queued
returns-in-Queued c = on_ok c.put.result c.put.ensures (λ puts s are.
    subst (λ (item : LogItem). AreQueues c.put.new.self (after s item)) (sym c.in-Queued.is) (puts s c.in-Queued.request are))
