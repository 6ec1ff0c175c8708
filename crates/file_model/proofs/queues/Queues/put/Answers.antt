use Rattle.std.proofs.Common.{ap, ◌∙◌}
use Rattle.std.specs.HashSet.{contains_by}
use Rattle.file_model.specs.Queues.{is_of}
use Rattle.file_model.proofs.Tickets.{put_queues, on_ok}
use Rattle.file_model.proofs.queues.Queues.put.Goals as goal

pub returns : goal.returns
returns c = on_ok c.wait.result c.wait.ensures.waits (λ waits s request are.
    put_queues c.args.self.now c.wait.new.self s c.args.process c.args.ticket request waits
    (λ p t. ap (λ used. contains_by (is_of p t) used) c.wait.ensures.used ∙ c.in_ok-insert.ensures.updates.0 (record { process = p; side = t.side; number = t.number }))
    are)
