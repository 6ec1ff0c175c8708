use Rattle.operation_ledger.proofs.names_had.NamesHad.follow_reply.Goals as goal

pub returns-in-Done-clause-ok : goal.returns-in-Done-clause-ok
returns-in-Done-clause-ok c = rw c.in-Done.is c.follow_call.ensures.ok
