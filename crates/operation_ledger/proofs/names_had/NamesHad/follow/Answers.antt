use Rattle.operation_ledger.proofs.names_had.NamesHad.follow.Goals as goal

pub returns-in-Did-clause-ok : goal.returns-in-Did-clause-ok
returns-in-Did-clause-ok c = rw c.in-Did.is c.follow_reply.ensures.ok

pub returns-in-SetList-clause-ok : goal.returns-in-SetList-clause-ok
returns-in-SetList-clause-ok c = rw c.in-SetList.is c.follow_list.ensures.ok
