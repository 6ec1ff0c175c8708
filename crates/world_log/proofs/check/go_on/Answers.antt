use Rattle.world_log.proofs.Going.{is_after}
use Rattle.world_log.proofs.check.go_on.Goals as goal

pub returns-clause-ledger : goal.returns-clause-ledger
returns-clause-ledger c = λ s carries disk kept.
    let names = c.in_ok-follow_names.ensures.names s carries in
    let rest = c.in_ok-follow_names.ensures.rest s carries.rest in
    let now = is_after s c.follow_names.new.self.names c.tables.result.now c.tables-2.result.now c.args.world.now c.repeat.new.self c.args.item.now c.tables.ensures c.tables-2.ensures c.in_ok-repeat.ensures.ok disk names kept in
    c.in_ok-follow.ensures s rest now
