use Rattle.std.proofs.Common.{rules, not}
use Rattle.std.proofs.lemmas.Fn.{filter_same}
use Rattle.cache_types.specs.Seats.{same_seat}
use Rattle.log_summary.specs.Summary.{OpenEvict}
use Rattle.world_log.proofs.evictions.follow_evict.Goals as goal

pub returns-in-End-clause-ok : goal.returns-in-End-clause-ok
returns-in-End-clause-ok c =
    let e = filter_same _ (λ (x : OpenEvict). not (same_seat x.who c.in-End.who)) _ (λ x b f h. search rules) _ _ c.retain.ensures.filtered in
    rw c.in-End.is e
