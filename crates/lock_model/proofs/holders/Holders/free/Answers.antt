use Rattle.std.proofs.Common.{◌∙◌, nat_eq, not, ap, rules}
use Rattle.std.proofs.lemmas.Fn.{filter_same}
use Rattle.std.specs.FinMap.{remove}
use Rattle.lock_model.proofs.Held.{Once-filter, removed}
use Rattle.lock_model.proofs.holders.Holders.free.Goals as goal

pub invariant_of-self : goal.invariant_of-self
invariant_of-self g c =
    let e = filter_same _ (λ x. not (nat_eq x.0 c.args.file)) _ (λ x b f h. search rules) _ _ c.retain.ensures.filtered in
    rw e (Once-filter _ _ c.self.invariant)

pub returns : goal.returns
returns g c =
    let e = filter_same _ (λ x. not (nat_eq x.0 c.args.file)) _ (λ x b f h. search rules) _ _ c.retain.ensures.filtered in
    rw e (removed c.args.file _ ∙ ap (λ m. remove m c.args.file) c.self.view_is)
