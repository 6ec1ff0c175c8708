use Rattle.std.proofs.Common.{◌∙◌, not, ap, rules}
use Rattle.std.proofs.lemmas.Fn.{filter_same}
use Rattle.std.specs.FinMap.{get}
use Rattle.lock_model.specs.Holders.{freed_of}
use Rattle.lock_model.proofs.Held.{Once-filter, freed}
use Rattle.lock_model.proofs.holders.Holders.free_all.Goals as goal

pub invariant_of-self : goal.invariant_of-self
invariant_of-self g c =
    let e = filter_same _ (λ x. not (g.G.Group.has c.args.these.now x.1)) _ (λ x b f h. search rules) _ _ c.retain.ensures.filtered in
    rw e (Once-filter _ _ c.self.invariant)

pub returns : goal.returns
returns g c = λ file.
    let these = g.G.Group.has c.args.these.now in
    let old = c.self.inside.held.items in
    let e = filter_same _ (λ x. not (these x.1)) _ (λ x b f h. search rules) _ _ c.retain.ensures.filtered in
    rw e (freed these old file c.self.invariant ∙ ap (λ m. freed_of these (get m file)) c.self.view_is)
