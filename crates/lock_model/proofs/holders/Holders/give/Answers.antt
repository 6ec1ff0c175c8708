use Rattle.std.proofs.Common.{◌≡◌, ◌∙◌, ◌∷◌, sym, ap, rules}
use Rattle.std.specs.FinMap.{get}
use Rattle.lock_model.proofs.Held.{get_of}
use Rattle.lock_model.proofs.holders.Holders.give.Goals as goal

pub invariant_of-self-2 : goal.invariant_of-self-2
invariant_of-self-2 g c =
    let old = c.self.inside.held.items in
    let items : c.insert.new.self.items ≡ (c.args.file, c.args.holder) ∷ old = search rules in
    rw items (sym (get_of old c.args.file) ∙ ap (λ m. get m c.args.file) c.self.view_is ∙ c.requires, c.self.invariant)
