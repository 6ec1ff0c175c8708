use Rattle.std.proofs.Common.{◌∙◌, sym, ap}
use Rattle.std.specs.FinMap.{get}
use Rattle.lock_model.specs.Holders.{holder_in}
use Rattle.lock_model.proofs.Held.{get_of}
use Rattle.lock_model.proofs.holders.Holders.holder_of.Goals as goal

pub returns : goal.returns
returns g c = c.holder_in.ensures ∙ ap (λ held. holder_in held c.args.file) c.deref.ensures.value ∙ sym (get_of c.self.inside.held.items c.args.file) ∙ ap (λ m. get m c.args.file) c.self.view_is
