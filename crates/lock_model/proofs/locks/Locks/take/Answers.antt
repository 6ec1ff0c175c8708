use Rattle.std.proofs.Common.{◌≡◌, ◌∙◌, ℕ, nat_eq, Bool, true, false, cond, Some, refl, sym, ap}
use Rattle.std.proofs.lemmas.Bool.{eqb-true}
use Rattle.std.specs.FinMap.{FinMap, get, insert}
use Rattle.std.specs.Ordering.{nat_cmp}
use Rattle.lock_model.proofs.Held.{again}
use Rattle.lock_model.proofs.locks.Locks.take.Goals as goal

pub returns-in-Some-clause-new : goal.returns-in-Some-clause-new
returns-in-Some-clause-new c = chosen c.args.self.now c.args.file c.args.holder c.in-Some.other (c.in-Some.ensures ∙ ap (λ held. get held c.args.file) c.self.view_is) (nat_eq c.in-Some.other c.args.holder) refl
  where
    chosen : (held : FinMap nat_cmp ℕ) (file holder other : ℕ) → Some other ≡ get held file → (b : Bool) → nat_eq other holder ≡ b → held ≡ cond b (insert held file holder) held
    chosen held file holder other is true e = again held file holder (sym is ∙ ap Some (eqb-true other holder e))
    chosen held file holder other is false e = refl
