use Rattle.std.proofs.Common.{Some, refl, ap, subst, rules}
use Rattle.cache_types.specs.Driver.{DriverKeys, HasNoFront}
use Rattle.cache_types.proofs.Fronts.{same_found, made_is_front, made_fronts}
use Rattle.cache_types.proofs.OneDriver.{one_front}
use Rattle.cache_types.proofs.driver.Driver.of_front.Goals as goal

pub returns-in_err-front-clause-only : goal.returns-in_err-front-clause-only
returns-in_err-front-clause-only c = λ d f.
    absurd (subst HasNoFront c.as_slice.ensures (c.in_err-front.ensures.none refl) d f)

pub returns-in_err-front-clause-none : goal.returns-in_err-front-clause-none
returns-in_err-front-clause-none c =
    (λ _. subst HasNoFront c.as_slice.ensures (c.in_err-front.ensures.none refl), λ _. search rules)

pub invariant_of-result : goal.invariant_of-result
invariant_of-result c = made_is_front _ _ (same_found c.as_slice.ensures c.in_ok-front.ensures.found)

pub returns-clause-found : goal.returns-clause-found
returns-clause-found c = made_fronts _ _ (same_found c.as_slice.ensures c.in_ok-front.ensures.found)

pub returns-clause-only : goal.returns-clause-only
returns-clause-only c = λ d f.
    let found = made_fronts _ _ (same_found c.as_slice.ensures c.in_ok-front.ensures.found) in
    ap (λ (e : DriverKeys). Some e) (one_front c.args.bytes _ d found f)

pub returns-clause-none : goal.returns-clause-none
returns-clause-none c =
    let f = same_found c.as_slice.ensures c.in_ok-front.ensures.found in
    (λ none. absurd cc, λ none. absurd (none f.driver f.fronts))
