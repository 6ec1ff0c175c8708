use Rattle.std.proofs.Common.{◌≡◌, ◌∙◌, ℕ, ◌+◌, length, Some, refl, ap, arith, rules}
use Rattle.cache_types.specs.Driver.{DriverKeys, blob_of}
use Rattle.cache_types.proofs.Blobs.{length-blob_of}
use Rattle.cache_types.proofs.OneDriver.{one_front}
use Rattle.cache_types.proofs.front.front_len.Goals as goal

pub returns-in_err-front-clause-only : goal.returns-in_err-front-clause-only
returns-in_err-front-clause-only c = λ d f. absurd (c.in_err-front.ensures.none refl d f)

pub returns-in_err-front-clause-none : goal.returns-in_err-front-clause-none
returns-in_err-front-clause-none c = (λ _. c.in_err-front.ensures.none refl, λ _. search rules)

pub returns-clause-found : goal.returns-clause-found
returns-clause-found c =
    let f = c.in_ok-front.ensures.found in
    (f.driver, f.fronts, omega (arith, length-blob_of f.driver, f.id, f.gpu))

pub returns-clause-only : goal.returns-clause-only
returns-clause-only c = λ d f.
    let g = c.in_ok-front.ensures.found in
    let same = one_front _ g.driver d g.fronts f in
    let size : c.in_ok-front.front.id_len + c.in_ok-front.front.gpu_len + 12 ≡ length (blob_of g.driver) = omega (arith, length-blob_of g.driver, g.id, g.gpu) in
    ap (λ (n : ℕ). Some n) size ∙ ap (λ (e : DriverKeys). Some (length (blob_of e))) same

pub returns-clause-none : goal.returns-clause-none
returns-clause-none c =
    let f = c.in_ok-front.ensures.found in
    (λ none. absurd cc, λ none. absurd (none f.driver f.fronts))
