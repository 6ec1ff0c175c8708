use Rattle.std.proofs.Common.{refl, arith, rules}
use Rattle.cache_types.proofs.Fronts.{no_bytes, no_version, no_id, no_gpu, no_flags, front_found}
use Rattle.cache_types.proofs.front.front_of.Goals as goal

pub returns-in_default-clause-none : goal.returns-in_default-clause-none
returns-in_default-clause-none c = λ _. no_bytes _ c.in_default.len_below

pub returns-in_default-2-clause-none : goal.returns-in_default-2-clause-none
returns-in_default-2-clause-none c = λ _. no_version _ (search rules)

pub returns-in_err-id-clause-none : goal.returns-in_err-id-clause-none
returns-in_err-id-clause-none c = λ _. no_id _ (c.in_err-id.ensures.none refl)

pub returns-in_err-gpu-clause-none : goal.returns-in_err-gpu-clause-none
returns-in_err-gpu-clause-none c = λ _. no_gpu _ _ _ c.in_ok-id.ensures.found (c.in_err-gpu.ensures.none refl)

pub returns-in_err-flags-clause-none : goal.returns-in_err-flags-clause-none
returns-in_err-flags-clause-none c = λ _. no_flags _ _ _ _ _ c.in_ok-id.ensures.found c.in_ok-gpu.ensures.found (c.in_err-flags.ensures.none refl)

pub returns-clause-found : goal.returns-clause-found
returns-clause-found c =
    front_found _ _ _ _ _ _ _ (search rules) c.in_ok-id.ensures.found c.in_ok-gpu.ensures.found c.in_ok-flags.ensures.found.1 (omega arith)
