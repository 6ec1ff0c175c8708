-- The length of a sleep.
use Rattle.std.proofs.Common.{◌≡◌, ℕ, ◌≤◌, ◌-◌, ◌*◌, ◌^◌, min, nat_lt, false, Some, inl, inr, sym, ap, ◌∙◌, arith}
use Rattle.std.proofs.Math.Nat.{pow-le-pow_right}
use Rattle.std.proofs.lemmas.Bool.{cases_lt, cond-false}
use Rattle.host_files.specs.Waits.{sleep_after}

-- no sleep past the eighth doubling is longer than the eighth
capped : (n k : ℕ) → k ≡ min n 8 → min (50 * 2 ^ k) 10000 ≡ min (50 * 2 ^ n) 10000
capped n k e =
    elim (cases_lt n 8) [
      | inl below ↦ let same : k ≡ n = omega (arith, e) in ap (λ m. min (50 * 2 ^ m) 10000) same
      | inr above ↦
          let eight : k ≡ 8 = omega (arith, e) in
          let longer : 2 ^ 8 ≤ 2 ^ n = pow-le-pow_right {n = 2} (omega arith) {i = 8} {j = n} (omega arith) in
          ap (λ m. min (50 * 2 ^ m) 10000) eight ∙ omega (arith, longer)
    ]

pub slept : (waits k sleep : ℕ) → nat_lt waits 4 ≡ false → k ≡ min (waits - 4) 8 → sleep ≡ min (50 * 2 ^ k) 10000 → Some sleep ≡ sleep_after waits
slept waits k sleep late k_is sleep_is =
    ap Some (sleep_is ∙ capped (waits - 4) k k_is) ∙ sym (cond-false _ _ _ late)
