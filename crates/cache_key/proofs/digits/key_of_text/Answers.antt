use Rattle.std.proofs.Common.{refl, sym}
use Rattle.hex.proofs.HexLemmas.{IsOk-decode_sized}
use Rattle.cache_key.proofs.digits.key_of_text.Goals as goal

pub returns-in-Ok-clause-found : goal.returns-in-Ok-clause-found
returns-in-Ok-clause-found c =
    let digits = IsOk-decode_sized c.args.text.now 20 in
    let found = digits.0 (rw (sym c.in-Ok.ensures) refl) in
    (λ e. record { length_is = found.0; digits = found.1 }, λ h. refl)

pub returns-in-Err-clause-found : goal.returns-in-Err-clause-found
returns-in-Err-clause-found c =
    let digits = IsOk-decode_sized c.args.text.now 20 in
    (λ e. absurd (cc), λ h. rw (sym c.in-Err.ensures) at (digits.1 (h.length_is, h.digits)))
