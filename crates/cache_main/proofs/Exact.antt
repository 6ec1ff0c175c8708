-- Answers that come exactly where their causes hold.
use Rattle.std.proofs.Common.{◌≡◌, inl, inr, Result, Ok, Err, ap}
use Rattle.report_text.specs.declared.status.Status.{Status}
use Rattle.report_text.specs.declared.status.Status.TheVariants.{NoMemory}
use Rattle.cache_main.specs.Top.{Exactly, EndsExactly, RefusesExactly}

-- a step's answer
abbrev pub refusal : (T : Type 0) → Status → Result T Status
refusal T status = Err status

abbrev pub success : {T : Type 0} → T → Result T Status
success x = Ok x

pub same_err : (T : Type 0) (a b : Status) → refusal T a ≡ refusal T b → a ≡ b
same_err T a b e = cc

pub ok_or_err : {T : Type 0} (x : T) (a : Status) → success x ≡ refusal T a → ⊥
ok_or_err x a e = cc

-- a step's refusal ends the call, where P' is P of this step
pub step_ends : (T : Type 0) {P P' : Type 0} (status answer : Status) → (P → P') → (P' → P) → RefusesExactly (refusal T status) answer P → EndsExactly status answer P'
step_ends T status answer out back r = record {
  only = λ e. out (r.only (ap (refusal T) e));
  always = λ p. elim (r.always (back p)) [ inl e ↦ inl (same_err T status answer e) | inr e ↦ inr (same_err T status NoMemory e) ];
}

-- so that P doesn't hold after a step that was not refused
pub not_after : {T P : Type 0} (x : T) (answer : Status) → RefusesExactly (success x) answer P → P → ⊥
not_after x answer r p = elim (r.always p) [ inl e ↦ ok_or_err x answer e | inr e ↦ ok_or_err x NoMemory e ]

-- an answer that isn't given, where its cause doesn't hold
pub never : {T P : Type 0} (given answer wanting : T) → (given ≡ answer → ⊥) → (P → ⊥) → Exactly given answer wanting P
never given answer wanting other fails = record { only = λ e. absurd (other e); always = λ p. absurd (fails p) }
