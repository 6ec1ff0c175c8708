-- What refuses a put or a get, by its settings.
use Rattle.std.proofs.Common.{◌≡◌, inl, inr, ℕ, refl, ap, subst}
use Rattle.cmd_words.specs.declared.command.Command.{Command}
use Rattle.report_text.specs.declared.status.Status.{Status}
use Rattle.report_text.specs.declared.status.Status.TheVariants as statuses
use Rattle.settings_read.specs.declared.cache_settings.CacheSettings.{CacheSettings}
use Rattle.settings_read.specs.Settings.{IsOff, HasNoRoot, HasTooMany, HasSettings}
use Rattle.settings_read.specs.Variables.{Environment}
use Rattle.cache_main.specs.declared.admission.Admitted.{Admitted}
use Rattle.cache_main.specs.Admission.{Admits, RefusesOperation}
use Rattle.cache_main.specs.Settings.{over_of, IsSettingsRefusal}
use Rattle.cache_main.specs.Top.{RefusesExactly}
use Rattle.cache_main.proofs.Exact.{refusal, same_err}
use Rattle.cache_main.proofs.Excluded.{not_off, has_root, not_many}

-- the same refusal of another step
pub same_refusal : (T U : Type 0) {P : Type 0} (status answer : Status) → RefusesExactly (refusal T status) answer P → RefusesExactly (refusal U status) answer P
same_refusal T U status answer r = record {
  only = λ e. r.only (ap (refusal T) (same_err U status answer e));
  always = λ p. elim (r.always p) [ inl e ↦ inl (ap (refusal U) (same_err T status answer e)) | inr e ↦ inr (ap (refusal U) (same_err T status statuses.NoMemory e)) ];
}

-- the settings were refused, each refusal exactly where its cause holds
pub record SettingsRefused (command : Command) (vars : Environment) (status : Status) : Type 0 where
  pub off : RefusesExactly (refusal CacheSettings status) statuses.Off (IsOff vars)
  pub no_root : RefusesExactly (refusal CacheSettings status) statuses.NoRoot (HasNoRoot vars (over_of command))
  pub too_many : (n : ℕ) → RefusesExactly (refusal CacheSettings status) (statuses.TooManyReadOnly n) (HasTooMany vars (over_of command) n)
  pub refused : IsSettingsRefusal status

refuses_operation : (status : Status) → IsSettingsRefusal status → RefusesOperation status
refuses_operation statuses.Off r = tt
refuses_operation statuses.NoRoot r = tt
refuses_operation (statuses.TooManyReadOnly n) r = tt
refuses_operation statuses.NoMemory r = tt
refuses_operation status r = absurd r

-- where there are settings that is for want of memory alone
wants_memory : (command : Command) (vars : Environment) (status : Status) → SettingsRefused command vars status → HasSettings vars (over_of command) → status ≡ statuses.NoMemory
wants_memory command vars statuses.Off r given = absurd (not_off vars (over_of command) given (r.off.only refl))
wants_memory command vars statuses.NoRoot r given = absurd (has_root vars (over_of command) given (r.no_root.only refl))
wants_memory command vars (statuses.TooManyReadOnly n) r given = absurd (not_many vars (over_of command) n given ((r.too_many n).only refl))
wants_memory command vars statuses.NoMemory r given = refl
wants_memory command vars status r given = absurd r.refused

pub settings_refused : (command : Command) (vars : Environment) (status : Status) → SettingsRefused command vars status → Admits command vars (refusal Admitted status)
settings_refused command vars status r = record {
  off = same_refusal CacheSettings Admitted status statuses.Off r.off;
  no_root = same_refusal CacheSettings Admitted status statuses.NoRoot r.no_root;
  too_many = λ n. same_refusal CacheSettings Admitted status (statuses.TooManyReadOnly n) (r.too_many n);
  not_built = record { only = λ e. absurd (subst IsSettingsRefusal (same_err Admitted status statuses.NotBuilt e) r.refused); always = λ lies. inr (ap (refusal Admitted) (wants_memory command vars status r lies.allowed)) };
  bad_key = record { only = λ e. absurd (subst IsSettingsRefusal (same_err Admitted status statuses.BadKey e) r.refused); always = λ bad. inr (ap (refusal Admitted) (wants_memory command vars status r bad.0.allowed)) };
  refused = refuses_operation status r.refused;
}
