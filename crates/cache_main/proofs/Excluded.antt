-- Variables that give settings are not refused.
use Rattle.std.proofs.Common.{◌≡◌, ℕ, true, false, List, Option, None, is_some, refl, sym, subst, ◌∙◌, arith}
use Rattle.cmd_words.specs.declared.command.Command.{Command}
use Rattle.report_text.specs.declared.status.Status.{Status}
use Rattle.report_text.specs.declared.status.Status.TheVariants as statuses
use Rattle.settings_read.specs.declared.overrides.Overrides.{Overrides}
use Rattle.settings_read.specs.Settings.{IsOff, HasNoRoot, HasTooMany, HasSettings}
use Rattle.settings_read.specs.Variables.{Environment}
use Rattle.cache_main.specs.declared.admission.Admitted.{Admitted}
use Rattle.cache_main.specs.Admission.{Admits, RefusesOperation}
use Rattle.cache_main.specs.Keys.{HasKeys}
use Rattle.cache_main.specs.Settings.{over_of, LiesInFolder, LiesElsewhere}
use Rattle.cache_main.proofs.Exact.{refusal}

pub not_off : (vars : Environment) (over : Overrides) → HasSettings vars over → IsOff vars → ⊥
not_off vars over given off = let clash : true ≡ false = sym off ∙ given.on in cc

pub has_root : (vars : Environment) (over : Overrides) → HasSettings vars over → HasNoRoot vars over → ⊥
has_root vars over given none =
    let none_at : Option (List ℕ) = None in
    let clash : is_some none_at ≡ true = subst (λ (o : Option (List ℕ)). is_some o ≡ true) none.none given.root in cc

pub not_many : (vars : Environment) (over : Overrides) (n : ℕ) → HasSettings vars over → HasTooMany vars over n → ⊥
not_many vars over n given many = omega (arith, many.number, many.many, given.few)

pub one_place : (command : Command) (vars : Environment) → LiesInFolder command vars → LiesElsewhere command vars → ⊥
one_place command vars here there = there.layout here.layout

-- so a put or a get in a store that is built, with good keys, is refused for want of memory alone
pub comes_through : (command : Command) (vars : Environment) (status : Status) → RefusesOperation status → Admits command vars (refusal Admitted status) → LiesInFolder command vars → HasKeys command → status ≡ statuses.NoMemory
comes_through command vars statuses.Off may admits lies keys = absurd (not_off vars (over_of command) lies.allowed (admits.off.only refl))
comes_through command vars statuses.NoRoot may admits lies keys = absurd (has_root vars (over_of command) lies.allowed (admits.no_root.only refl))
comes_through command vars (statuses.TooManyReadOnly n) may admits lies keys = absurd (not_many vars (over_of command) n lies.allowed ((admits.too_many n).only refl))
comes_through command vars statuses.NotBuilt may admits lies keys = absurd (one_place command vars lies (admits.not_built.only refl))
comes_through command vars statuses.BadKey may admits lies keys = absurd ((admits.bad_key.only refl).1 keys)
comes_through command vars statuses.NoMemory may admits lies keys = refl
comes_through command vars status may admits lies keys = absurd may
