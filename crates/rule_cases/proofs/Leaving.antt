-- A name that loses its file: what the tests say of it, and that they say it just where it may leave.
use Rattle.std.proofs.Common.{◌≡◌, ℕ, true, false, not, ◌&&◌, Some, None, sym, ◌∙◌}
use Rattle.std.proofs.lemmas.Bool.{not-true}
use Rattle.cache_types.specs.declared.name.Name.{Name}
use Rattle.cache_types.specs.declared.seat.Who.{Who}
use Rattle.file_log.specs.Disk.{Disk}
use Rattle.file_log.specs.declared.item.LogItem.{LogItem}
use Rattle.seat_rules.specs.Changes.{may_write}
use Rattle.seat_rules.specs.Kinds.{is_temporary, is_lasting, is_foreign}
use Rattle.seat_rules.specs.Rules.{IsLeft}
use Rattle.folder_changes.proofs.Changing.{none_is_no_file}
use Rattle.log_summary.specs.Summary.{Summary}
use Rattle.log_summary.proofs.Lists.{and_parts, and_both}
use Rattle.rule_checks.specs.Tests.{implies}
use Rattle.rule_checks.proofs.Deciding.{StaysSo}
use Rattle.rule_cases.specs.Cases.{may_leave}
use Rattle.rule_cases.proofs.Fields.{Leaves, implies_in, implies_out, never, always, clash}

-- the name had the file and has none; files are as before
pub record IsGone (old new : Disk) (name : Name) (file : ℕ) : Type 0 where
  pub had : old.names name ≡ Some file
  pub gone : new.names name ≡ None
  pub files : (f : ℕ) → new.files f ≡ old.files f

leave_parts : (d : Disk) (who : Who) (name : Name) → may_leave d who name ≡ true → ((not (is_lasting name) ≡ true) × (not (is_foreign name) ≡ true)) × (implies (is_temporary name) (may_write d who name) ≡ true)
leave_parts d who name e =
    let parts = and_parts (not (is_lasting name) && not (is_foreign name)) _ e in
    (and_parts (not (is_lasting name)) _ parts.0, parts.1)

pub gone_left : (old new : Disk) (who : Who) (name : Name) (file : ℕ) → IsGone old new name file → may_leave old who name ≡ true → may_write old who name ≡ false → IsLeft old new name
gone_left old new who name file g may other = record {
  bytes = λ f e. g.files f;
  comes = λ kind f e. absurd (none_is_no_file f (sym g.gone ∙ e));
  stays = λ kind. absurd (clash _ (implies_in (is_temporary name) _ (leave_parts old who name may).1 kind) other);
}

pub gone_stays : (old new : Disk) (who : Who) (name : Name) → may_leave old who name ≡ true → StaysSo old new name
gone_stays old new who name may =
    let kinds = (leave_parts old who name may).0 in
    (λ kind f e. absurd (clash (is_lasting name) kind (not-true (is_lasting name) kinds.0)), λ kind. absurd (clash (is_foreign name) kind (not-true (is_foreign name) kinds.1)))

pub leaves_leaving : (s : Summary) (new : Disk) (item : LogItem) (who : Who) (name : Name) (file : ℕ) → IsGone s.state.disk new name file → Leaves s new item who → may_leave s.state.disk who name ≡ true
leaves_leaving s new item who name file g l =
    and_both (not (is_lasting name) && not (is_foreign name)) _
    (and_both (not (is_lasting name)) _
    (never (is_lasting name) (λ kind. none_is_no_file file (sym g.gone ∙ (l.stay name).0 kind file g.had)))
    (never (is_foreign name) (λ kind. none_is_no_file file (sym g.gone ∙ (l.stay name).1 kind ∙ g.had))))
    (implies_out (is_temporary name) _ (λ kind. always _ (λ other. none_is_no_file file (sym g.gone ∙ (l.left name other).stays kind ∙ g.had))))
