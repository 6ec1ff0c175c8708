-- An item by which a name's file goes to another that is no entry passes the tests just where it may leave the one and come in the other's place.
use Rattle.std.proofs.Common.{◌≡◌, inl, inr, ℕ, Bool, true, false, not, ◌&&◌, is_none, Option, Some, None, refl, sym, ap, ◌∙◌, subst}
use Rattle.std.proofs.lemmas.Bool.{not-true, false≢true}
use Rattle.cache_types.specs.Names.{same_name}
use Rattle.cache_types.specs.declared.key.Key.{Key}
use Rattle.cache_types.specs.declared.name.Name.{Name}
use Rattle.cache_types.specs.declared.name.Name.TheVariants as names
use Rattle.cache_types.specs.declared.seat.Who.{Who}
use Rattle.file_log.specs.Disk.{Disk}
use Rattle.file_log.specs.declared.item.LogItem.{LogItem}
use Rattle.seat_rules.specs.Changes.{may_write}
use Rattle.seat_rules.specs.Kinds.{is_entry, comes_guarded, is_lasting, is_foreign}
use Rattle.seat_rules.specs.Rules.{IsLeft}
use Rattle.folder_changes.proofs.Changing.{same_self, one_or_other, none_is_no_file, some_is}
use Rattle.log_summary.specs.Summary.{Summary}
use Rattle.log_summary.proofs.Lists.{and_parts, and_both}
use Rattle.rule_checks.specs.Tests.{implies}
use Rattle.rule_checks.proofs.Deciding.{StaysSo}
use Rattle.rule_cases.specs.Cases.{may_leave}
use Rattle.rule_cases.proofs.Fields.{Known, Leaves, IsAsBefore, implies_in, implies_out, never, always, clash, left_so, renamed_so, stays_so, whole_so, kept_so}
use Rattle.rule_cases.proofs.Leaving.{IsGone, gone_left, gone_stays}
use Rattle.rule_cases.proofs.Making.{temporary_guarded, by_kind}

-- the file of one name is another's; all else is as before
pub record IsMoved (old new : Disk) (from to : Name) (file : ℕ) : Type 0 where
  pub apart : same_name from to ≡ false
  pub here : IsGone old new from file
  pub there : new.names to ≡ Some file
  pub others : (name : Name) → same_name from name ≡ false → same_name to name ≡ false → new.names name ≡ old.names name

pub moved_before : (old new : Disk) (from to : Name) (file : ℕ) → IsMoved old new from to file → (name : Name) → same_name from name ≡ false → same_name to name ≡ false → IsAsBefore old new name
moved_before old new from to file m name e f = record { named = m.others name e f; bytes = λ g named. m.here.files g }

-- the other name had another file before
pub had_another : (s : Summary) (new : Disk) (from to : Name) (file : ℕ) → Known s → IsMoved s.state.disk new from to file → s.state.disk.names to ≡ Some file → ⊥
had_another s new from to file k m e = clash (same_name from to) (subst (λ (name : Name). same_name from name ≡ true) (k.tidy.apart from to file m.here.had e) (same_self from)) m.apart

-- a file may come in the place of a name that is no entry
abbrev pub comes_plainly : Summary → Who → Name → Bool
comes_plainly s who to = implies (is_lasting to) (is_none (s.state.disk.names to)) && not (is_foreign to) && implies (comes_guarded to) (may_write s.state.disk who to)

no_file : (o : Option ℕ) (f : ℕ) → is_none o ≡ true → o ≡ Some f → ⊥
no_file None f e is = none_is_no_file f is
no_file (Some g) f e is = false≢true e

come_parts : (s : Summary) (who : Who) (to : Name) → comes_plainly s who to ≡ true → ((implies (is_lasting to) (is_none (s.state.disk.names to)) ≡ true) × (not (is_foreign to) ≡ true)) × (implies (comes_guarded to) (may_write s.state.disk who to) ≡ true)
come_parts s who to e =
    let parts = and_parts (implies (is_lasting to) (is_none (s.state.disk.names to)) && not (is_foreign to)) _ e in
    (and_parts (implies (is_lasting to) (is_none (s.state.disk.names to))) _ parts.0, parts.1)

pub plain_leaves : (s : Summary) (new : Disk) (item : LogItem) (who : Who) (from to : Name) (file : ℕ) → Known s → IsMoved s.state.disk new from to file → is_entry from ≡ false → is_entry to ≡ false → may_leave s.state.disk who from ≡ true → comes_plainly s who to ≡ true → Leaves s new item who
plain_leaves s new item who from to file k m from_plain to_plain leave come = record {
  whole = λ root key. whole_so s new item k root key (entry root key);
  left = λ name other. elim (one_or_other to name) [
    | inl same ↦ subst (IsLeft s.state.disk new) same (to_left (ap (may_write s.state.disk who) same ∙ other))
    | inr not_to ↦ elim (one_or_other from name) [
      | inl same ↦ subst (IsLeft s.state.disk new) same (gone_left s.state.disk new who from file m.here leave (ap (may_write s.state.disk who) same ∙ other))
      | inr not_from ↦ left_so s.state.disk new name (before name not_from not_to)
    ]
  ];
  renamed = λ root key. renamed_so s.state.disk new item who root key (entry root key);
  entries = λ name f had kind. m.here.files f;
  stay = λ name. elim (one_or_other to name) [
    | inl same ↦ subst (StaysSo s.state.disk new) same to_stays
    | inr not_to ↦ elim (one_or_other from name) [
      | inl same ↦ subst (StaysSo s.state.disk new) same (gone_stays s.state.disk new who from leave)
      | inr not_from ↦ stays_so s.state.disk new name (before name not_from not_to)
    ]
  ];
  unwritten = λ name f had kind. m.here.files f;
  kept = kept_so s new who entry;
}
  where
    parts : ((implies (is_lasting to) (is_none (s.state.disk.names to)) ≡ true) × (not (is_foreign to) ≡ true)) × (implies (comes_guarded to) (may_write s.state.disk who to) ≡ true)
    parts = come_parts s who to come

    before : (name : Name) → same_name from name ≡ false → same_name to name ≡ false → IsAsBefore s.state.disk new name
    before name e f = moved_before s.state.disk new from to file m name e f

    entry : (root : ℕ) (key : Key) → IsAsBefore s.state.disk new (names.Entry root key)
    entry root key = before (names.Entry root key) (by_kind is_entry from (names.Entry root key) from_plain refl) (by_kind is_entry to (names.Entry root key) to_plain refl)

    to_left : may_write s.state.disk who to ≡ false → IsLeft s.state.disk new to
    to_left other = record {
      bytes = λ f e. m.here.files f;
      comes = λ kind f e. absurd (clash _ (implies_in (comes_guarded to) _ parts.1 kind) other);
      stays = λ kind. absurd (clash _ (implies_in (comes_guarded to) _ parts.1 (temporary_guarded to kind)) other);
    }

    to_stays : StaysSo s.state.disk new to
    to_stays = (
      λ kind f e. absurd (no_file (s.state.disk.names to) f (implies_in (is_lasting to) _ parts.0.0 kind) e),
      λ kind. absurd (clash (is_foreign to) kind (not-true (is_foreign to) parts.0.1)),
    )

-- a lasting name to which a file comes had none
none_before : (s : Summary) (new : Disk) (item : LogItem) (who : Who) (from to : Name) (file : ℕ) → Known s → IsMoved s.state.disk new from to file → Leaves s new item who → is_lasting to ≡ true → (o : Option ℕ) → s.state.disk.names to ≡ o → is_none o ≡ true
none_before s new item who from to file k m l kind None e = refl
none_before s new item who from to file k m l kind (Some g) e =
    let same : g ≡ file = some_is g file (sym ((l.stay to).0 kind g e) ∙ m.there) in
    absurd (had_another s new from to file k m (e ∙ ap (λ (n : ℕ). Some n) same))

pub leaves_plain : (s : Summary) (new : Disk) (item : LogItem) (who : Who) (from to : Name) (file : ℕ) → Known s → IsMoved s.state.disk new from to file → Leaves s new item who → comes_plainly s who to ≡ true
leaves_plain s new item who from to file k m l =
    and_both (implies (is_lasting to) (is_none (s.state.disk.names to)) && not (is_foreign to)) _
    (and_both (implies (is_lasting to) (is_none (s.state.disk.names to))) _
    (implies_out (is_lasting to) _ (λ kind. none_before s new item who from to file k m l kind (s.state.disk.names to) refl))
    (never (is_foreign to) (λ kind. had_another s new from to file k m (sym ((l.stay to).1 kind) ∙ m.there))))
    (implies_out (comes_guarded to) _ (λ kind. always _ (λ other. had_another s new from to file k m ((l.left to other).comes kind file m.there))))
