-- An item by which a name gets a new file passes the tests just where the seat may make it.
use Rattle.std.proofs.Common.{◌≡◌, inl, inr, ℕ, ◌<◌, Bool, true, false, not, ◌&&◌, Some, None, refl, sym, ap, ◌∙◌, subst}
use Rattle.std.proofs.lemmas.Bool.{not-true, false≢true}
use Rattle.cache_types.specs.Names.{same_name}
use Rattle.cache_types.specs.declared.key.Key.{Key}
use Rattle.cache_types.specs.declared.name.Name.{Name}
use Rattle.cache_types.specs.declared.name.Name.TheVariants as names
use Rattle.cache_types.specs.declared.seat.Who.{Who}
use Rattle.file_log.specs.Disk.{Disk}
use Rattle.file_log.specs.declared.item.LogItem.{LogItem}
use Rattle.seat_rules.specs.Changes.{may_write, is_rename}
use Rattle.seat_rules.specs.Kinds.{is_entry, is_temporary, comes_guarded, is_foreign}
use Rattle.seat_rules.specs.Rules.{IsLeft}
use Rattle.folder_changes.proofs.Changing.{one_or_other, none_is_no_file}
use Rattle.log_summary.specs.Summary.{Summary}
use Rattle.log_summary.proofs.Lists.{and_parts, and_both}
use Rattle.rule_checks.specs.Tests.{implies}
use Rattle.rule_checks.proofs.Deciding.{StaysSo}
use Rattle.rule_cases.specs.Cases.{may_make}
use Rattle.rule_cases.proofs.Fields.{Known, Leaves, IsAsBefore, implies_in, implies_out, never, always, clash, left_so, renamed_so, stays_so, whole_so, kept_so}

-- a name that had no file has a new one
pub record IsMade (old new : Disk) (name : Name) : Type 0 where
  pub absent : old.names name ≡ None
  pub here : new.names name ≡ Some old.count
  pub others : (other : Name) → same_name name other ≡ false → new.names other ≡ old.names other
  pub files : (f : ℕ) → f < old.count → new.files f ≡ old.files f

-- a temporary name comes only under its lock
pub temporary_guarded : (name : Name) → is_temporary name ≡ true → comes_guarded name ≡ true
temporary_guarded (names.Temp root key) e = refl
temporary_guarded name e = absurd (false≢true e)

-- another name than one that is of another kind
pub by_kind : (kind : Name → Bool) (a b : Name) → kind a ≡ false → kind b ≡ true → same_name a b ≡ false
by_kind kind a b e f = elim (one_or_other a b) [
  | inl same ↦ absurd (clash (kind b) f (ap kind (sym same) ∙ e))
  | inr other ↦ other
]

pub making_leaves : (s : Summary) (new : Disk) (item : LogItem) (who : Who) (name : Name) → Known s → IsMade s.state.disk new name → may_make s.state.disk who name ≡ true → Leaves s new item who
making_leaves s new item who name k m may = record {
  whole = λ root key. whole_so s new item k root key (entry root key);
  left = left;
  renamed = λ root key. renamed_so s.state.disk new item who root key (entry root key);
  entries = λ other f had kind. m.files f (k.below other f had);
  stay = stay;
  unwritten = λ other f had kind. m.files f (k.below other f had);
  kept = kept_so s new who entry;
}
  where
    parts : (not (is_entry name) && not (is_foreign name) ≡ true) × (implies (comes_guarded name) (may_write s.state.disk who name) ≡ true)
    parts = and_parts (not (is_entry name) && not (is_foreign name)) _ may

    kinds : (not (is_entry name) ≡ true) × (not (is_foreign name) ≡ true)
    kinds = and_parts (not (is_entry name)) _ parts.0

    as_before : (other : Name) → same_name name other ≡ false → IsAsBefore s.state.disk new other
    as_before other e = record { named = m.others other e; bytes = λ f named. m.files f (k.tidy.there other f named) }

    entry : (root : ℕ) (key : Key) → IsAsBefore s.state.disk new (names.Entry root key)
    entry root key = as_before (names.Entry root key) (by_kind is_entry name (names.Entry root key) (not-true (is_entry name) kinds.0) refl)

    here : may_write s.state.disk who name ≡ false → IsLeft s.state.disk new name
    here other = record {
      bytes = λ f e. absurd (none_is_no_file f (sym m.absent ∙ e));
      comes = λ kind f e. absurd (clash _ (implies_in (comes_guarded name) _ parts.1 kind) other);
      stays = λ kind. absurd (clash _ (implies_in (comes_guarded name) _ parts.1 (temporary_guarded name kind)) other);
    }

    left : (other : Name) → may_write s.state.disk who other ≡ false → IsLeft s.state.disk new other
    left other not_mine = elim (one_or_other name other) [
      | inl same ↦ subst (IsLeft s.state.disk new) same (here (ap (may_write s.state.disk who) same ∙ not_mine))
      | inr apart_ ↦ left_so s.state.disk new other (as_before other apart_)
    ]

    stays_here : StaysSo s.state.disk new name
    stays_here = (λ kind f e. absurd (none_is_no_file f (sym m.absent ∙ e)), λ kind. absurd (clash (is_foreign name) kind (not-true (is_foreign name) kinds.1)))

    stay : (other : Name) → StaysSo s.state.disk new other
    stay other = elim (one_or_other name other) [
      | inl same ↦ subst (StaysSo s.state.disk new) same stays_here
      | inr apart_ ↦ stays_so s.state.disk new other (as_before other apart_)
    ]

-- no name of an entry is made so by an item that renames none
made_no_entry : (s : Summary) (new : Disk) (item : LogItem) (who : Who) (name : Name) → ((root : ℕ) (key : Key) → is_rename (names.Temp root key) (names.Entry root key) item ≡ false) → IsMade s.state.disk new name → Leaves s new item who → is_entry name ≡ true → ⊥
made_no_entry s new item who (names.Entry root key) no_rename m l kind = none_is_no_file s.state.disk.count (sym m.absent ∙ (l.renamed root key).renamed (no_rename root key) s.state.disk.count m.here)
made_no_entry s new item who name no_rename m l kind = false≢true kind

pub leaves_making : (s : Summary) (new : Disk) (item : LogItem) (who : Who) (name : Name) → ((root : ℕ) (key : Key) → is_rename (names.Temp root key) (names.Entry root key) item ≡ false) → IsMade s.state.disk new name → Leaves s new item who → may_make s.state.disk who name ≡ true
leaves_making s new item who name no_rename m l =
    and_both (not (is_entry name) && not (is_foreign name)) _
    (and_both (not (is_entry name)) _
    (never (is_entry name) (made_no_entry s new item who name no_rename m l))
    (never (is_foreign name) (λ kind. none_is_no_file s.state.disk.count (sym m.absent ∙ sym ((l.stay name).1 kind) ∙ m.here))))
    (implies_out (comes_guarded name) _ (λ kind. always _ (λ other. none_is_no_file s.state.disk.count (sym m.absent ∙ (l.left name other).comes kind s.state.disk.count m.here))))
