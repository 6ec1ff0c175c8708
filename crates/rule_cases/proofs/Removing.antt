-- An item by which a name goes passes the tests just where its file may go.
use Rattle.std.proofs.Common.{◌≡◌, inl, inr, ℕ, true, false, ◌++◌, None, refl, sym, ap, ◌∙◌, subst}
use Rattle.std.proofs.lemmas.Bool.{false≢true}
use Rattle.cache_types.specs.Names.{same_name}
use Rattle.cache_types.specs.declared.key.Key.{Key}
use Rattle.cache_types.specs.declared.name.Name.{Name}
use Rattle.cache_types.specs.declared.name.Name.TheVariants as names
use Rattle.cache_types.specs.declared.seat.Who.{Who}
use Rattle.file_log.specs.Disk.{Disk, file_of, bytes_in}
use Rattle.file_log.specs.declared.item.LogItem.{LogItem}
use Rattle.seat_rules.specs.Changes.{has_lock, may_write, is_rename_of}
use Rattle.seat_rules.specs.Kinds.{folder_byte, is_entry}
use Rattle.seat_rules.specs.Rules.{IsLeft}
use Rattle.folder_changes.proofs.Changing.{one_or_other, none_is_no_file}
use Rattle.log_summary.specs.Summary.{Summary, put_in}
use Rattle.log_summary.proofs.Lists.{and_parts, and_both}
use Rattle.rule_checks.specs.Tests.{is_whole}
use Rattle.rule_checks.proofs.Deciding.{IsRenamed, StaysSo}
use Rattle.rule_cases.specs.Cases.{may_leave, entry_goes, goes_well, loses_nothing}
use Rattle.rule_cases.proofs.Fields.{Known, Leaves, IsAsBefore, always, clash, left_so, renamed_so, stays_so, whole_so, kept_so}
use Rattle.rule_cases.proofs.Making.{by_kind}
use Rattle.rule_cases.proofs.Leaving.{IsGone, gone_left, gone_stays, leaves_leaving}
use Rattle.rule_cases.proofs.Losing.{IsReplaced, losing_kept, kept_losing}

-- the name had the file and has none; all else is as before
pub record IsRemoved (old new : Disk) (name : Name) (file : ℕ) : Type 0 where
  pub here : IsGone old new name file
  pub others : (other : Name) → same_name name other ≡ false → new.names other ≡ old.names other

-- the item renames no name of an entry
abbrev pub RenamesNone : LogItem → Type 0
RenamesNone item = (root : ℕ) (key : Key) → is_rename_of (names.Entry root key) item ≡ false

as_before : (old new : Disk) (name : Name) (file : ℕ) → IsRemoved old new name file → (other : Name) → same_name name other ≡ false → IsAsBefore old new other
as_before old new name file r other e = record { named = r.others other e; bytes = λ f named. r.here.files f }

-- ---- no entry

plain_leaves : (s : Summary) (new : Disk) (item : LogItem) (who : Who) (name : Name) (file : ℕ) → Known s → IsRemoved s.state.disk new name file → is_entry name ≡ false → may_leave s.state.disk who name ≡ true → Leaves s new item who
plain_leaves s new item who name file k r plain may = record {
  whole = λ root key. whole_so s new item k root key (entry root key);
  left = λ other not_mine. elim (one_or_other name other) [
    | inl same ↦ subst (IsLeft s.state.disk new) same (gone_left s.state.disk new who name file r.here may (ap (may_write s.state.disk who) same ∙ not_mine))
    | inr apart_ ↦ left_so s.state.disk new other (as_before s.state.disk new name file r other apart_)
  ];
  renamed = λ root key. renamed_so s.state.disk new item who root key (entry root key);
  entries = λ other f had kind. r.here.files f;
  stay = λ other. elim (one_or_other name other) [
    | inl same ↦ subst (StaysSo s.state.disk new) same (gone_stays s.state.disk new who name may)
    | inr apart_ ↦ stays_so s.state.disk new other (as_before s.state.disk new name file r other apart_)
  ];
  unwritten = λ other f had kind. r.here.files f;
  kept = kept_so s new who entry;
}
  where
    entry : (root : ℕ) (key : Key) → IsAsBefore s.state.disk new (names.Entry root key)
    entry root key = as_before s.state.disk new name file r (names.Entry root key) (by_kind is_entry name (names.Entry root key) plain refl)

-- ---- an entry

no_file : (d : Disk) (name : Name) → d.names name ≡ None → file_of d name ≡ None
no_file d name e = ap (bytes_in d.files) e

entry_replaced : (old new : Disk) (root : ℕ) (key : Key) (file : ℕ) → IsRemoved old new (names.Entry root key) file → IsReplaced old new root key None
entry_replaced old new root key file r = record {
  here = no_file new (names.Entry root key) r.here.gone;
  others = λ other k e. as_before old new (names.Entry root key) file r (names.Entry other k) e;
}

entry_leaves : (s : Summary) (new : Disk) (item : LogItem) (who : Who) (root : ℕ) (key : Key) (file : ℕ) → RenamesNone item → Known s → IsRemoved s.state.disk new (names.Entry root key) file → entry_goes s who root key ≡ true → Leaves s new item who
entry_leaves s new item who root key file no_rename k r may = record {
  whole = λ other x. elim (one_or_other (names.Entry root key) (names.Entry other x)) [
    | inl same ↦ subst WholeAt same whole_here
    | inr apart_ ↦ whole_so s new item k other x (before (names.Entry other x) apart_)
  ];
  left = λ other not_mine. elim (one_or_other (names.Entry root key) other) [
    | inl same ↦ absurd (clash (may_write s.state.disk who other) (ap (may_write s.state.disk who) (sym same)) not_mine)
    | inr apart_ ↦ left_so s.state.disk new other (before other apart_)
  ];
  renamed = λ other x. elim (one_or_other (names.Entry root key) (names.Entry other x)) [
    | inl same ↦ subst RenamedAt same renamed_here
    | inr apart_ ↦ renamed_so s.state.disk new item who other x (before (names.Entry other x) apart_)
  ];
  entries = λ other f had kind. r.here.files f;
  stay = λ other. elim (one_or_other (names.Entry root key) other) [
    | inl same ↦ subst (StaysSo s.state.disk new) same (λ kind. absurd (false≢true kind), λ kind. absurd (false≢true kind))
    | inr apart_ ↦ stays_so s.state.disk new other (before other apart_)
  ];
  unwritten = λ other f had kind. r.here.files f;
  kept = losing_kept s new who root key None (entry_replaced s.state.disk new root key file r) parts.1;
}
  where
    parts : (has_lock s.state.disk who (names.FolderLock root (folder_byte key)) ≡ true) × (loses_nothing s who root key None ≡ true)
    parts = and_parts (has_lock s.state.disk who (names.FolderLock root (folder_byte key))) _ may

    before : (other : Name) → same_name (names.Entry root key) other ≡ false → IsAsBefore s.state.disk new other
    before other e = as_before s.state.disk new (names.Entry root key) file r other e

    WholeAt : Name → Type 0
    WholeAt (names.Entry other x) = is_whole (s.puts ++ put_in item) other x (file_of new (names.Entry other x)) ≡ true
    WholeAt other = Unit {0}

    whole_here : is_whole (s.puts ++ put_in item) root key (file_of new (names.Entry root key)) ≡ true
    whole_here = ap (is_whole (s.puts ++ put_in item) root key) (no_file new (names.Entry root key) r.here.gone)

    RenamedAt : Name → Type 0
    RenamedAt (names.Entry other x) = IsRenamed s.state.disk new item who other x
    RenamedAt other = Unit {0}

    renamed_here : IsRenamed s.state.disk new item who root key
    renamed_here = record {
      held = λ other. absurd (clash _ parts.0 other);
      renamed = λ other f e. absurd (none_is_no_file f (sym r.here.gone ∙ e));
      stays = λ moved. absurd (clash _ moved (no_rename root key));
    }

leaves_entry : (s : Summary) (new : Disk) (item : LogItem) (who : Who) (root : ℕ) (key : Key) (file : ℕ) → IsRemoved s.state.disk new (names.Entry root key) file → Leaves s new item who → entry_goes s who root key ≡ true
leaves_entry s new item who root key file r l =
    and_both (has_lock s.state.disk who (names.FolderLock root (folder_byte key))) _
    (always _ (λ other. none_is_no_file file (sym r.here.gone ∙ (l.renamed root key).held other ∙ r.here.had)))
    (kept_losing s new who root key None (entry_replaced s.state.disk new root key file r) l.kept)

-- ---- each name

pub removing_leaves : (s : Summary) (new : Disk) (item : LogItem) (who : Who) (name : Name) (file : ℕ) → RenamesNone item → Known s → IsRemoved s.state.disk new name file → goes_well s who name ≡ true → Leaves s new item who
removing_leaves s new item who (names.Entry root key) file no_rename k r may = entry_leaves s new item who root key file no_rename k r may
removing_leaves s new item who name file no_rename k r may = plain_leaves s new item who name file k r refl may

pub leaves_removing : (s : Summary) (new : Disk) (item : LogItem) (who : Who) (name : Name) (file : ℕ) → IsRemoved s.state.disk new name file → Leaves s new item who → goes_well s who name ≡ true
leaves_removing s new item who (names.Entry root key) file r l = leaves_entry s new item who root key file r l
leaves_removing s new item who name file r l = leaves_leaving s new item who name file r.here l
