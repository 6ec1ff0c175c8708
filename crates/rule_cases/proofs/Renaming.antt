-- An item that renames a name passes the tests just where the file of the one may go to the other; an entry's comes from its temporary name.
use Rattle.std.proofs.Common.{◌≡◌, inl, inr, ℕ, Bool, true, false, not, ◌&&◌, List, [], ◌++◌, Some, refl, sym, ap, ◌∙◌, subst, append-nil}
use Rattle.std.specs.List.{list_any}
use Rattle.std.proofs.lemmas.Bool.{not-true, false≢true}
use Rattle.cache_types.specs.Names.{same_name}
use Rattle.cache_types.specs.declared.key.Key.{Key}
use Rattle.cache_types.specs.declared.name.Name.{Name}
use Rattle.cache_types.specs.declared.name.Name.TheVariants as names
use Rattle.cache_types.specs.declared.seat.Who.{Who}
use Rattle.file_log.specs.Disk.{Disk, file_of, bytes_in}
use Rattle.file_log.specs.declared.call.Call.TheVariants.{Rename}
use Rattle.file_log.specs.declared.item.LogItem.{LogItem}
use Rattle.file_log.specs.declared.item.LogItem.TheVariants.{Did}
use Rattle.file_log.specs.declared.reply.Reply.TheVariants.{Done}
use Rattle.seat_rules.specs.Changes.{has_lock, may_write, is_rename}
use Rattle.seat_rules.specs.Kinds.{folder_byte, is_entry}
use Rattle.seat_rules.specs.Rules.{IsLeft}
use Rattle.folder_changes.proofs.Changing.{same_self, one_or_other, none_is_no_file}
use Rattle.log_summary.specs.Summary.{BegunPut, Summary, put_in}
use Rattle.log_summary.proofs.Lists.{and_parts, and_both}
use Rattle.rule_checks.specs.Tests.{is_item_of, is_whole}
use Rattle.rule_checks.proofs.Deciding.{IsRenamed, StaysSo}
use Rattle.rule_cases.specs.Cases.{may_leave, loses_nothing, entry_comes, comes_well}
use Rattle.rule_cases.proofs.Fields.{Known, Leaves, IsAsBefore, never, always, clash, left_so, renamed_so, stays_so, whole_so, whole_more}
use Rattle.rule_cases.proofs.Making.{by_kind}
use Rattle.rule_cases.proofs.Leaving.{gone_left, gone_stays, leaves_leaving}
use Rattle.rule_cases.proofs.Losing.{IsReplaced, losing_kept, kept_losing}
use Rattle.rule_cases.proofs.Moving.{IsMoved, moved_before, had_another, plain_leaves, leaves_plain}

abbrev pub renaming : Who → Name → Name → LogItem
renaming who from to = Did who (Rename from to) Done

-- ---- an entry

-- what an entry's coming says, in its parts
record Comes (s : Summary) (who : Who) (root : ℕ) (key : Key) (from : Name) (file : ℕ) : Type 0 where
  temporary : same_name from (names.Temp root key) ≡ true
  held : has_lock s.state.disk who (names.FolderLock root (folder_byte key)) ≡ true
  whole : list_any (is_item_of root key (s.state.disk.files file)) s.puts ≡ true
  lost : loses_nothing s who root key (Some (s.state.disk.files file)) ≡ true

come_parts : (s : Summary) (who : Who) (root : ℕ) (key : Key) (from : Name) (file : ℕ) → entry_comes s who root key from file ≡ true → Comes s who root key from file
come_parts s who root key from file e =
    let a = same_name from (names.Temp root key) in
    let b = has_lock s.state.disk who (names.FolderLock root (folder_byte key)) in
    let c = list_any (is_item_of root key (s.state.disk.files file)) s.puts in
    let three = and_parts (a && b && c) _ e in
    let two = and_parts (a && b) c three.0 in
    let one = and_parts a b two.0 in
    record { temporary = one.0; held = one.1; whole = two.1; lost = three.1 }

come_whole : (s : Summary) (who : Who) (root : ℕ) (key : Key) (from : Name) (file : ℕ) → Comes s who root key from file → entry_comes s who root key from file ≡ true
come_whole s who root key from file c =
    and_both (same_name from (names.Temp root key) && has_lock s.state.disk who (names.FolderLock root (folder_byte key)) && list_any (is_item_of root key (s.state.disk.files file)) s.puts) _
    (and_both (same_name from (names.Temp root key) && has_lock s.state.disk who (names.FolderLock root (folder_byte key))) _ (and_both (same_name from (names.Temp root key)) _ c.temporary c.held) c.whole)
    c.lost

file_now : (old new : Disk) (from to : Name) (file : ℕ) → IsMoved old new from to file → file_of new to ≡ Some (old.files file)
file_now old new from to file m = ap (bytes_in new.files) m.there ∙ ap (λ (b : List ℕ). Some b) (m.here.files file)

entry_replaced : (old new : Disk) (from : Name) (root : ℕ) (key : Key) (file : ℕ) → IsMoved old new from (names.Entry root key) file → is_entry from ≡ false → IsReplaced old new root key (Some (old.files file))
entry_replaced old new from root key file m plain = record {
  here = file_now old new from (names.Entry root key) file m;
  others = λ r k e. moved_before old new from (names.Entry root key) file m (names.Entry r k) (by_kind is_entry from (names.Entry r k) plain refl) e;
}

entry_leaves : (s : Summary) (new : Disk) (who : Who) (from : Name) (root : ℕ) (key : Key) (file : ℕ) → Known s → IsMoved s.state.disk new from (names.Entry root key) file → is_entry from ≡ false → may_leave s.state.disk who from ≡ true → Comes s who root key from file
    → Leaves s new (renaming who from (names.Entry root key)) who
entry_leaves s new who from root key file k m plain leave come = record {
  whole = λ r x. elim (one_or_other (names.Entry root key) (names.Entry r x)) [
    | inl same ↦ subst WholeAt same whole_here
    | inr other ↦ whole_so s new item k r x (replaced.others r x other)
  ];
  left = λ name other. elim (one_or_other (names.Entry root key) name) [
    | inl same ↦ absurd (clash (may_write s.state.disk who name) (ap (may_write s.state.disk who) (sym same)) other)
    | inr not_to ↦ elim (one_or_other from name) [
      | inl same ↦ subst (IsLeft s.state.disk new) same (gone_left s.state.disk new who from file m.here leave (ap (may_write s.state.disk who) same ∙ other))
      | inr not_from ↦ left_so s.state.disk new name (before name not_from not_to)
    ]
  ];
  renamed = λ r x. elim (one_or_other (names.Entry root key) (names.Entry r x)) [
    | inl same ↦ subst RenamedAt same renamed_here
    | inr other ↦ renamed_so s.state.disk new item who r x (replaced.others r x other)
  ];
  entries = λ name f had kind. m.here.files f;
  stay = λ name. elim (one_or_other (names.Entry root key) name) [
    | inl same ↦ subst (StaysSo s.state.disk new) same (λ kind. absurd (false≢true kind), λ kind. absurd (false≢true kind))
    | inr not_to ↦ elim (one_or_other from name) [
      | inl same ↦ subst (StaysSo s.state.disk new) same (gone_stays s.state.disk new who from leave)
      | inr not_from ↦ stays_so s.state.disk new name (before name not_from not_to)
    ]
  ];
  unwritten = λ name f had kind. m.here.files f;
  kept = losing_kept s new who root key (Some (s.state.disk.files file)) replaced come.lost;
}
  where
    item : LogItem
    item = renaming who from (names.Entry root key)

    before : (name : Name) → same_name from name ≡ false → same_name (names.Entry root key) name ≡ false → IsAsBefore s.state.disk new name
    before name e f = moved_before s.state.disk new from (names.Entry root key) file m name e f

    replaced : IsReplaced s.state.disk new root key (Some (s.state.disk.files file))
    replaced = entry_replaced s.state.disk new from root key file m plain

    WholeAt : Name → Type 0
    WholeAt (names.Entry r x) = is_whole (s.puts ++ put_in item) r x (file_of new (names.Entry r x)) ≡ true
    WholeAt name = Unit {0}

    whole_here : is_whole (s.puts ++ put_in item) root key (file_of new (names.Entry root key)) ≡ true
    whole_here = whole_more s.puts (put_in item) root key (file_of new (names.Entry root key)) (ap (is_whole s.puts root key) replaced.here ∙ come.whole)

    RenamedAt : Name → Type 0
    RenamedAt (names.Entry r x) = IsRenamed s.state.disk new item who r x
    RenamedAt name = Unit {0}

    renamed_here : IsRenamed s.state.disk new item who root key
    renamed_here = record {
      held = λ other. absurd (clash _ come.held other);
      renamed = λ other. absurd (clash (is_rename (names.Temp root key) (names.Entry root key) item) (and_both (same_name from (names.Temp root key)) _ come.temporary (same_self (names.Entry root key))) other);
      stays = λ moved. absurd (clash _ moved m.apart);
    }

leaves_entry : (s : Summary) (new : Disk) (who : Who) (from : Name) (root : ℕ) (key : Key) (file : ℕ) → Known s → IsMoved s.state.disk new from (names.Entry root key) file → is_entry from ≡ false → Leaves s new (renaming who from (names.Entry root key)) who → Comes s who root key from file
leaves_entry s new who from root key file k m plain l = record {
  temporary = (and_parts (same_name from (names.Temp root key)) _ (always (is_rename (names.Temp root key) (names.Entry root key) item) (λ other. another ((l.renamed root key).renamed other file m.there)))).0;
  held = always _ (λ other. another (sym ((l.renamed root key).held other) ∙ m.there));
  whole = subst (λ (puts : List BegunPut). list_any (is_item_of root key (s.state.disk.files file)) puts ≡ true) (append-nil s.puts) (ap (is_whole (s.puts ++ []) root key) (sym replaced.here) ∙ l.whole root key);
  lost = kept_losing s new who root key (Some (s.state.disk.files file)) replaced l.kept;
}
  where
    item : LogItem
    item = renaming who from (names.Entry root key)

    another : s.state.disk.names (names.Entry root key) ≡ Some file → ⊥
    another e = had_another s new from (names.Entry root key) file k m e

    replaced : IsReplaced s.state.disk new root key (Some (s.state.disk.files file))
    replaced = entry_replaced s.state.disk new from root key file m plain

-- ---- each name

-- an entry is never renamed
renames_no_entry : (s : Summary) (new : Disk) (who : Who) (from to : Name) (file : ℕ) → IsMoved s.state.disk new from to file → Leaves s new (renaming who from to) who → is_entry from ≡ true → ⊥
renames_no_entry s new who (names.Entry root key) to file m l kind = none_is_no_file file (sym m.here.gone ∙ (l.renamed root key).stays (same_self (names.Entry root key)) ∙ m.here.had)
renames_no_entry s new who from to file m l kind = false≢true kind

coming_leaves : (s : Summary) (new : Disk) (who : Who) (from to : Name) (file : ℕ) → Known s → IsMoved s.state.disk new from to file → is_entry from ≡ false → may_leave s.state.disk who from ≡ true → comes_well s who from file to ≡ true → Leaves s new (renaming who from to) who
coming_leaves s new who from (names.Entry root key) file k m plain leave come = entry_leaves s new who from root key file k m plain leave (come_parts s who root key from file come)
coming_leaves s new who from to file k m plain leave come = plain_leaves s new (renaming who from to) who from to file k m plain refl leave come

leaves_coming : (s : Summary) (new : Disk) (who : Who) (from to : Name) (file : ℕ) → Known s → IsMoved s.state.disk new from to file → is_entry from ≡ false → Leaves s new (renaming who from to) who → comes_well s who from file to ≡ true
leaves_coming s new who from (names.Entry root key) file k m plain l = come_whole s who root key from file (leaves_entry s new who from root key file k m plain l)
leaves_coming s new who from to file k m plain l = leaves_plain s new (renaming who from to) who from to file k m l

-- the name may be renamed so
abbrev pub moves_well : Summary → Who → Name → ℕ → Name → Bool
moves_well s who from file to = not (is_entry from) && may_leave s.state.disk who from && comes_well s who from file to

pub renaming_leaves : (s : Summary) (new : Disk) (who : Who) (from to : Name) (file : ℕ) → Known s → IsMoved s.state.disk new from to file → moves_well s who from file to ≡ true → Leaves s new (renaming who from to) who
renaming_leaves s new who from to file k m e =
    let parts = and_parts (not (is_entry from) && may_leave s.state.disk who from) _ e in
    let two = and_parts (not (is_entry from)) _ parts.0 in
    coming_leaves s new who from to file k m (not-true (is_entry from) two.0) two.1 parts.1

pub leaves_renaming : (s : Summary) (new : Disk) (who : Who) (from to : Name) (file : ℕ) → Known s → IsMoved s.state.disk new from to file → Leaves s new (renaming who from to) who → moves_well s who from file to ≡ true
leaves_renaming s new who from to file k m l =
    let plain = never (is_entry from) (renames_no_entry s new who from to file m l) in
    and_both (not (is_entry from) && may_leave s.state.disk who from) _
    (and_both (not (is_entry from)) _ plain (leaves_leaving s new (renaming who from to) who from file m.here l))
    (leaves_coming s new who from to file k m (not-true (is_entry from) plain) l)
