-- An item by which the bytes of a file change passes the tests just where the seat may change them.
use Rattle.std.proofs.Common.{◌≡◌, ℕ, true, not, ◌&&◌, nat_eq, Option, Some, None, sym, ap, ◌∙◌, subst}
use Rattle.std.proofs.lemmas.Bool.{not-true, false≢true}
use Rattle.std.proofs.lemmas.Bool.Decides.{Decides-eqb}
use Rattle.cache_types.specs.declared.key.Key.{Key}
use Rattle.cache_types.specs.declared.name.Name.{Name}
use Rattle.cache_types.specs.declared.name.Name.TheVariants as names
use Rattle.cache_types.specs.declared.seat.Who.{Who}
use Rattle.file_log.specs.Disk.{Disk}
use Rattle.file_log.specs.declared.item.LogItem.{LogItem}
use Rattle.seat_rules.specs.Changes.{may_write}
use Rattle.seat_rules.specs.Kinds.{is_entry, is_unwritten}
use Rattle.seat_rules.specs.Operations.{is_file}
use Rattle.log_summary.specs.Summary.{Summary}
use Rattle.log_summary.specs.Telling.{In}
use Rattle.log_summary.proofs.Lists.{and_parts, and_both, all_in, all_out}
use Rattle.rule_checks.specs.Tests.{implies}
use Rattle.rule_cases.specs.Cases.{may_change_of, may_change}
use Rattle.rule_cases.proofs.Fields.{Known, Leaves, IsAsBefore, implies_in, implies_out, never, always, clash, left_so, renamed_so, whole_so, kept_so}

-- one file's bytes differ, and no name's file does
pub record IsWritten (old new : Disk) (file : ℕ) : Type 0 where
  pub names : (name : Name) → new.names name ≡ old.names name
  pub others : (f : ℕ) → (file ≡ f → ⊥) → new.files f ≡ old.files f
  pub differ : new.files file ≡ old.files file → ⊥

is_it : (file f : ℕ) (o : Option ℕ) → o ≡ Some f → file ≡ f → is_file file o ≡ true
is_it file f o e same = ap (is_file file) e ∙ (Decides-eqb f file).1 (sym same)

it_is : (file : ℕ) (o : Option ℕ) → is_file file o ≡ true → o ≡ Some file
it_is file None e = absurd (false≢true e)
it_is file (Some f) e = ap (λ (n : ℕ). Some n) ((Decides-eqb f file).0 e)

pub writing_leaves : (s : Summary) (new : Disk) (item : LogItem) (who : Who) (file : ℕ) → Known s → IsWritten s.state.disk new file → may_change s who file ≡ true → Leaves s new item who
writing_leaves s new item who file k w may = record {
  whole = λ root key. whole_so s new item k root key (entry root key);
  left = λ name other. left_so s.state.disk new name (record { named = w.names name; bytes = λ f e. w.others f (λ same. clash _ (implies_in _ _ (parts name f (k.listed name f e) same).1 (is_it file f (s.state.disk.names name) e same)) other) });
  renamed = λ root key. renamed_so s.state.disk new item who root key (entry root key);
  entries = λ name f had kind. w.others f (λ same. clash (is_entry name) kind (not-true (is_entry name) (kinds name f had same).0));
  stay = λ name. (λ kind f e. w.names name ∙ e, λ kind. w.names name);
  unwritten = λ name f had kind. w.others f (λ same. clash (is_unwritten name) kind (not-true (is_unwritten name) (kinds name f had same).1));
  kept = kept_so s new who entry;
}
  where
    each : (name : Name) (f : ℕ) → In s.had (name, f) → file ≡ f → may_change_of s.state.disk who file name ≡ true
    each name f had same = implies_in (nat_eq f file) _ (all_in (λ (p : Name × ℕ). implies (nat_eq p.1 file) (may_change_of s.state.disk who file p.0)) s.had (name, f) may had) ((Decides-eqb f file).1 (sym same))

    parts : (name : Name) (f : ℕ) → In s.had (name, f) → file ≡ f → ((not (is_entry name) && not (is_unwritten name)) ≡ true) × (implies (is_file file (s.state.disk.names name)) (may_write s.state.disk who name) ≡ true)
    parts name f had same = and_parts (not (is_entry name) && not (is_unwritten name)) _ (each name f had same)

    kinds : (name : Name) (f : ℕ) → In s.had (name, f) → file ≡ f → (not (is_entry name) ≡ true) × (not (is_unwritten name) ≡ true)
    kinds name f had same = and_parts (not (is_entry name)) _ (parts name f had same).0

    entry : (root : ℕ) (key : Key) → IsAsBefore s.state.disk new (names.Entry root key)
    entry root key = record { named = w.names (names.Entry root key); bytes = λ f e. w.others f (λ same. false≢true (kinds (names.Entry root key) f (k.listed (names.Entry root key) f e) same).0) }

pub leaves_writing : (s : Summary) (new : Disk) (item : LogItem) (who : Who) (file : ℕ) → IsWritten s.state.disk new file → Leaves s new item who → may_change s who file ≡ true
leaves_writing s new item who file w l = all_out (λ (p : Name × ℕ). implies (nat_eq p.1 file) (may_change_of s.state.disk who file p.0)) s.had (λ p i.
    implies_out (nat_eq p.1 file) _ (λ same. each p.0 p.1 i ((Decides-eqb p.1 file).0 same)))
  where
    each : (name : Name) (f : ℕ) → In s.had (name, f) → f ≡ file → may_change_of s.state.disk who file name ≡ true
    each name f had same =
        and_both (not (is_entry name) && not (is_unwritten name)) _
        (and_both (not (is_entry name)) _
        (never (is_entry name) (λ kind. w.differ (subst (λ (g : ℕ). new.files g ≡ s.state.disk.files g) same (l.entries name f had kind))))
        (never (is_unwritten name) (λ kind. w.differ (subst (λ (g : ℕ). new.files g ≡ s.state.disk.files g) same (l.unwritten name f had kind)))))
        (implies_out (is_file file (s.state.disk.names name)) _ (λ here. always _ (λ other. w.differ ((l.left name other).bytes file (it_is file (s.state.disk.names name) here)))))
