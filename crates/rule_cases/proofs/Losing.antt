-- Where one entry's file changes and no other's, what is held is kept just where nothing of that entry is lost.
use Rattle.std.proofs.Common.{◌≡◌, inl, inr, ℕ, Bool, true, false, ◌&&◌, ◌||◌, is_some, List, Option, refl, sym, ap, ◌∙◌}
use Rattle.std.specs.List.{list_all, list_any}
use Rattle.cache_types.specs.Names.{same_name}
use Rattle.cache_types.specs.declared.key.Key.{Key}
use Rattle.cache_types.specs.declared.name.Name.TheVariants as names
use Rattle.cache_types.specs.declared.seat.Who.{Who}
use Rattle.cache_types.specs.declared.store.Layout.{Layout}
use Rattle.cache_types.specs.declared.store.Layout.TheVariants.{Folder}
use Rattle.cache_types.specs.declared.store.Store.{Store}
use Rattle.file_log.specs.Disk.{Disk, file_of}
use Rattle.seat_rules.specs.Address.{Address}
use Rattle.folder_rules.specs.Whole.{folder_of}
use Rattle.folder_rules.proofs.Entries.{entry_of}
use Rattle.folder_changes.proofs.Changing.{one_or_other}
use Rattle.log_summary.specs.Summary.{BegunPut, Summary, read_for}
use Rattle.log_summary.proofs.Lists.{or_cases, or_left, or_right, and_parts, and_both, all_in, all_out}
use Rattle.rule_checks.specs.Tests.{implies, same_store, same_key, is_held, evicts, kept_at, kept}
use Rattle.rule_checks.proofs.Deciding.{same_store_decides, same_key_decides}
use Rattle.rule_cases.specs.Cases.{is_put_at, loses_nothing}
use Rattle.rule_cases.proofs.Fields.{IsAsBefore, implies_in, implies_out, clash, file_so, held_so, kept_at_so}

-- ---- an address of the entry, or of another

-- what the folder store holds there is what the entry's file reads as
held_there : (d : Disk) (at : Address) (root : ℕ) (key : Key) → at.store ≡ folder_of root → at.key ≡ key → is_held d at ≡ is_some (read_for at.driver (file_of d (names.Entry root key)))
held_there d at root key store k =
    ap (λ (st : Store). is_held d (record { store = st; driver = at.driver; key = at.key })) store
    ∙ ap (λ (x : Key). is_some (read_for at.driver (file_of d (names.Entry root x)))) k

root_is : (root r : ℕ) (key k : Key) → names.Entry root key ≡ names.Entry r k → r ≡ root
root_is root r key k e = cc

key_is : (root r : ℕ) (key k : Key) → names.Entry root key ≡ names.Entry r k → k ≡ key
key_is root r key k e = cc

store_is : (st : Store) (root : ℕ) → st.layout ≡ Folder → st.root ≡ root → st ≡ folder_of root
store_is st root layout r = ap (λ (l : Layout). record { root = st.root; layout = l }) layout ∙ ap (λ (x : ℕ). record { root = x; layout = Folder }) r

put_here : (root : ℕ) (key : Key) (p : BegunPut) → p.at.store ≡ folder_of root → p.at.key ≡ key → is_put_at root key p ≡ true
put_here root key p store k = and_both (same_store p.at.store (folder_of root)) _ ((same_store_decides p.at.store (folder_of root)).1 store) ((same_key_decides p.at.key key).1 k)

-- a put elsewhere in a folder store is at another entry
another : (root : ℕ) (key : Key) (p : BegunPut) → is_put_at root key p ≡ false → p.at.store.layout ≡ Folder → same_name (names.Entry root key) (entry_of p.at) ≡ false
another root key p elsewhere layout = elim (one_or_other (names.Entry root key) (entry_of p.at)) [
  | inl same ↦ absurd (clash (is_put_at root key p) (put_here root key p (store_is p.at.store root layout (root_is root p.at.store.root key p.at.key same)) (key_is root p.at.store.root key p.at.key same)) elsewhere)
  | inr other ↦ other
]

-- ---- one put

-- the disk after has this file, or none, in the entry's place, and all other entries as before
pub record IsReplaced (old new : Disk) (root : ℕ) (key : Key) (file : Option (List ℕ)) : Type 0 where
  pub here : file_of new (names.Entry root key) ≡ file
  pub others : (r : ℕ) (k : Key) → same_name (names.Entry root key) (names.Entry r k) ≡ false → IsAsBefore old new (names.Entry r k)

-- what the entry holds of the put is held by the file, or is being evicted
abbrev keeps_put : Summary → Who → ℕ → Key → Option (List ℕ) → BegunPut → Bool
keeps_put s who root key file p = implies (is_put_at root key p && is_some (read_for p.at.driver (file_of s.state.disk (names.Entry root key)))) (is_some (read_for p.at.driver file) || list_any (evicts who p.at) s.evicting)

abbrev Replaced : Summary → Disk → ℕ → Key → Option (List ℕ) → Type 0
Replaced s new root key file = IsReplaced s.state.disk new root key file

record AtPut (s : Summary) (new : Disk) (root : ℕ) (key : Key) (file : Option (List ℕ)) (p : BegunPut) : Type 0 where
  before : is_held s.state.disk p.at ≡ is_some (read_for p.at.driver (file_of s.state.disk (names.Entry root key)))
  after : is_held new p.at ≡ is_some (read_for p.at.driver file)

at_put : (s : Summary) (new : Disk) (root : ℕ) (key : Key) (file : Option (List ℕ)) (p : BegunPut) → Replaced s new root key file → is_put_at root key p ≡ true → AtPut s new root key file p
at_put s new root key file p r e =
    let parts = and_parts (same_store p.at.store (folder_of root)) (same_key p.at.key key) e in
    let store = (same_store_decides p.at.store (folder_of root)).0 parts.0 in
    let k = (same_key_decides p.at.key key).0 parts.1 in
    record {
      before = held_there s.state.disk p.at root key store k;
      after = held_there new p.at root key store k ∙ ap (λ (o : Option (List ℕ)). is_some (read_for p.at.driver o)) r.here;
    }

put_kept : (s : Summary) (new : Disk) (who : Who) (root : ℕ) (key : Key) (file : Option (List ℕ)) (p : BegunPut) → Replaced s new root key file → keeps_put s who root key file p ≡ true → kept_at s.evicting who s.state.disk new p ≡ true
put_kept s new who root key file p r e = by_place (is_put_at root key p) refl
  where
    by_place : (b : Bool) → is_put_at root key p ≡ b → kept_at s.evicting who s.state.disk new p ≡ true
    by_place true here =
        let a = at_put s new root key file p r here in
        implies_out (is_held s.state.disk p.at) _ (λ held.
        elim (or_cases (is_some (read_for p.at.driver file)) _ (implies_in (is_put_at root key p && is_some (read_for p.at.driver (file_of s.state.disk (names.Entry root key)))) _ e (and_both (is_put_at root key p) _ here (sym a.before ∙ held)))) [
          | inl still ↦ or_left (is_held new p.at) _ (a.after ∙ still)
          | inr evicted ↦ or_right (is_held new p.at) _ evicted
        ])
    by_place false elsewhere = kept_at_so s.evicting who s.state.disk new p (held_so s.state.disk new p.at (λ folder. file_so s.state.disk new (entry_of p.at) (r.others p.at.store.root p.at.key (another root key p elsewhere folder))))

kept_put : (s : Summary) (new : Disk) (who : Who) (root : ℕ) (key : Key) (file : Option (List ℕ)) (p : BegunPut) → Replaced s new root key file → kept_at s.evicting who s.state.disk new p ≡ true → keeps_put s who root key file p ≡ true
kept_put s new who root key file p r e = implies_out (is_put_at root key p && is_some (read_for p.at.driver (file_of s.state.disk (names.Entry root key)))) _ (λ both.
    let parts = and_parts (is_put_at root key p) _ both in
    let a = at_put s new root key file p r parts.0 in
    elim (or_cases (is_held new p.at) _ (implies_in (is_held s.state.disk p.at) _ e (a.before ∙ parts.1))) [
      | inl still ↦ or_left (is_some (read_for p.at.driver file)) _ (sym a.after ∙ still)
      | inr evicted ↦ or_right (is_some (read_for p.at.driver file)) _ evicted
    ])

-- ---- all puts

unless_all : (rough : Bool) (a b : BegunPut → Bool) (puts : List BegunPut) → ((p : BegunPut) → a p ≡ true → b p ≡ true) → (rough || list_all a puts) ≡ true → (rough || list_all b puts) ≡ true
unless_all true a b puts each e = refl
unless_all false a b puts each e = all_out b puts (λ p i. each p (all_in a puts p e i))

pub losing_kept : (s : Summary) (new : Disk) (who : Who) (root : ℕ) (key : Key) (file : Option (List ℕ)) → Replaced s new root key file → loses_nothing s who root key file ≡ true → kept s.rough s.puts s.evicting who s.state.disk new ≡ true
losing_kept s new who root key file r e = unless_all s.rough (keeps_put s who root key file) (kept_at s.evicting who s.state.disk new) s.puts (λ p. put_kept s new who root key file p r) e

pub kept_losing : (s : Summary) (new : Disk) (who : Who) (root : ℕ) (key : Key) (file : Option (List ℕ)) → Replaced s new root key file → kept s.rough s.puts s.evicting who s.state.disk new ≡ true → loses_nothing s who root key file ≡ true
kept_losing s new who root key file r e = unless_all s.rough (kept_at s.evicting who s.state.disk new) (keeps_put s who root key file) s.puts (λ p. kept_put s new who root key file p r) e
