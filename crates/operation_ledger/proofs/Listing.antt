-- The files that names have, among those that they have had.
use Rattle.std.proofs.Common.{◌≡◌, inl, inr, ℕ, Bool, true, false, cond, ◌&&◌, nat_eq, List, [], ◌∷◌, ◌++◌, Option, Some, None, refl, sym, ap, ◌∙◌, filter, map, eq-eqb}
use Rattle.std.specs.List.{list_any}
use Rattle.std.proofs.lemmas.Bool.{false≢true, eqb-true}
use Rattle.cache_types.specs.declared.key.Key.{Key}
use Rattle.cache_types.specs.declared.name.Name.{Name}
use Rattle.cache_types.specs.declared.name.Name.TheVariants as names
use Rattle.cache_types.specs.declared.request.Request.{Request}
use Rattle.cache_types.specs.declared.request.Request.TheVariants as requests
use Rattle.cache_types.specs.declared.store.Layout.{Layout}
use Rattle.cache_types.specs.declared.store.Layout.TheVariants.{Folder, Database, Foz}
use Rattle.file_log.specs.Disk.{Disk}
use Rattle.file_log.specs.Effect.{applied}
use Rattle.file_log.specs.declared.item.LogItem.{LogItem}
use Rattle.seat_rules.specs.Kinds.{is_lock_of}
use Rattle.seat_rules.specs.Operations.{is_file}
use Rattle.log_summary.specs.Summary.{gained, is_lock_file}
use Rattle.log_summary.specs.Telling.{In}
use Rattle.log_summary.proofs.Files.{named_gained}
use Rattle.log_summary.proofs.Lists.{in_left, in_right, any_in, any_from, and_parts}
use Rattle.operation_ledger.specs.Entries.{entry_by, entry_of}
use Rattle.operation_ledger.specs.Had.{names_of_file}
use Rattle.operation_ledger.specs.Listed.{AreListed, WasEntry}

-- after an item more
pub listed_then : (had : List (Name × ℕ)) (d : Disk) (x : LogItem) → AreListed had d → AreListed (had ++ gained d x) (applied d x)
listed_then had d x listed name f e = elim (named_gained d x name f e) [
  | inl old ↦ in_left had (gained d x) (name, f) (listed name f old)
  | inr new ↦ in_right had (gained d x) (name, f) new
]

was_entry_by : (had : List (Name × ℕ)) (d : Disk) (layout : Layout) (root : ℕ) (key : Key) → AreListed had d → WasEntry had (entry_by layout d root key)
was_entry_by had d Database root key listed = tt
was_entry_by had d Foz root key listed = tt
was_entry_by had d Folder root key listed = by_file (d.names (names.Entry root key)) refl
  where
    by_file : (o : Option ℕ) → d.names (names.Entry root key) ≡ o → WasEntry had o
    by_file None e = tt
    by_file (Some f) e = (names.Entry root key, refl, listed (names.Entry root key) f e)

-- the file that an entry has
pub was_entry_of : (had : List (Name × ℕ)) (d : Disk) (request : Request) → AreListed had d → WasEntry had (entry_of d request)
was_entry_of had d (requests.Get store driver key ro) listed = was_entry_by had d store.layout store.root key listed
was_entry_of had d (requests.Put store driver key meta blob limit) listed = was_entry_by had d store.layout store.root key listed
was_entry_of had d request listed = tt

pub was_entry_still : (had more : List (Name × ℕ)) (o : Option ℕ) → WasEntry had o → WasEntry (had ++ more) o
was_entry_still had more None was = tt
was_entry_still had more (Some f) was = (was.0, was.1, in_left had more (was.0, f) was.2)

-- ---- locks

-- the names of a file
names_from : (file : ℕ) (had : List (Name × ℕ)) (name : Name) → In had (name, file) → In (names_of_file file had) name
names_from file [] name i = absurd i
names_from file (p ∷ had) name (inl e) = rw (eq-eqb p.1 file (ap (λ (q : Name × ℕ). q.1) e)) (inl (ap (λ (q : Name × ℕ). q.0) e))
names_from file (p ∷ had) name (inr i) = by_test (nat_eq p.1 file) (names_from file had name i)
  where
    by_test : (b : Bool) → In (names_of_file file had) name → In (map (λ (q : Name × ℕ). q.0) (cond b (p ∷ filter (λ (q : Name × ℕ). nat_eq q.1 file) had) (filter (λ (q : Name × ℕ). nat_eq q.1 file) had))) name
    by_test true j = inr j
    by_test false j = j

pair_of : (p : Name × ℕ) (name : Name) (file : ℕ) → nat_eq p.1 file ≡ true → p.0 ≡ name → ◌≡◌ {A = Name × ℕ} p (name, file)
pair_of p name file e h = let f : p.1 ≡ file = eqb-true _ _ e in ap (λ (x : Name). (x, p.1)) h ∙ ap (λ (y : ℕ). (name, y)) f

names_to : (file : ℕ) (had : List (Name × ℕ)) (name : Name) → In (names_of_file file had) name → In had (name, file)
names_to file [] name i = absurd i
names_to file (p ∷ had) name i = by_test (nat_eq p.1 file) refl i (names_to file had name)
  where
    by_test : (b : Bool) → nat_eq p.1 file ≡ b → In (map (λ (q : Name × ℕ). q.0) (cond b (p ∷ filter (λ (q : Name × ℕ). nat_eq q.1 file) had) (filter (λ (q : Name × ℕ). nat_eq q.1 file) had))) name
        → (In (names_of_file file had) name → In had (name, file)) → In (p ∷ had) (name, file)
    by_test true e (inl h) more = inl (pair_of p name file e h)
    by_test true e (inr j) more = inr (more j)
    by_test false e j more = inr (more j)

both_ways : (a b : Bool) → (a ≡ true → b ≡ true) → (b ≡ true → a ≡ true) → a ≡ b
both_ways true b h k = sym (h refl)
both_ways false true h k = k refl
both_ways false false h k = refl

file_is : (file : ℕ) (o : Option ℕ) → is_file file o ≡ true → o ≡ Some file
file_is file None e = absurd (false≢true e)
file_is file (Some other) e = let f : other ≡ file = eqb-true _ _ e in ap (λ (n : ℕ). Some n) f

-- a lock that has the file is among the names that had it
pub lock_file_same : (had : List (Name × ℕ)) (d : Disk) (root file : ℕ) → AreListed had d → list_any (λ name. is_lock_of root name && is_file file (d.names name)) (names_of_file file had) ≡ is_lock_file had d root file
lock_file_same had d root file listed = both_ways _ _ from to
  where
    from : list_any (λ name. is_lock_of root name && is_file file (d.names name)) (names_of_file file had) ≡ true → is_lock_file had d root file ≡ true
    from e =
        let one = any_in (λ name. is_lock_of root name && is_file file (d.names name)) (names_of_file file had) e in
        any_from (λ (p : Name × ℕ). is_lock_of root p.0 && is_file file (d.names p.0)) had (one.0, file) (names_to file had one.0 one.1) one.2

    to : is_lock_file had d root file ≡ true → list_any (λ name. is_lock_of root name && is_file file (d.names name)) (names_of_file file had) ≡ true
    to e =
        let one = any_in (λ (p : Name × ℕ). is_lock_of root p.0 && is_file file (d.names p.0)) had e in
        let has = file_is file (d.names one.0.0) (and_parts (is_lock_of root one.0.0) (is_file file (d.names one.0.0)) one.2).1 in
        any_from (λ name. is_lock_of root name && is_file file (d.names name)) (names_of_file file had) one.0.0 (names_from file had one.0.0 (listed one.0.0 file has)) one.2
