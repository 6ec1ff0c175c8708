-- What numbers names have after one of them changed.
use Rattle.std.proofs.Common.{◌≡◌, ◌∙◌, ℕ, nat_eq, ◌&&◌, Bool, true, false, cond, Option, Some, None, List, ◌∷◌, [], sym, ap, refl}
use Rattle.std.specs.Prelude.{OnOk, OnErr, Ok, Err}
use Rattle.std.specs.HashMap.{get}
use Rattle.std.specs.Option.{option_or}
use Rattle.std.specs.declared.result.Result.{Result}
use Rattle.cache_types.specs.declared.key.Key.{Key}
use Rattle.cache_types.specs.declared.name.Name.{Name}
use Rattle.cache_types.specs.declared.name.Name.TheVariants as names
use Rattle.cache_types.specs.Names.{name_code, same_name}
use Rattle.cache_types.proofs.Names.{same_name_decides}
use Rattle.world_tables.specs.declared.names.FolderPlace.{FolderPlace}
use Rattle.world_tables.specs.declared.names.KeyPlace.{KeyPlace}
use Rattle.world_tables.specs.declared.names.Names.{Names}
use Rattle.world_tables.specs.declared.parts.NamedFile.{NamedFile}
use Rattle.world_tables.specs.Find.{number_of, number_in, same_folder, same_place}

abbrev pub place_of : ℕ → Key → KeyPlace
place_of root key = record { root = root; key = key }

abbrev pub folder_of : ℕ → ℕ → FolderPlace
folder_of root byte = record { root = root; byte = byte }

-- an entry's number stands at its key
pub entry_number : (t : Names) (root : ℕ) (key : Key) → number_in t (names.Entry root key) ≡ get same_place t.entries (place_of root key)
unfolding number_in
entry_number t root key = refl

-- the name of no file that is looked up by its place
abbrev pub IsOther : Name → Type 0
IsOther (names.Entry root key) = ⊥
IsOther (names.Temp root key) = ⊥
IsOther (names.FolderLock root byte) = ⊥
IsOther name = Unit {0}

both_true : (a b : Bool) → (a && (b && true)) ≡ (a && b)
both_true true true = refl
both_true true false = refl
both_true false b = refl

-- a name that is an entry's
pub entry_changed : (t t' : Names) (root : ℕ) (key : Key) (w : Option ℕ) → ((p : KeyPlace) → get same_place t'.entries p ≡ cond (same_place (place_of root key) p) w (get same_place t.entries p))
    → t'.temps ≡ t.temps → t'.locks ≡ t.locks → t'.others ≡ t.others → (n : Name) → number_in t' n ≡ cond (same_name (names.Entry root key) n) w (number_in t n)
unfolding name_code number_in
entry_changed t t' root key w h a b c (names.Entry r k) = h (place_of r k)
entry_changed t t' root key w h a b c (names.Temp r k) = rw a refl
entry_changed t t' root key w h a b c (names.FolderLock r d) = rw b refl
entry_changed t t' root key w h a b c (names.KeyIndex r) = rw c refl
entry_changed t t' root key w h a b c (names.Db r) = rw c refl
entry_changed t t' root key w h a b c (names.Idx r) = rw c refl
entry_changed t t' root key w h a b c (names.Foz r) = rw c refl
entry_changed t t' root key w h a b c (names.FozIdx r) = rw c refl
entry_changed t t' root key w h a b c (names.Ro r x) = rw c refl
entry_changed t t' root key w h a b c (names.RoIdx r x) = rw c refl
entry_changed t t' root key w h a b c names.List = rw c refl

-- a name that is a temporary file's
pub temp_changed : (t t' : Names) (root : ℕ) (key : Key) (w : Option ℕ) → ((p : KeyPlace) → get same_place t'.temps p ≡ cond (same_place (place_of root key) p) w (get same_place t.temps p))
    → t'.entries ≡ t.entries → t'.locks ≡ t.locks → t'.others ≡ t.others → (n : Name) → number_in t' n ≡ cond (same_name (names.Temp root key) n) w (number_in t n)
unfolding name_code number_in
temp_changed t t' root key w h a b c (names.Entry r k) = rw a refl
temp_changed t t' root key w h a b c (names.Temp r k) = h (place_of r k)
temp_changed t t' root key w h a b c (names.FolderLock r d) = rw b refl
temp_changed t t' root key w h a b c (names.KeyIndex r) = rw c refl
temp_changed t t' root key w h a b c (names.Db r) = rw c refl
temp_changed t t' root key w h a b c (names.Idx r) = rw c refl
temp_changed t t' root key w h a b c (names.Foz r) = rw c refl
temp_changed t t' root key w h a b c (names.FozIdx r) = rw c refl
temp_changed t t' root key w h a b c (names.Ro r x) = rw c refl
temp_changed t t' root key w h a b c (names.RoIdx r x) = rw c refl
temp_changed t t' root key w h a b c names.List = rw c refl

-- a name that is a folder's lock file's
pub lock_changed : (t t' : Names) (root : ℕ) (byte : ℕ) (w : Option ℕ) → ((p : FolderPlace) → get same_folder t'.locks p ≡ cond (same_folder (folder_of root byte) p) w (get same_folder t.locks p))
    → t'.entries ≡ t.entries → t'.temps ≡ t.temps → t'.others ≡ t.others → (n : Name) → number_in t' n ≡ cond (same_name (names.FolderLock root byte) n) w (number_in t n)
unfolding name_code number_in
lock_changed t t' root byte w h a b c (names.Entry r k) = rw a refl
lock_changed t t' root byte w h a b c (names.Temp r k) = rw b refl
lock_changed t t' root byte w h a b c (names.FolderLock r d) = h (folder_of r d) ∙ ap (λ (q : Bool). cond q w (get same_folder t.locks (folder_of r d))) (sym (both_true (nat_eq root r) (nat_eq byte d)))
lock_changed t t' root byte w h a b c (names.KeyIndex r) = rw c refl
lock_changed t t' root byte w h a b c (names.Db r) = rw c refl
lock_changed t t' root byte w h a b c (names.Idx r) = rw c refl
lock_changed t t' root byte w h a b c (names.Foz r) = rw c refl
lock_changed t t' root byte w h a b c (names.FozIdx r) = rw c refl
lock_changed t t' root byte w h a b c (names.Ro r x) = rw c refl
lock_changed t t' root byte w h a b c (names.RoIdx r x) = rw c refl
lock_changed t t' root byte w h a b c names.List = rw c refl

other_than_entry : (name : Name) (root : ℕ) (key : Key) → IsOther name → same_name name (names.Entry root key) ≡ false
unfolding name_code
other_than_entry (names.Entry r k) root key i = absurd i
other_than_entry (names.Temp r k) root key i = absurd i
other_than_entry (names.FolderLock r d) root key i = absurd i
other_than_entry (names.KeyIndex r) root key i = refl
other_than_entry (names.Db r) root key i = refl
other_than_entry (names.Idx r) root key i = refl
other_than_entry (names.Foz r) root key i = refl
other_than_entry (names.FozIdx r) root key i = refl
other_than_entry (names.Ro r x) root key i = refl
other_than_entry (names.RoIdx r x) root key i = refl
other_than_entry names.List root key i = refl

other_than_temp : (name : Name) (root : ℕ) (key : Key) → IsOther name → same_name name (names.Temp root key) ≡ false
unfolding name_code
other_than_temp (names.Entry r k) root key i = absurd i
other_than_temp (names.Temp r k) root key i = absurd i
other_than_temp (names.FolderLock r d) root key i = absurd i
other_than_temp (names.KeyIndex r) root key i = refl
other_than_temp (names.Db r) root key i = refl
other_than_temp (names.Idx r) root key i = refl
other_than_temp (names.Foz r) root key i = refl
other_than_temp (names.FozIdx r) root key i = refl
other_than_temp (names.Ro r x) root key i = refl
other_than_temp (names.RoIdx r x) root key i = refl
other_than_temp names.List root key i = refl

other_than_lock : (name : Name) (root : ℕ) (byte : ℕ) → IsOther name → same_name name (names.FolderLock root byte) ≡ false
unfolding name_code
other_than_lock (names.Entry r k) root byte i = absurd i
other_than_lock (names.Temp r k) root byte i = absurd i
other_than_lock (names.FolderLock r d) root byte i = absurd i
other_than_lock (names.KeyIndex r) root byte i = refl
other_than_lock (names.Db r) root byte i = refl
other_than_lock (names.Idx r) root byte i = refl
other_than_lock (names.Foz r) root byte i = refl
other_than_lock (names.FozIdx r) root byte i = refl
other_than_lock (names.Ro r x) root byte i = refl
other_than_lock (names.RoIdx r x) root byte i = refl
other_than_lock names.List root byte i = refl

-- another name
pub other_changed : (t t' : Names) (name : Name) (w : Option ℕ) → IsOther name → ((n : Name) → number_of t'.others.items n ≡ cond (same_name name n) w (number_of t.others.items n))
    → t'.entries ≡ t.entries → t'.temps ≡ t.temps → t'.locks ≡ t.locks → (n : Name) → number_in t' n ≡ cond (same_name name n) w (number_in t n)
unfolding number_in
other_changed t t' name w i h a b c (names.Entry r k) = rw (a, other_than_entry name r k i) refl
other_changed t t' name w i h a b c (names.Temp r k) = rw (b, other_than_temp name r k i) refl
other_changed t t' name w i h a b c (names.FolderLock r d) = rw (c, other_than_lock name r d i) refl
other_changed t t' name w i h a b c (names.KeyIndex r) = h (names.KeyIndex r)
other_changed t t' name w i h a b c (names.Db r) = h (names.Db r)
other_changed t t' name w i h a b c (names.Idx r) = h (names.Idx r)
other_changed t t' name w i h a b c (names.Foz r) = h (names.Foz r)
other_changed t t' name w i h a b c (names.FozIdx r) = h (names.FozIdx r)
other_changed t t' name w i h a b c (names.Ro r x) = h (names.Ro r x)
other_changed t t' name w i h a b c (names.RoIdx r x) = h (names.RoIdx r x)
other_changed t t' name w i h a b c names.List = h names.List

-- a name that is none of these
pub is_other : (name : Name) → ((root : ℕ) (key : Key) → name ≡ names.Entry root key → ⊥) → ((root : ℕ) (key : Key) → name ≡ names.Temp root key → ⊥) → ((root byte : ℕ) → name ≡ names.FolderLock root byte → ⊥)
    → IsOther name
is_other (names.Entry r k) f g h = f r k refl
is_other (names.Temp r k) f g h = g r k refl
is_other (names.FolderLock r d) f g h = h r d refl
is_other (names.KeyIndex r) f g h = tt
is_other (names.Db r) f g h = tt
is_other (names.Idx r) f g h = tt
is_other (names.Foz r) f g h = tt
is_other (names.FozIdx r) f g h = tt
is_other (names.Ro r x) f g h = tt
is_other (names.RoIdx r x) f g h = tt
is_other names.List f g h = tt

-- two other names
pub both_named : (t t' : Names) (first second : NamedFile) → IsOther first.name → IsOther second.name → t'.others.items ≡ second ∷ first ∷ t.others.items → t'.entries ≡ t.entries → t'.temps ≡ t.temps → t'.locks ≡ t.locks
    → (n : Name) → number_in t' n ≡ cond (same_name second.name n) (Some second.file) (cond (same_name first.name n) (Some first.file) (number_in t n))
unfolding number_in
both_named t t' first second i j h a b c (names.Entry r k) = rw (a, other_than_entry second.name r k j, other_than_entry first.name r k i) refl
both_named t t' first second i j h a b c (names.Temp r k) = rw (b, other_than_temp second.name r k j, other_than_temp first.name r k i) refl
both_named t t' first second i j h a b c (names.FolderLock r d) = rw (c, other_than_lock second.name r d j, other_than_lock first.name r d i) refl
both_named t t' first second i j h a b c (names.KeyIndex r) = ap (λ (xs : List NamedFile). number_of xs (names.KeyIndex r)) h
both_named t t' first second i j h a b c (names.Db r) = ap (λ (xs : List NamedFile). number_of xs (names.Db r)) h
both_named t t' first second i j h a b c (names.Idx r) = ap (λ (xs : List NamedFile). number_of xs (names.Idx r)) h
both_named t t' first second i j h a b c (names.Foz r) = ap (λ (xs : List NamedFile). number_of xs (names.Foz r)) h
both_named t t' first second i j h a b c (names.FozIdx r) = ap (λ (xs : List NamedFile). number_of xs (names.FozIdx r)) h
both_named t t' first second i j h a b c (names.Ro r x) = ap (λ (xs : List NamedFile). number_of xs (names.Ro r x)) h
both_named t t' first second i j h a b c (names.RoIdx r x) = ap (λ (xs : List NamedFile). number_of xs (names.RoIdx r x)) h
both_named t t' first second i j h a b c names.List = ap (λ (xs : List NamedFile). number_of xs names.List) h

-- no name's number changed
pub all_same : (t t' : Names) → ((p : KeyPlace) → get same_place t'.entries p ≡ get same_place t.entries p) → ((p : KeyPlace) → get same_place t'.temps p ≡ get same_place t.temps p)
    → ((p : FolderPlace) → get same_folder t'.locks p ≡ get same_folder t.locks p) → t'.others.items ≡ t.others.items → (n : Name) → number_in t' n ≡ number_in t n
unfolding number_in
all_same t t' f g h e (names.Entry r k) = f (place_of r k)
all_same t t' f g h e (names.Temp r k) = g (place_of r k)
all_same t t' f g h e (names.FolderLock r d) = h (folder_of r d)
all_same t t' f g h e (names.KeyIndex r) = ap (λ (xs : List NamedFile). number_of xs (names.KeyIndex r)) e
all_same t t' f g h e (names.Db r) = ap (λ (xs : List NamedFile). number_of xs (names.Db r)) e
all_same t t' f g h e (names.Idx r) = ap (λ (xs : List NamedFile). number_of xs (names.Idx r)) e
all_same t t' f g h e (names.Foz r) = ap (λ (xs : List NamedFile). number_of xs (names.Foz r)) e
all_same t t' f g h e (names.FozIdx r) = ap (λ (xs : List NamedFile). number_of xs (names.FozIdx r)) e
all_same t t' f g h e (names.Ro r x) = ap (λ (xs : List NamedFile). number_of xs (names.Ro r x)) e
all_same t t' f g h e (names.RoIdx r x) = ap (λ (xs : List NamedFile). number_of xs (names.RoIdx r x)) e
all_same t t' f g h e names.List = ap (λ (xs : List NamedFile). number_of xs names.List) e

-- ---- a name that gets a file where it has none

turned : (k : ℕ) (q : Bool) (o : Option ℕ) → (q ≡ true → o ≡ None) → cond q (Some k) o ≡ option_or o (cond q (Some k) None)
turned k true o h = sym (ap (λ (p : Option ℕ). option_or p (Some k)) (h refl))
turned k false None h = refl
turned k false (Some j) h = refl

-- it had none
pub first_put : (t : Names) (name : Name) (k : ℕ) → number_in t name ≡ None → (n : Name) → cond (same_name name n) (Some k) (number_in t n) ≡ option_or (number_in t n) (cond (same_name name n) (Some k) None)
first_put t name k none n = turned k (same_name name n) (number_in t n) (λ q. ap (number_in t) (sym ((same_name_decides name n).0 q)) ∙ none)

stays : (k j : ℕ) (q : Bool) (o : Option ℕ) → (q ≡ true → o ≡ Some j) → o ≡ option_or o (cond q (Some k) None)
stays k j q (Some i) h = refl
stays k j false None h = refl
stays k j true None h = let e : None ≡ Some j = h refl in absurd cc

-- it had one
pub first_stays : (t : Names) (name : Name) (k j : ℕ) → number_in t name ≡ Some j → (n : Name) → number_in t n ≡ option_or (number_in t n) (cond (same_name name n) (Some k) None)
first_stays t name k j some n = stays k j (same_name name n) (number_in t n) (λ q. ap (number_in t) (sym ((same_name_decides name n).0 q)) ∙ some)

-- ---- what holds of a result

pub on_ok : {A E P Q : Type 0} (r : Result A E) → (P → Q) → OnOk r P → OnOk r Q
on_ok (Ok a) f h = f h
on_ok (Err e) f h = tt

pub on_err : {A E P Q : Type 0} (r : Result A E) → (P → Q) → OnErr r P → OnErr r Q
on_err (Ok a) f h = tt
on_err (Err e) f h = f h
