-- What a put's own items change on the disk: the temporary file, and by the rename the entry.
use Rattle.std.proofs.Common.{◌≡◌, inl, inr, ℕ, ◌<◌, Bool, true, false, cond, nat_eq, List, [], Option, Some, None, refl, sym, ap, ◌∙◌, subst, arith}
use Rattle.std.proofs.lemmas.Bool.{false≢true, eqb-true, eq-eqb}
use Rattle.cache_types.specs.Names.{same_name, name_code}
use Rattle.cache_types.specs.declared.key.Key.{Key}
use Rattle.cache_types.specs.declared.name.Name.{Name}
use Rattle.cache_types.specs.declared.name.Name.TheVariants.{Entry, Temp}
use Rattle.cache_types.specs.declared.seat.Who.{Who}
use Rattle.cache_types.proofs.Names.{same_name_decides}
use Rattle.file_log.specs.Disk.{Disk, bytes_in, file_of, with_slot, made, made_at, rewritten, renamed}
use Rattle.file_log.specs.Operation.{IsStill}
use Rattle.disk_laws.specs.Tidy.{IsTidy}
use Rattle.file_log.proofs.All.{seat_self}
use Rattle.folder_store.specs.Entries.{IsSpared}
use Rattle.folder_store.specs.Locking.{lock_name}
use Rattle.folder_store.specs.OwnChanges.{IsElsewhere}
use Rattle.folder_store.specs.Put.{KeepsLock, LeavesElsewhere}

-- ---- names

pub other_way : (a b : Name) → same_name a b ≡ false → same_name b a ≡ false
other_way a b e = by_test (same_name b a) refl
  where
    by_test : (t : Bool) → same_name b a ≡ t → same_name b a ≡ false
    by_test true same = absurd (false≢true (sym e ∙ (same_name_decides a b).1 (sym ((same_name_decides b a).0 same))))
    by_test false other = other

pub same_self : (a : Name) → same_name a a ≡ true
same_self a = (same_name_decides a a).1 refl

pub entry_no_temp : (root root' : ℕ) (key key' : Key) → same_name (Entry root key) (Temp root' key') ≡ false
unfolding name_code
entry_no_temp root root' key key' = refl

pub entry_no_lock : (root root' : ℕ) (key key' : Key) → same_name (Entry root key) (lock_name root' key') ≡ false
unfolding name_code
entry_no_lock root root' key key' = refl

pub lock_no_entry : (root root' : ℕ) (key key' : Key) → same_name (lock_name root key) (Entry root' key') ≡ false
unfolding name_code
lock_no_entry root root' key key' = refl

pub lock_no_temp : (root root' : ℕ) (key key' : Key) → same_name (lock_name root key) (Temp root' key') ≡ false
unfolding name_code
lock_no_temp root root' key key' = refl

-- ---- what is left of the lock file

keeps_same : (file : Option (List ℕ)) → KeepsLock file file
keeps_same None = inl refl
keeps_same (Some bytes) = refl

pub keeps_as : (old new : Option (List ℕ)) → new ≡ old → KeepsLock old new
keeps_as old new same = subst (KeepsLock old) (sym same) (keeps_same old)

keeps_then : (first then last : Option (List ℕ)) → KeepsLock first then → KeepsLock then last → KeepsLock first last
keeps_then None then last (inl e) kept = subst (λ (o : Option (List ℕ)). KeepsLock o last) e kept
keeps_then None then last (inr e) kept = inr (subst (λ (o : Option (List ℕ)). KeepsLock o last) e kept)
keeps_then (Some bytes) then last e kept = subst (λ (o : Option (List ℕ)). KeepsLock o last) e kept

pub elsewhere_then : (root : ℕ) (key : Key) (a b c : Disk) → LeavesElsewhere root key a b → LeavesElsewhere root key b c → LeavesElsewhere root key a c
elsewhere_then root key a b c first later = record {
  names = λ name other. later.names name other ∙ first.names name other;
  lock = keeps_then (file_of a (lock_name root key)) (file_of b (lock_name root key)) (file_of c (lock_name root key)) first.lock later.lock;
}

-- an entry of another name is elsewhere
pub entry_elsewhere : (root root' : ℕ) (key key' : Key) → same_name (Entry root' key') (Entry root key) ≡ false → IsElsewhere root key (Entry root' key')
entry_elsewhere root root' key key' other = record { no_entry = other; no_temp = entry_no_temp root' root key' key; no_lock = entry_no_lock root' root key' key }

-- ---- the file of a name

pub same_bytes : (a b : List ℕ) → Some a ≡ Some b → a ≡ b
same_bytes a b e = cc

-- a name with the same file, whose bytes are the same
pub same_file : (d d' : Disk) (name : Name) → d'.names name ≡ d.names name → ((f : ℕ) → d.names name ≡ Some f → d'.files f ≡ d.files f) → file_of d' name ≡ file_of d name
same_file d d' name names files = ap (bytes_in d'.files) names ∙ by_file (d.names name) refl
  where
    by_file : (file : Option ℕ) → d.names name ≡ file → bytes_in d'.files file ≡ bytes_in d.files file
    by_file None e = refl
    by_file (Some f) e = ap (λ (bytes : List ℕ). Some bytes) (files f e)

pub still_file : (d d' : Disk) (name : Name) → IsStill d d' → file_of d' name ≡ file_of d name
still_file d d' name still = same_file d d' name (still.names name) (λ f e. still.files f)

pub still_elsewhere : (d d' : Disk) (root : ℕ) (key : Key) → IsStill d d' → LeavesElsewhere root key d d'
still_elsewhere d d' root key still = record {
  names = λ name other. still_file d d' name still;
  lock = keeps_as (file_of d (lock_name root key)) (file_of d' (lock_name root key)) (still_file d d' (lock_name root key) still);
}

pub spared_file : (d d' : Disk) (root : ℕ) (key : Key) → IsSpared root key d d' → file_of d' (Entry root key) ≡ file_of d (Entry root key)
spared_file d d' root key s = same_file d d' (Entry root key) s.entry (λ f e. s.bytes f (inl e))

pub still_spared : (d d' : Disk) (root : ℕ) (key : Key) → IsStill d d' → IsSpared root key d d'
still_spared d d' root key still = record { entry = still.names (Entry root key); temp = still.names (Temp root key); bytes = λ f e. still.files f }

-- ---- the entry's file

-- it is in the seat's first slot, with these bytes
pub record HasOld (d : Disk) (me : Who) (root : ℕ) (key : Key) (whole : List ℕ) : Type 0 where
  pub file : ℕ
  pub named : d.names (Entry root key) ≡ Some file
  pub slot : d.slots me 1 ≡ Some file
  pub bytes : d.files file ≡ whole

-- ---- the temporary file

-- it is in the seat's third slot, with these bytes
pub record HasTemp (d : Disk) (me : Who) (root : ℕ) (key : Key) (content : List ℕ) : Type 0 where
  pub file : ℕ
  pub named : d.names (Temp root key) ≡ Some file
  pub slot : d.slots me 3 ≡ Some file
  pub bytes : d.files file ≡ content

-- what an item leaves that changes the temporary file alone: all other names have their files and bytes
pub record Apart (root : ℕ) (key : Key) (d d' : Disk) : Type 0 where
  pub names : (name : Name) → same_name name (Temp root key) ≡ false → d'.names name ≡ d.names name
  pub files : (name : Name) → same_name name (Temp root key) ≡ false → file_of d' name ≡ file_of d name

module _ (me : Who) (root : ℕ) (key : Key) where
  abbrev temp : Name
  temp = Temp root key

  abbrev entry : Name
  entry = Entry root key

  pub apart_elsewhere : (d d' : Disk) → Apart root key d d' → LeavesElsewhere root key d d'
  apart_elsewhere d d' a = record {
    names = λ name e. a.files name e.no_temp;
    lock = keeps_as (file_of d (lock_name root key)) (file_of d' (lock_name root key)) (a.files (lock_name root key) (lock_no_temp root root key key));
  }

  pub apart_entry : (d d' : Disk) → Apart root key d d' → file_of d' entry ≡ file_of d entry
  apart_entry d d' a = a.files entry (entry_no_temp root root key key)

  -- ---- it is opened, or made

  -- the disk once there is a temporary file, with its number
  record IsMade (d d' : Disk) : Type 0 where
    pub apart : Apart root key d d'
    pub file : ℕ
    pub named : d'.names temp ≡ Some file

  made_is : (d : Disk) (file : Option ℕ) → d.names temp ≡ file → IsTidy d → IsMade d (made_at file d temp)
  made_is d (Some f) e tidy = record { apart = record { names = λ name other. refl; files = λ name other. refl }; file = f; named = e }
  made_is d None e tidy = record {
    apart = record { names = λ name other. rw (other_way name temp other) refl; files = λ name other. same_file d (made_at None d temp) name (rw (other_way name temp other) refl) (λ f is. old_file f (tidy.there name f is)) };
    file = d.count;
    named = rw (same_self temp) refl;
  }
    where
      old_file : (f : ℕ) → f < d.count → cond (nat_eq d.count f) [] (d.files f) ≡ d.files f
      old_file f below = by_test (nat_eq d.count f) refl
        where
          by_test : (t : Bool) → nat_eq d.count f ≡ t → cond t [] (d.files f) ≡ d.files f
          by_test true same = let is : d.count ≡ f = eqb-true d.count f same in absurd (omega (arith, is, below))
          by_test false other = refl

  abbrev pub after_making : Disk → Disk
  after_making d = with_slot (made d temp) me 3 ((made d temp).names temp)

  -- an own slot is filled
  pub own_slot : (d : Disk) (slot : ℕ) (file : Option ℕ) → (with_slot d me slot file).slots me slot ≡ file
  own_slot d slot file = rw (seat_self me, eq-eqb slot slot refl) refl

  pub making_apart : (d : Disk) → IsTidy d → Apart root key d (after_making d)
  making_apart d tidy =
      let m = made_is d (d.names temp) refl tidy in
      record { names = λ name other. m.apart.names name other; files = λ name other. m.apart.files name other }

  pub making_has : (d : Disk) → IsTidy d → (content : List ℕ) × HasTemp (after_making d) me root key content
  making_has d tidy =
      let m = made_is d (d.names temp) refl tidy in
      ((made d temp).files m.file, record { file = m.file; named = m.named; slot = own_slot (made d temp) 3 ((made d temp).names temp) ∙ m.named; bytes = refl })

  -- ---- it is cut or written

  -- no other name has its file
  other_file : (d : Disk) (g f : ℕ) (name : Name) → IsTidy d → d.names temp ≡ Some g → d.names name ≡ Some f → same_name name temp ≡ false → nat_eq g f ≡ false
  other_file d g f name tidy named is other = by_test (nat_eq g f) refl
    where
      by_test : (t : Bool) → nat_eq g f ≡ t → nat_eq g f ≡ false
      by_test true same =
          let one : g ≡ f = eqb-true g f same in
          let here : d.names name ≡ Some g = is ∙ ap (λ (k : ℕ). Some k) (sym one) in
          absurd (false≢true (sym other ∙ (same_name_decides name temp).1 (tidy.apart name temp g here named)))
      by_test false apart = apart

  rewritten_apart : (d : Disk) (g : ℕ) (change : List ℕ → List ℕ) → IsTidy d → d.names temp ≡ Some g → Apart root key d (rewritten d (Some g) change)
  rewritten_apart d g change tidy named =
      record { names = λ name other. refl; files = λ name other. same_file d (rewritten d (Some g) change) name refl (λ f is. rw (other_file d g f name tidy named is other) refl) }

  pub writing_apart : (d : Disk) (content : List ℕ) (change : List ℕ → List ℕ) → IsTidy d → HasTemp d me root key content → Apart root key d (rewritten d (d.slots me 3) change)
  writing_apart d content change tidy t = subst (λ (o : Option ℕ). Apart root key d (rewritten d o change)) (sym t.slot) (rewritten_apart d t.file change tidy t.named)

  pub writing_has : (d : Disk) (content : List ℕ) (change : List ℕ → List ℕ) → HasTemp d me root key content → HasTemp (rewritten d (d.slots me 3) change) me root key (change content)
  writing_has d content change t = subst (λ (o : Option ℕ). HasTemp (rewritten d o change) me root key (change content)) (sym t.slot)
      (record { file = t.file; named = t.named; slot = t.slot; bytes = rw (eq-eqb t.file t.file refl) (ap change t.bytes) })

  -- ---- it becomes the entry

  -- what the rename leaves
  pub record IsReplaced (d d' : Disk) (content : List ℕ) : Type 0 where
    pub elsewhere : LeavesElsewhere root key d d'
    pub lock : d'.names (lock_name root key) ≡ d.names (lock_name root key)
    pub entry_is : file_of d' entry ≡ Some content
    pub no_temp : d'.names temp ≡ None

  renamed_is : (d : Disk) (g : ℕ) (content : List ℕ) → d.files g ≡ content → IsReplaced d (renamed d (Some g) temp entry) content
  renamed_is d g content bytes = record {
    elsewhere = record {
      names = λ name other. same_file d (renamed d (Some g) temp entry) name (rw (other_way name entry other.no_entry, other_way name temp other.no_temp) refl) (λ f is. refl);
      lock = keeps_as (file_of d (lock_name root key)) (file_of (renamed d (Some g) temp entry) (lock_name root key)) (same_file d (renamed d (Some g) temp entry) (lock_name root key) lock (λ f is. refl));
    };
    lock = lock;
    entry_is = rw (same_self entry) (ap (λ (b : List ℕ). Some b) bytes);
    no_temp = rw (entry_no_temp root root key key, same_self temp) refl;
  }
    where
      lock : (renamed d (Some g) temp entry).names (lock_name root key) ≡ d.names (lock_name root key)
      lock = rw (other_way (lock_name root key) entry (lock_no_entry root root key key), other_way (lock_name root key) temp (lock_no_temp root root key key)) refl

  pub renaming_is : (d : Disk) (content : List ℕ) → HasTemp d me root key content → IsReplaced d (renamed d (d.names temp) temp entry) content
  renaming_is d content t = subst (λ (o : Option ℕ). IsReplaced d (renamed d o temp entry) content) (sym t.named) (renamed_is d t.file content t.bytes)
