-- What the opening of a folder's lock file changes on the disk, and what a seat that holds the lock keeps.
use Rattle.std.proofs.Common.{◌≡◌, ◌⊎◌, inl, inr, ℕ, ◌<◌, Bool, true, false, cond, nat_eq, List, [], Option, Some, None, refl, sym, ap, ◌∙◌, arith}
use Rattle.std.proofs.lemmas.Bool.{eqb-true, eq-eqb}
use Rattle.cache_types.specs.Names.{same_name}
use Rattle.cache_types.specs.declared.key.Key.{Key}
use Rattle.cache_types.specs.declared.name.Name.{Name}
use Rattle.cache_types.specs.declared.name.Name.TheVariants.{Entry}
use Rattle.cache_types.specs.declared.seat.Who.{Who}
use Rattle.file_log.specs.Disk.{Disk, Lock, file_of, bytes_in, lock_in, made_at, with_slot, made}
use Rattle.file_log.specs.Legal.{is_held}
use Rattle.disk_laws.specs.Tidy.{IsTidy}
use Rattle.folder_store.specs.Locking.{lock_name, IsUnlocked, MakesLockAlone}
use Rattle.folder_store.specs.Put.{KeepsLock, LeavesElsewhere}
use Rattle.folder_store.proofs.PutDisks.{other_way, same_self, same_file, entry_no_lock}

module _ (me : Who) (root : ℕ) (key : Key) where
  abbrev lock : Name
  lock = lock_name root key

  abbrev entry : Name
  entry = Entry root key

  -- ---- no name and no file is changed, but that the lock file may come

  none_some : {P : Type 0} (d : Disk) (f : ℕ) → d.names lock ≡ None → d.names lock ≡ Some f → P
  none_some d f none some = let clash : None ≡ Some f = sym none ∙ some in absurd cc

  made_alone : (d : Disk) (file : Option ℕ) → d.names lock ≡ file → MakesLockAlone root key d (made_at file d lock)
  made_alone d (Some f) e = record { names = λ name other. refl; kept = λ g is. is; files = λ g below. refl; empty = λ g is. inl is }
  made_alone d None e = record {
    names = λ name other. rw (other_way name lock other) refl;
    kept = λ g is. none_some d g e is;
    files = λ g below. by_test g below (nat_eq d.count g) refl;
    empty = λ g is. inr (new g (cond_is (same_name lock lock) (Some d.count) (d.names lock) (Some g) (same_self lock) is));
  }
    where
      by_test : (g : ℕ) → g < d.count → (t : Bool) → nat_eq d.count g ≡ t → cond t [] (d.files g) ≡ d.files g
      by_test g below true same = let is : d.count ≡ g = eqb-true d.count g same in absurd (omega (arith, is, below))
      by_test g below false other = refl

      cond_is : (t : Bool) (a b c : Option ℕ) → t ≡ true → cond t a b ≡ c → a ≡ c
      cond_is true a b c e' is = is
      cond_is false a b c e' is = absurd cc

      new : (g : ℕ) → Some d.count ≡ Some g → cond (nat_eq d.count g) [] (d.files g) ≡ []
      new g is = let same : d.count ≡ g = cc in rw (eq-eqb d.count g same) refl

  abbrev pub after_opening : Disk → Disk
  after_opening d = with_slot (made d lock) me 0 ((made d lock).names lock)

  pub opening_alone : (d : Disk) → MakesLockAlone root key d (after_opening d)
  opening_alone d =
      let m = made_alone d (d.names lock) refl in
      record { names = m.names; kept = m.kept; files = m.files; empty = m.empty }

  -- ---- by the bytes of each name

  alone_file : (d d' : Disk) (name : Name) → IsTidy d → MakesLockAlone root key d d' → same_name name lock ≡ false → file_of d' name ≡ file_of d name
  alone_file d d' name tidy m other = same_file d d' name (m.names name other) (λ f is. m.files f (tidy.there name f is))

  alone_lock : (d d' : Disk) (old new : Option ℕ) → IsTidy d → MakesLockAlone root key d d' → d.names lock ≡ old → d'.names lock ≡ new → KeepsLock (bytes_in d.files old) (bytes_in d'.files new)
  alone_lock d d' (Some f) new tidy m e e' =
      let same : new ≡ Some f = sym e' ∙ m.kept f e in
      rw same (ap (λ (bytes : List ℕ). Some bytes) (m.files f (tidy.there lock f e)))
  alone_lock d d' None None tidy m e e' = inl refl
  alone_lock d d' None (Some g) tidy m e e' = by_empty (m.empty g e')
    where
      by_empty : (d.names lock ≡ Some g) ⊎ (d'.files g ≡ []) → KeepsLock None (bytes_in d'.files (Some g))
      by_empty (inl is) = none_some d g e is
      by_empty (inr is) = inr (ap (λ (bytes : List ℕ). Some bytes) is)

  pub alone_elsewhere : (d d' : Disk) → IsTidy d → MakesLockAlone root key d d' → LeavesElsewhere root key d d'
  alone_elsewhere d d' tidy m = record {
    names = λ name other. alone_file d d' name tidy m other.no_lock;
    lock = alone_lock d d' (d.names lock) (d'.names lock) tidy m refl refl;
  }

  pub alone_entry : (d d' : Disk) → IsTidy d → MakesLockAlone root key d d' → file_of d' entry ≡ file_of d entry
  alone_entry d d' tidy m = alone_file d d' entry tidy m (entry_no_lock root root key key)

  -- ---- the lock of a new file is free

  new_free : (d : Disk) (o : Option Lock) → IsTidy d → d.locks d.count ≡ o → is_held me o ≡ false
  new_free d None tidy e = refl
  new_free d (Some taken) tidy e = let below = tidy.locked d.count taken e in absurd (omega (arith, below))

  made_free : (d : Disk) (file : Option ℕ) → IsTidy d → d.names lock ≡ file → is_held me (lock_in d file) ≡ false → is_held me (lock_in (made_at file d lock) ((made_at file d lock).names lock)) ≡ false
  made_free d (Some f) tidy e free = rw e free
  made_free d None tidy e free = rw (same_self lock) (new_free d (d.locks d.count) tidy refl)

  pub opening_free : (d : Disk) → IsTidy d → IsUnlocked me root key d → IsUnlocked me root key (after_opening d)
  opening_free d tidy free = made_free d (d.names lock) tidy refl free
