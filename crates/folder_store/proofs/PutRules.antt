-- What each own item of a put keeps: entries are whole, none is replaced before that was told, and the End says what is left.
use Rattle.std.proofs.Common.{◌≡◌, ◌⊎◌, inl, inr, ℕ, Bool, true, false, List, [], ◌∷◌, ◌++◌, Option, Some, None, refl, sym, ap, ◌∙◌, subst}
use Rattle.cache_types.specs.Driver.{DriverKeys, Fronts}
use Rattle.cache_types.specs.Names.{same_name}
use Rattle.cache_types.specs.declared.answer.Answer.TheVariants as answers
use Rattle.cache_types.specs.declared.key.Key.{Key}
use Rattle.cache_types.specs.declared.name.Name.{Name}
use Rattle.cache_types.specs.declared.name.Name.TheVariants.{Entry}
use Rattle.cache_types.proofs.Names.{same_name_decides}
use Rattle.file_log.specs.declared.call.Call.TheVariants.{Rename}
use Rattle.file_log.specs.declared.item.LogItem.{LogItem}
use Rattle.file_log.specs.declared.item.LogItem.TheVariants as items
use Rattle.file_log.specs.declared.reply.Reply.TheVariants.{Done}
use Rattle.file_log.specs.Disk.{Disk, file_of, lock_in}
use Rattle.file_log.specs.Effect.{applied}
use Rattle.file_log.specs.Legal.{is_held}
use Rattle.file_log.specs.Log.{is_own}
use Rattle.file_log.specs.Operation.{IsStill}
use Rattle.disk_laws.proofs.Locks.{own_locks}
use Rattle.disk_laws.proofs.Tidiness.{item_tidy}
use Rattle.seat_rules.specs.Address.{address}
use Rattle.seat_rules.specs.Operations.{is_end_of, EvictIsOpen}
use Rattle.folder_rules.specs.Whole.{folder_of, IsPutItem}
use Rattle.folder_store.specs.Locking.{lock_name, IsUnlocked}
use Rattle.folder_store.specs.Put.{Leaves, LeavesElsewhere, TellsEvicts}
use Rattle.folder_store.proofs.PutDisks.{same_bytes, Apart, still_file, still_elsewhere, still_spared, entry_elsewhere, lock_no_temp, apart_elsewhere, apart_entry}
use Rattle.folder_store.proofs.PutKnown.{Job, Place, step, base_after, told_after, put_item_on, Base, Passes, Goes, Rests, base_on, old}

abbrev pub AreWhole : List LogItem → Disk → Type 0
AreWhole log d = (root : ℕ) (key : Key) (bytes : List ℕ) → file_of d (Entry root key) ≡ Some bytes → IsPutItem log root key bytes

-- an entry is replaced once that was told
abbrev pub Replaces : Place → LogItem → Type 0
Replaces p (items.Did who (Rename from (Entry root key)) Done) =
    (bytes : List ℕ) (driver : DriverKeys) → file_of p.state.disk (Entry root key) ≡ Some bytes → Fronts bytes driver → EvictIsOpen p.log who (address (folder_of root) driver key)
Replaces p x = Unit {0}

pub whole_still : (log : List LogItem) (d d' : Disk) (x : LogItem) → IsStill d d' → AreWhole log d → AreWhole (log ++ x ∷ []) d'
whole_still log d d' x still whole root key bytes e = put_item_on log (x ∷ []) root key bytes (whole root key bytes (sym (still_file d d' (Entry root key) still) ∙ e))

module _ (j : Job) where
  -- what its End says: where it stored, the entry is the item; and where no other seat has an item, all that is left
  abbrev pub Ends : Place → LogItem → Type 0
  Ends p (items.End who answer) =
      (answer ≡ answers.Stored → file_of p.state.disk (Entry j.root j.key) ≡ Some j.item)
      × (j.alone ≡ true → Leaves j.root j.driver j.key j.blob answer p.base p.state.disk × LeavesElsewhere j.root j.key p.base p.state.disk × TellsEvicts j.me j.root j.key (old j p) answer p.told)
  Ends p x = Unit {0}

  -- an item keeps all of it
  pub record IsRight (p : Place) (x : LogItem) : Type 0 where
    pub whole : AreWhole p.log p.state.disk → AreWhole (p.log ++ x ∷ []) (applied p.state.disk x)
    pub replaces : Replaces p x
    pub ends : Ends p x

  -- ---- entries stay whole

  abbrev entry : Name
  entry = Entry j.root j.key

  -- where one entry alone changes, into the put's item
  pub whole_then : (log : List LogItem) (d d' : Disk) (x : LogItem) → LeavesElsewhere j.root j.key d d' → (file_of d' entry ≡ file_of d entry) ⊎ (file_of d' entry ≡ Some j.item) → IsPutItem log j.root j.key j.item
      → AreWhole log d → AreWhole (log ++ x ∷ []) d'
  whole_then log d d' x elsewhere here begun whole root key bytes e = put_item_on log (x ∷ []) root key bytes (by_test (same_name (Entry root key) entry) refl)
    where
      root_is : Entry root key ≡ entry → j.root ≡ root
      root_is same = cc

      key_is : Entry root key ≡ entry → j.key ≡ key
      key_is same = cc

      at_entry : file_of d' entry ≡ Some bytes → (file_of d' entry ≡ file_of d entry) ⊎ (file_of d' entry ≡ Some j.item) → IsPutItem log j.root j.key bytes
      at_entry now (inl same) = whole j.root j.key bytes (sym same ∙ now)
      at_entry now (inr new) = subst (IsPutItem log j.root j.key) (same_bytes j.item bytes (sym new ∙ now)) begun

      by_test : (t : Bool) → same_name (Entry root key) entry ≡ t → IsPutItem log root key bytes
      by_test true same =
          let is : Entry root key ≡ entry = (same_name_decides (Entry root key) entry).0 same in
          let i : IsPutItem log j.root j.key bytes = at_entry (ap (file_of d') (sym is) ∙ e) here in
          subst (λ (k : Key). IsPutItem log root k bytes) (key_is is) (subst (λ (r : ℕ). IsPutItem log r j.key bytes) (root_is is) i)
      by_test false other = whole root key bytes (sym (elsewhere.names (Entry root key) (entry_elsewhere j.root root j.key key other)) ∙ e)

  -- ---- an own item gives no other seat the lock

  free_in : (d d' : Disk) (file : Option ℕ) → ((f : ℕ) → is_held j.me (d.locks f) ≡ false → is_held j.me (d'.locks f) ≡ false) → is_held j.me (lock_in d file) ≡ false → is_held j.me (lock_in d' file) ≡ false
  free_in d d' None locks free = refl
  free_in d d' (Some f) locks free = locks f free

  -- where the lock file's name stays
  pub stays_free : (d : Disk) (x : LogItem) → is_own j.me x ≡ true → (applied d x).names (lock_name j.root j.key) ≡ d.names (lock_name j.root j.key) → IsUnlocked j.me j.root j.key d → IsUnlocked j.me j.root j.key (applied d x)
  stays_free d x mine same free =
      let d' : Disk = applied d x in
      ap (λ (file : Option ℕ). is_held j.me (lock_in d' file)) same ∙ free_in d d' (d.names (lock_name j.root j.key)) (λ f. own_locks j.me d x f mine) free

  -- ---- an own item that changes no name and no file

  pub record Quiet (p : Place) (x : LogItem) : Type 0 where
    pub right : IsRight p x
    pub base : Base j (step j.me p x)
    pub rests : Rests j p (step j.me p x)

  pub quiet : (p : Place) (x : LogItem) → Base j p → is_own j.me x ≡ true → is_end_of j.me x ≡ false → base_after j.me p.base p.state.disk x ≡ p.base → told_after j.me p.told x ≡ p.told → Replaces p x → Ends p x → IsStill p.state.disk (applied p.state.disk x) → Quiet p x
  quiet p x b mine no_end same told replaces ends still =
      let d' : Disk = applied p.state.disk x in
      let passes : Passes j p (step j.me p x) = record {
        x = x;
        log = refl;
        no_end = no_end;
        base = same;
        told = told;
        tidy = item_tidy p.state.disk x b.tidy;
        elsewhere = λ alone. still_elsewhere p.state.disk d' j.root j.key still;
        free = λ alone. stays_free p.state.disk x mine (still.names (lock_name j.root j.key));
      } in
      record {
        right = record { whole = whole_still p.log p.state.disk d' x still; replaces = replaces; ends = ends };
        base = base_on j p (step j.me p x) passes b;
        rests = record { passes = passes; spared = still_spared p.state.disk d' j.root j.key still; still = λ alone. still };
      }

  -- ---- an own item that changes the temporary file alone

  pub record Changed (p : Place) (x : LogItem) : Type 0 where
    pub right : IsRight p x
    pub base : Base j (step j.me p x)
    pub goes : Goes j p (step j.me p x)

  -- or that changes at most names elsewhere
  pub changed_by : (p : Place) (x : LogItem) → Base j p → is_end_of j.me x ≡ false → base_after j.me p.base p.state.disk x ≡ p.base → told_after j.me p.told x ≡ p.told → Replaces p x → Ends p x
      → LeavesElsewhere j.root j.key p.state.disk (applied p.state.disk x) → file_of (applied p.state.disk x) entry ≡ file_of p.state.disk entry → (IsUnlocked j.me j.root j.key p.state.disk → IsUnlocked j.me j.root j.key (applied p.state.disk x)) → Changed p x
  changed_by p x b no_end same told replaces ends elsewhere here free =
      let d' : Disk = applied p.state.disk x in
      let passes : Passes j p (step j.me p x) = record {
        x = x;
        log = refl;
        no_end = no_end;
        base = same;
        told = told;
        tidy = item_tidy p.state.disk x b.tidy;
        elsewhere = λ alone. elsewhere;
        free = λ alone. free;
      } in
      record {
        right = record { whole = whole_then p.log p.state.disk d' x elsewhere (inl here) b.begun; replaces = replaces; ends = ends };
        base = base_on j p (step j.me p x) passes b;
        goes = record { passes = passes; entry = here };
      }

  pub changed : (p : Place) (x : LogItem) → Base j p → is_own j.me x ≡ true → is_end_of j.me x ≡ false → base_after j.me p.base p.state.disk x ≡ p.base → told_after j.me p.told x ≡ p.told → Replaces p x → Ends p x → Apart j.root j.key p.state.disk (applied p.state.disk x) → Changed p x
  changed p x b mine no_end same told replaces ends apart =
      let d' : Disk = applied p.state.disk x in
      changed_by p x b no_end same told replaces ends (apart_elsewhere j.me j.root j.key p.state.disk d' apart) (apart_entry j.me j.root j.key p.state.disk d' apart)
      (stays_free p.state.disk x mine (apart.names (lock_name j.root j.key) (lock_no_temp j.root j.root j.key j.key)))
