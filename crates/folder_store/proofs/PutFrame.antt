-- Each own item of a put changes at most its own names and files, whatever other seats do.
use Rattle.std.proofs.Common.{◌≡◌, ◌⊎◌, inl, inr, ℕ, ◌+◌, ◌<◌, Bool, true, false, cond, nat_eq, List, [], ◌∷◌, ◌++◌, length, take, Option, Some, None, refl, sym, ap, ◌∙◌, subst, append_assoc, arith}
use Rattle.std.specs.List.{list_any}
use Rattle.std.proofs.lemmas.Bool.{false≢true, eqb-true, eq-eqb}
use Rattle.std.proofs.lemmas.List.{append-nil}
use Rattle.std.proofs.lemmas.List.Elements.{filter-append}
use Rattle.std.proofs.lemmas.List.Folds.{list_any-append}
use Rattle.cache_types.specs.Driver.{DriverKeys}
use Rattle.cache_types.specs.Names.{same_name}
use Rattle.cache_types.specs.declared.answer.Answer.{Answer}
use Rattle.cache_types.specs.declared.key.Key.{Key}
use Rattle.cache_types.specs.declared.name.Name.{Name}
use Rattle.cache_types.specs.declared.name.Name.TheVariants.{Entry, Temp}
use Rattle.cache_types.specs.declared.request.Request.{Request}
use Rattle.cache_types.specs.declared.seat.Who.{Who}
use Rattle.file_log.specs.declared.call.Call.{Call}
use Rattle.file_log.specs.declared.call.Call.TheVariants as calls
use Rattle.file_log.specs.declared.item.LogItem.{LogItem}
use Rattle.file_log.specs.declared.item.LogItem.TheVariants as items
use Rattle.file_log.specs.declared.note.Note.TheVariants as notes
use Rattle.file_log.specs.declared.reply.Reply.{Reply}
use Rattle.file_log.specs.declared.reply.Reply.TheVariants as replies
use Rattle.file_log.specs.Along.{All}
use Rattle.file_log.specs.Disk.{Disk, with_slot, made, made_at, rewritten, renamed}
use Rattle.file_log.specs.Effect.{applied, done_call}
use Rattle.file_log.specs.Exchange.{Answers, Makes, Exchange, byte_items}
use Rattle.file_log.specs.Log.{History, is_own, own}
use Rattle.file_log.specs.Operation.{IsStill}
use Rattle.file_log.specs.State.{disk_of}
use Rattle.file_log.specs.Writing.{written}
use Rattle.files_api.specs.declared.machine.Step.TheVariants.{Ask}
use Rattle.files_api.specs.Drive.{Runs, items_of_all}
use Rattle.seat_rules.specs.Changes.{with_item}
use Rattle.folder_store.specs.declared.put.FolderPut.{FolderPut}
use Rattle.folder_store.specs.declared.put_phase.Look.TheVariants.{First}
use Rattle.folder_store.specs.declared.put_phase.PutPhase.{PutPhase}
use Rattle.folder_store.specs.declared.put_phase.PutPhase.TheVariants.{Opening}
use Rattle.folder_store.specs.Locking.{lock_name}
use Rattle.folder_store.specs.OwnChanges.{AtMostComes, HasOpenTemp, PlacesTemp, ChangesOwn, KeepsToOwn}
use Rattle.folder_store.specs.PutPhases.{asks_put, asked_put, FedPut}
use Rattle.folder_store.specs.Readings.{is_moved, HasOpen}
use Rattle.folder_store.proofs.LockHeld.{seat_is}
use Rattle.folder_store.proofs.LockTries.{IsOf, still_of}
use Rattle.folder_store.proofs.PutCourse.{Course, Seeking, Looking, Measured, Aside, Starting, Filling, Placing, Settled, course, AsksOn, IsAside, IsFilling, IsClosing, GoesOff, GoesAside, FillsOn, Leads}
use Rattle.folder_store.proofs.PutDisks.{other_way, same_self, entry_no_temp, lock_no_entry, lock_no_temp}
use Rattle.folder_store.proofs.PutLocking.{locked_still}
use Rattle.folder_store.proofs.PutReadings.{course_asks_of, course_leads_of}

-- ---- a name without a file gets one

made_other : (d : Disk) (file : Option ℕ) (name n : Name) → same_name name n ≡ false → (made_at file d name).names n ≡ d.names n
made_other d None name n other = rw other refl
made_other d (Some f) name n other = refl

made_files : (d : Disk) (file : Option ℕ) (name : Name) (f : ℕ) → f < d.count → (made_at file d name).files f ≡ d.files f
made_files d (Some g) name f below = refl
made_files d None name f below = by_test (nat_eq d.count f) refl
  where
    by_test : (t : Bool) → nat_eq d.count f ≡ t → cond t [] (d.files f) ≡ d.files f
    by_test true same = let is : d.count ≡ f = eqb-true d.count f same in absurd (omega (arith, is, below))
    by_test false other = refl

made_comes : (d : Disk) (file : Option ℕ) (name : Name) → d.names name ≡ file → AtMostComes name d (made_at file d name)
made_comes d (Some f) name e = inl refl
made_comes d None name e = inr (record { absent = e; named = rw (same_self name) refl; empty = rw (eq-eqb d.count d.count refl) refl })

in_slot : (d d' : Disk) (name : Name) (who : Who) (slot : ℕ) (file : Option ℕ) → AtMostComes name d d' → AtMostComes name d (with_slot d' who slot file)
in_slot d d' name who slot file (inl e) = inl e
in_slot d d' name who slot file (inr c) = inr (record { absent = c.absent; named = c.named; empty = c.empty })

module _ (root : ℕ) (key : Key) where
  abbrev temp : Name
  temp = Temp root key

  abbrev entry : Name
  entry = Entry root key

  abbrev lock : Name
  lock = lock_name root key

  -- ---- what an item may be, after these own items

  abbrev Fits : List LogItem → LogItem → Type 0
  Fits before (items.Did who (calls.OpenNew slot name) replies.Done) = (lock ≡ name) ⊎ (temp ≡ name)
  Fits before (items.Did who (calls.Cut slot n) replies.Done) = HasOpen slot temp before
  Fits before (items.Did who (calls.Rename from to) replies.Done) = (temp ≡ from) × (entry ≡ to) × HasOpenTemp root key before
  Fits before (items.Did who (calls.Remove name) replies.Done) = ⊥
  Fits before (items.Byte who slot at value) = HasOpen slot temp before
  Fits before item = Unit {0}

  abbrev Changes : Who → List LogItem → LogItem → Disk → Disk → Type 0
  Changes who before item d d' = ChangesOwn who root key before item d d'

  still_own : (who : Who) (before : List LogItem) (item : LogItem) (d d' : Disk) → IsStill d d' → Changes who before item d d'
  still_own who before item d d' still = record {
    elsewhere = λ name other. still.names name;
    lock = inl (still.names lock);
    temp = inl (inl (still.names temp));
    entry = inl (still.names entry);
    bytes = λ f below. inl (still.files f);
  }

  same_own : (who : Who) (before : List LogItem) (item : LogItem) (d : Disk) → Changes who before item d d
  same_own who before item d = still_own who before item d d (record { names = λ name. refl; files = λ f. refl })

  lock_own : (who : Who) (before : List LogItem) (item : LogItem) (d : Disk) (slot : ℕ) → Changes who before item d (with_slot (made d lock) who slot ((made d lock).names lock))
  lock_own who before item d slot = record {
    elsewhere = λ name other. made_other d (d.names lock) lock name (other_way name lock other.no_lock);
    lock = in_slot d (made d lock) lock who slot ((made d lock).names lock) (made_comes d (d.names lock) lock refl);
    temp = inl (inl (made_other d (d.names lock) lock temp (lock_no_temp root root key key)));
    entry = inl (made_other d (d.names lock) lock entry (lock_no_entry root root key key));
    bytes = λ f below. inl (made_files d (d.names lock) lock f below);
  }

  temp_own : (who : Who) (before : List LogItem) (item : LogItem) (d : Disk) (slot : ℕ) → Changes who before item d (with_slot (made d temp) who slot ((made d temp).names temp))
  temp_own who before item d slot = record {
    elsewhere = λ name other. made_other d (d.names temp) temp name (other_way name temp other.no_temp);
    lock = inl (made_other d (d.names temp) temp lock (other_way lock temp (lock_no_temp root root key key)));
    temp = inl (in_slot d (made d temp) temp who slot ((made d temp).names temp) (made_comes d (d.names temp) temp refl));
    entry = inl (made_other d (d.names temp) temp entry (other_way entry temp (entry_no_temp root root key key)));
    bytes = λ f below. inl (made_files d (d.names temp) temp f below);
  }

  filled_own : (who : Who) (before : List LogItem) (item : LogItem) (d : Disk) (slot : ℕ) (file : Option ℕ) (change : List ℕ → List ℕ) → d.slots who slot ≡ file → HasOpen slot temp before → Changes who before item d (rewritten d file change)
  filled_own who before item d slot None change e has = same_own who before item d
  filled_own who before item d slot (Some g) change e has = record {
    elsewhere = λ name other. refl;
    lock = inl refl;
    temp = inl (inl refl);
    entry = inl refl;
    bytes = λ f below. by_file f (nat_eq g f) refl;
  }
    where
      by_file : (f : ℕ) (t : Bool) → nat_eq g f ≡ t → (cond t (change (d.files g)) (d.files f) ≡ d.files f) ⊎ ((s : ℕ) × (d.slots who s ≡ Some f) × HasOpen s temp before)
      by_file f true same = inr (slot, e ∙ ap (λ (k : ℕ). Some k) (eqb-true g f same), has)
      by_file f false other = inl refl

  placed_own : (who : Who) (before : List LogItem) (d : Disk) (file : Option ℕ) → d.names temp ≡ file → HasOpenTemp root key before → Changes who before (items.Did who (calls.Rename temp entry) replies.Done) d (renamed d file temp entry)
  placed_own who before d None e has = same_own who before (items.Did who (calls.Rename temp entry) replies.Done) d
  placed_own who before d (Some g) e has =
      let places : PlacesTemp root key before (items.Did who (calls.Rename temp entry) replies.Done) = record { renames = rw (same_self temp, same_self entry) refl; opened = has } in
      record {
        elsewhere = λ name other. rw (other_way name entry other.no_entry, other_way name temp other.no_temp) refl;
        lock = inl (rw (other_way lock entry (lock_no_entry root root key key), other_way lock temp (lock_no_temp root root key key)) refl);
        temp = inr places;
        entry = inr (rw (same_self entry) (sym e), places);
        bytes = λ f below. inl refl;
      }

  done_own : (who : Who) (before : List LogItem) (d : Disk) (call : Call) → Fits before (items.Did who call replies.Done) → Changes who before (items.Did who call replies.Done) d (done_call d who call)
  done_own who before d (calls.OpenOld slot name) fits = still_own who before _ d _ (record { names = λ n. refl; files = λ f. refl })
  done_own who before d (calls.OpenNew slot name) (inl e) = subst (λ (n : Name). Changes who before (items.Did who (calls.OpenNew slot n) replies.Done) d (done_call d who (calls.OpenNew slot n))) e (lock_own who before _ d slot)
  done_own who before d (calls.OpenNew slot name) (inr e) = subst (λ (n : Name). Changes who before (items.Did who (calls.OpenNew slot n) replies.Done) d (done_call d who (calls.OpenNew slot n))) e (temp_own who before _ d slot)
  done_own who before d (calls.TryLock slot) fits = still_own who before _ d _ (locked_still d who slot (d.slots who slot))
  done_own who before d (calls.Cut slot n) fits = filled_own who before _ d slot (d.slots who slot) (take n) refl fits
  done_own who before d (calls.Rename from to) fits =
      subst (λ (t : Name). Changes who before (items.Did who (calls.Rename from t) replies.Done) d (renamed d (d.names from) from t)) fits.1
      (subst (λ (f : Name). Changes who before (items.Did who (calls.Rename f entry) replies.Done) d (renamed d (d.names f) f entry)) fits.0 (placed_own who before d (d.names temp) refl fits.2))
  done_own who before d (calls.Remove name) fits = absurd fits
  done_own who before d (calls.Close slot) fits = still_own who before _ d _ (record { names = λ n. refl; files = λ f. refl })
  done_own who before d call fits = same_own who before _ d

  own_changes : (me : Who) (before : List LogItem) (d : Disk) (item : LogItem) → is_own me item ≡ true → Fits before item → Changes me before item d (applied d item)
  own_changes me before d (items.Did who call replies.Done) mine fits = subst (λ (w : Who). Changes w before (items.Did who call replies.Done) d (done_call d who call)) (sym (seat_is me who mine)) (done_own who before d call fits)
  own_changes me before d (items.Byte who slot at value) mine fits =
      subst (λ (w : Who). Changes w before (items.Byte who slot at value) d (rewritten d (d.slots who slot) (written at (value ∷ [])))) (sym (seat_is me who mine)) (filled_own who before (items.Byte who slot at value) d slot (d.slots who slot) (written at (value ∷ [])) refl fits)
  own_changes me before d (items.Stop process) mine fits = absurd (false≢true mine)
  own_changes me before d (items.Install r name main index) mine fits = absurd (false≢true mine)
  own_changes me before d (items.SetList text) mine fits = absurd (false≢true mine)
  own_changes me before d item mine fits = same_own me before item d

  -- ---- items in a row

  abbrev pub AllFit : List LogItem → List LogItem → Type 0
  AllFit before made = All (λ (l : List LogItem) (x : LogItem). l ++ x ∷ []) Fits before made

  all_join : (before xs ys : List LogItem) → AllFit before xs → AllFit (before ++ xs) ys → AllFit before (xs ++ ys)
  all_join before [] ys a b = subst (λ (l : List LogItem). AllFit l ys) (append-nil before) b
  all_join before (x ∷ xs) ys a b = (a.0, all_join (before ++ x ∷ []) xs ys a.1 (subst (λ (l : List LogItem). AllFit l ys) (sym (append_assoc before (x ∷ []) xs)) b))

  open_on : (slot : ℕ) (before made : List LogItem) → HasOpen slot temp before → list_any (is_moved slot) made ≡ false → HasOpen slot temp (before ++ made)
  open_on slot before made h none = record {
    before = h.before;
    opening = h.opening;
    since = h.since ++ made;
    made_are = ap (λ (l : List LogItem). l ++ made) h.made_are ∙ append_assoc h.before (h.opening ∷ h.since) made;
    opens = h.opens;
    meanwhile = list_any-append (is_moved slot) h.since made ∙ rw (h.meanwhile, none) refl;
  }

  -- ---- the items of one call

  abbrev IsHarmless : Call → Type 0
  IsHarmless (calls.OpenOld slot name) = Unit {0}
  IsHarmless (calls.OpenNew slot name) = (lock ≡ name) ⊎ (temp ≡ name)
  IsHarmless (calls.TryLock slot) = Unit {0}
  IsHarmless calls.Pause = Unit {0}
  IsHarmless (calls.Length slot) = Unit {0}
  IsHarmless (calls.ReadAt slot at n) = Unit {0}
  IsHarmless (calls.Close slot) = Unit {0}
  IsHarmless (calls.Tell (notes.Evict store driver key')) = Unit {0}
  IsHarmless call = ⊥

  module _ (me : Who) (before : List LogItem) where
    harmless_fit : (call : Call) (reply : Reply) (made' : List LogItem) → IsHarmless call → Makes me true call reply made' → AllFit before made'
    harmless_fit (calls.OpenNew slot name) replies.Done made' h ms = subst (AllFit before) (sym ms) (h, tt)
    harmless_fit (calls.WriteAt slot at bytes) reply made' h ms = absurd h
    harmless_fit (calls.Cut slot n) reply made' h ms = absurd h
    harmless_fit (calls.Rename from to) reply made' h ms = absurd h
    harmless_fit (calls.Remove name) reply made' h ms = absurd h
    harmless_fit (calls.Tell (notes.Begin request)) reply made' h ms = absurd h
    harmless_fit (calls.Tell (notes.End answer)) reply made' h ms = absurd h
    harmless_fit (calls.Tell (notes.Evict store driver key')) replies.NoMemory made' h ms = subst (AllFit before) (sym ms.1) tt
    harmless_fit call replies.Done made' h ms = subst (AllFit before) (sym ms) (tt, tt)
    harmless_fit call replies.Failed made' h ms = subst (AllFit before) (sym ms.1) (tt, tt)
    harmless_fit call replies.NoMemory made' h ms = subst (AllFit before) (sym ms.1) (tt, tt)
    harmless_fit call reply made' h ms = subst (AllFit before) (sym ms) (tt, tt)

  bytes_stay : (me : Who) (at : ℕ) (bytes : List ℕ) → list_any (is_moved 3) (byte_items me 3 at bytes) ≡ false
  bytes_stay me at [] = refl
  bytes_stay me at (value ∷ bytes) = bytes_stay me (at + 1) bytes

  byte_fit : (me : Who) (at : ℕ) (bytes : List ℕ) (before : List LogItem) → HasOpen 3 temp before → AllFit before (byte_items me 3 at bytes)
  byte_fit me at [] before h = tt
  byte_fit me at (value ∷ bytes) before h = (h, byte_fit me (at + 1) bytes (before ++ items.Byte me 3 at value ∷ []) (open_on 3 before (items.Byte me 3 at value ∷ []) h refl))

  -- the items of a call that fills the temporary file, which stays open
  abbrev Fills : List LogItem → List LogItem → Type 0
  Fills before made' = AllFit before made' × HasOpen 3 temp (before ++ made')

  one_fills : (before : List LogItem) (x : LogItem) → HasOpen 3 temp before → Fits before x → is_moved 3 x ≡ false → Fills before (x ∷ [])
  one_fills before x h fits none = ((fits, tt), open_on 3 before (x ∷ []) h (rw none refl))

  bytes_fill : (me : Who) (at : ℕ) (bytes : List ℕ) (before : List LogItem) → HasOpen 3 temp before → Fills before (byte_items me 3 at bytes)
  bytes_fill me at bytes before h = (byte_fit me at bytes before h, open_on 3 before (byte_items me 3 at bytes) h (bytes_stay me at bytes))

  then_failed : (me : Who) (memory : Bool) (before made' : List LogItem) → Fills before made' → Fills before (made' ++ items.Failed me memory ∷ [])
  then_failed me memory before made' f =
      let last = one_fills (before ++ made') (items.Failed me memory) f.1 tt refl in
      (all_join before made' (items.Failed me memory ∷ []) f.0 last.0, subst (HasOpen 3 temp) (append_assoc before made' (items.Failed me memory ∷ [])) last.1)

  filling_fills : (me : Who) (call : Call) (reply : Reply) (made' before : List LogItem) → IsFilling call → Answers true call reply → Makes me true call reply made' → HasOpen 3 temp before → Fills before made'
  filling_fills me (calls.Cut slot n) replies.Done made' before is fits ms h =
      subst (Fills before) (sym ms) (subst (λ (s : ℕ). Fills before (items.Did me (calls.Cut s n) replies.Done ∷ [])) is (one_fills before (items.Did me (calls.Cut 3 n) replies.Done) h h refl))
  filling_fills me (calls.Cut slot n) replies.Failed made' before is fits ms h = subst (Fills before) (sym ms.1) (one_fills before (items.Failed me false) h tt refl)
  filling_fills me (calls.Cut slot n) replies.NoMemory made' before is fits ms h = subst (Fills before) (sym ms.1) (one_fills before (items.Failed me true) h tt refl)
  filling_fills me (calls.Cut slot n) reply made' before is fits ms h = absurd fits
  filling_fills me (calls.WriteAt slot at bytes) reply made' before is fits ms h = writes reply (subst (λ (s : ℕ). Answers true (calls.WriteAt s at bytes) reply) (sym is) fits) (subst (λ (s : ℕ). Makes me true (calls.WriteAt s at bytes) reply made') (sym is) ms)
    where
      by_length : (b : Bool) → Fills before (cond b (items.Did me (calls.WriteAt 3 at bytes) replies.Done ∷ []) (byte_items me 3 at bytes))
      by_length true = one_fills before (items.Did me (calls.WriteAt 3 at bytes) replies.Done) h tt refl
      by_length false = bytes_fill me at bytes before h

      writes : (reply : Reply) → Answers true (calls.WriteAt 3 at bytes) reply → Makes me true (calls.WriteAt 3 at bytes) reply made' → Fills before made'
      writes replies.Done fits' ms' = subst (Fills before) (sym ms') (by_length (nat_eq (length bytes) 0))
      writes replies.Failed fits' ms' = subst (Fills before) (sym ms'.1) (then_failed me false before (byte_items me 3 at (take ms'.0 bytes)) (bytes_fill me at (take ms'.0 bytes) before h))
      writes replies.NoMemory fits' ms' = subst (Fills before) (sym ms'.1) (then_failed me true before (byte_items me 3 at (take ms'.0 bytes)) (bytes_fill me at (take ms'.0 bytes) before h))
      writes reply fits' ms' = absurd fits'
  filling_fills me call reply made' before is fits ms h = absurd is

  -- ---- along a run

  abbrev Knows : Course → List LogItem → Type 0
  Knows Filling before = HasOpen 3 temp before
  Knows Placing before = HasOpen 3 temp before
  Knows c before = Unit {0}

  settled_knows : (c : Course) (answer : Answer) (before : List LogItem) → c ≡ Settled answer → Knows c before
  settled_knows c answer before e = subst (λ (c' : Course). Knows c' before) (sym e) tt

  off_knows : (c : Course) (before : List LogItem) → GoesOff c → Knows c before
  off_knows Aside before g = tt
  off_knows Starting before g = tt
  off_knows c before g = absurd g

  aside_knows : (c : Course) (before : List LogItem) → GoesAside c → Knows c before
  aside_knows Aside before g = tt
  aside_knows Starting before g = tt
  aside_knows Seeking before g = tt
  aside_knows (Settled answer) before g = tt
  aside_knows c before g = absurd g

  fills_knows : (c : Course) (before : List LogItem) → FillsOn c → HasOpen 3 temp before → Knows c before
  fills_knows Filling before g h = h
  fills_knows Placing before g h = h
  fills_knows c before g h = absurd g

  module _ (me : Who) (driver : DriverKeys) where
    abbrev Steps : List LogItem → List LogItem → Course → Type 0
    Steps before made' next = AllFit before made' × Knows next (before ++ made')

    abbrev Made : Call → Reply → List LogItem → Type 0
    Made call reply made' = Answers true call reply × Makes me true call reply made'

    harmless : (call : Call) (reply : Reply) (made' before : List LogItem) (next : Course) → IsHarmless call → Made call reply made' → Knows next (before ++ made') → Steps before made' next
    harmless call reply made' before next h m k = (harmless_fit me before call reply made' h m.1, k)

    aside_harmless : (call : Call) → IsAside root key call → IsHarmless call
    aside_harmless (calls.OpenNew slot name) a = inl a
    aside_harmless (calls.ReadAt slot at n) a = tt
    aside_harmless (calls.Close slot) a = tt
    aside_harmless (calls.TryLock slot) a = tt
    aside_harmless calls.Pause a = tt
    aside_harmless (calls.Tell (notes.Evict store driver' key')) a = tt
    aside_harmless (calls.Tell (notes.Begin request)) a = absurd a
    aside_harmless (calls.Tell (notes.End answer)) a = absurd a
    aside_harmless call a = absurd a

    closing_harmless : (call : Call) → IsClosing call → IsHarmless call
    closing_harmless (calls.Close slot) a = tt
    closing_harmless call a = absurd a

    -- what follows where the temporary file isn't open
    early_knows : (now next : Course) (reply : Reply) (before : List LogItem) → (now ≡ Seeking) ⊎ (now ≡ Aside) → Leads driver now reply next → Knows next before
    early_knows now next reply before (inl e) l = seeking reply (subst (λ (c : Course). Leads driver c reply next) e l)
      where
        seeking : (reply : Reply) → Leads driver Seeking reply next → Knows next before
        seeking replies.Failed l = settled_knows next _ before l
        seeking replies.NoMemory l = settled_knows next _ before l
        seeking replies.Done l = subst (λ (c : Course). Knows c before) (sym l) tt
        seeking replies.Missing l = off_knows next before l
        seeking reply l = absurd l
    early_knows now next reply before (inr e) l = aside reply (subst (λ (c : Course). Leads driver c reply next) e l)
      where
        aside : (reply : Reply) → Leads driver Aside reply next → Knows next before
        aside replies.Failed l = settled_knows next _ before l
        aside replies.NoMemory l = settled_knows next _ before l
        aside reply l = aside_knows next before l

    looking_knows : (next : Course) (reply : Reply) (before : List LogItem) → Leads driver Looking reply next → Knows next before
    looking_knows next replies.Failed before l = settled_knows next _ before l
    looking_knows next replies.NoMemory before l = settled_knows next _ before l
    looking_knows next (replies.Number n) before (inl l) = subst (λ (c : Course). Knows c before) (sym l) tt
    looking_knows next (replies.Number n) before (inr l) = subst (λ (c : Course). Knows c before) (sym l) tt
    looking_knows next reply before l = absurd l

    measured_knows : (n : ℕ) (next : Course) (reply : Reply) (before : List LogItem) → Leads driver (Measured n) reply next → Knows next before
    measured_knows n next replies.Failed before l = settled_knows next _ before l
    measured_knows n next replies.NoMemory before l = settled_knows next _ before l
    measured_knows n next (replies.Got bytes) before (inl l) = settled_knows next _ before l.1
    measured_knows n next (replies.Got bytes) before (inr l) = off_knows next before l
    measured_knows n next reply before l = absurd l

    starting_steps : (next : Course) (reply : Reply) (made' before : List LogItem) → Made (calls.OpenNew 3 temp) reply made' → Leads driver Starting reply next → Steps before made' next
    starting_steps next replies.Failed made' before m l = harmless (calls.OpenNew 3 temp) replies.Failed made' before next (inr refl) m (settled_knows next _ (before ++ made') l)
    starting_steps next replies.NoMemory made' before m l = harmless (calls.OpenNew 3 temp) replies.NoMemory made' before next (inr refl) m (settled_knows next _ (before ++ made') l)
    starting_steps next replies.Done made' before m l =
        let x : LogItem = items.Did me (calls.OpenNew 3 temp) replies.Done in
        let h : HasOpen 3 temp (before ++ x ∷ []) = record { before = before; opening = x; since = []; made_are = refl; opens = (refl, refl); meanwhile = refl } in
        (harmless_fit me before (calls.OpenNew 3 temp) replies.Done made' (inr refl) m.1, subst (λ (c : Course). Knows c (before ++ made')) (sym l) (subst (λ (xs : List LogItem). HasOpen 3 temp (before ++ xs)) (sym m.1) h))
    starting_steps next reply made' before m l = absurd l

    filling_steps : (next : Course) (call : Call) (reply : Reply) (made' before : List LogItem) → IsFilling call → Made call reply made' → Leads driver Filling reply next → HasOpen 3 temp before → Steps before made' next
    filling_steps next call replies.Failed made' before is m l h = ((filling_fills me call replies.Failed made' before is m.0 m.1 h).0, settled_knows next _ (before ++ made') l)
    filling_steps next call replies.NoMemory made' before is m l h = ((filling_fills me call replies.NoMemory made' before is m.0 m.1 h).0, settled_knows next _ (before ++ made') l)
    filling_steps next call replies.Done made' before is m l h = let f = filling_fills me call replies.Done made' before is m.0 m.1 h in (f.0, fills_knows next (before ++ made') l f.1)
    filling_steps next call reply made' before is m l h = absurd l

    placing_steps : (next : Course) (reply : Reply) (made' before : List LogItem) → Made (calls.Rename temp entry) reply made' → Leads driver Placing reply next → HasOpen 3 temp before → Steps before made' next
    placing_steps next replies.Failed made' before m l h = (subst (AllFit before) (sym m.1.1) (tt, tt), settled_knows next _ (before ++ made') l)
    placing_steps next replies.NoMemory made' before m l h = (subst (AllFit before) (sym m.1.1) (tt, tt), settled_knows next _ (before ++ made') l)
    placing_steps next replies.Done made' before m l h = (subst (AllFit before) (sym m.1) ((refl, refl, (3, h)), tt), settled_knows next _ (before ++ made') l)
    placing_steps next reply made' before m l h = absurd l

    step : (now next : Course) (call : Call) (reply : Reply) (made' before : List LogItem) → AsksOn root key now (Ask call) → Made call reply made' → Leads driver now reply next → Knows now before → Steps before made' next
    step (Settled given) next call reply made' before asks m l k = harmless call reply made' before next (closing_harmless call asks) m (settled_knows next given (before ++ made') l)
    step Seeking next call reply made' before asks m l k = harmless call reply made' before next (subst IsHarmless asks tt) m (early_knows Seeking next reply (before ++ made') (inl refl) l)
    step Looking next call reply made' before asks m l k = harmless call reply made' before next (subst IsHarmless asks tt) m (looking_knows next reply (before ++ made') l)
    step (Measured n) next call reply made' before asks m l k = harmless call reply made' before next (subst IsHarmless asks tt) m (measured_knows n next reply (before ++ made') l)
    step Aside next call reply made' before asks m l k = harmless call reply made' before next (aside_harmless call asks) m (early_knows Aside next reply (before ++ made') (inr refl) l)
    step Starting next call reply made' before asks m l k = starting_steps next reply made' before (subst (λ (c : Call). Made c reply made') (sym asks) m) l
    step Filling next call reply made' before asks m l k = filling_steps next call reply made' before asks m l k
    step Placing next call reply made' before asks m l k = placing_steps next reply made' before (subst (λ (c : Call). Made c reply made') (sym asks) m) l k

  fit_from : (me : Who) (m last : FolderPut) (xs : List Exchange) (answer : Answer) (before : List LogItem) → IsOf me root key m → Knows (course m.phase) before → Runs asks_put asked_put FedPut me m xs answer last → AllFit before (items_of_all xs)
  fit_from me m last [] answer before of k run = tt
  fit_from me m last (x ∷ xs) answer before of k run =
      let n = run.3.0 in
      let s = step me m.driver (course m.phase) (course n.phase) x.call x.reply x.items before (subst (AsksOn root key (course m.phase)) run.0 (course_asks_of me root key m of)) (run.1, run.2) (course_leads_of m n x.call x.reply run.0 run.1 run.3.1) k in
      all_join before x.items (items_of_all xs) s.0 (fit_from me n last xs answer (before ++ x.items) (still_of me root key m n x.reply of run.3.1) s.1 run.3.2)

  -- ---- in a log

  -- where own items fit, after the own items before, they change at most their own
  pub own_frame : (me : Who) (h : History) (news : List LogItem) → AllFit (own me h.log) (own me news) → All with_item (KeepsToOwn me root key) h news
  own_frame me h [] fit = tt
  own_frame me h (x ∷ news) fit = by_test (is_own me x) refl fit (λ fit'. own_frame me (with_item h x) news fit')
    where
      joined : (b : Bool) → is_own me x ≡ b → own me (h.log ++ x ∷ []) ≡ own me h.log ++ cond b (x ∷ []) []
      joined b e = filter-append (is_own me) h.log (x ∷ []) ∙ ap (λ (t : Bool). own me h.log ++ cond t (x ∷ []) []) e

      by_test : (b : Bool) → is_own me x ≡ b → AllFit (own me h.log) (cond b (x ∷ own me news) (own me news)) → (AllFit (own me (h.log ++ x ∷ [])) (own me news) → All with_item (KeepsToOwn me root key) (with_item h x) news)
          → (is_own me x ≡ true → Changes me (own me h.log) x (disk_of h) (applied (disk_of h) x)) × All with_item (KeepsToOwn me root key) (with_item h x) news
      by_test true mine fit' again = (λ e. own_changes me (own me h.log) (disk_of h) x e fit'.0, again (subst (λ (l : List LogItem). AllFit l (own me news)) (sym (joined true mine)) fit'.1))
      by_test false other fit' again = (λ e. absurd (false≢true (sym other ∙ e)), again (subst (λ (l : List LogItem). AllFit l (own me news)) (sym (joined false other ∙ append-nil (own me h.log))) fit'))

  pub whole_fit : (me : Who) (request : Request) (m last : FolderPut) (xs : List Exchange) (given answer : Answer) (before : List LogItem) → IsOf me root key m → m.phase ≡ Opening First → Runs asks_put asked_put FedPut me m xs given last
      → AllFit before (items.Begin me request ∷ (items_of_all xs ++ items.End me answer ∷ []))
  whole_fit me request m last xs given answer before of opening run =
      let start : List LogItem = before ++ items.Begin me request ∷ [] in
      (tt, all_join start (items_of_all xs) (items.End me answer ∷ []) (fit_from me m last xs given start of (subst (λ (p : PutPhase). Knows (course p) start) (sym opening) tt) run) (tt, tt))
