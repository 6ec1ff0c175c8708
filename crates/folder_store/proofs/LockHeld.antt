-- A put changes names and files under its folder's lock alone, whatever others do between that leaves the lock file its name.
use Rattle.std.proofs.Common.{◌≡◌, inl, inr, ℕ, ◌+◌, ◌-◌, nat_eq, Bool, true, false, cond, ◌&&◌, List, [], ◌∷◌, ◌++◌, length, take, Option, Some, None, refl, sym, ap, subst, ◌∙◌, not}
use Rattle.std.specs.List.{AllByRecursion}
use Rattle.std.proofs.lemmas.Bool.{false≢true, eqb-true, eq-eqb}
use Rattle.std.proofs.lemmas.List.{append-nil}
use Rattle.cache_types.specs.Names.{same_name}
use Rattle.cache_types.specs.Seats.{same_seat}
use Rattle.cache_types.specs.declared.answer.Answer.{Answer}
use Rattle.cache_types.specs.declared.answer.Answer.TheVariants as answers
use Rattle.cache_types.specs.declared.key.Key.{Key}
use Rattle.cache_types.specs.declared.name.Name.{Name}
use Rattle.cache_types.specs.declared.request.Request.{Request}
use Rattle.cache_types.specs.declared.seat.Who.{Who}
use Rattle.file_log.specs.declared.call.Call.{Call}
use Rattle.file_log.specs.declared.call.Call.TheVariants as calls
use Rattle.file_log.specs.declared.item.LogItem.{LogItem}
use Rattle.file_log.specs.declared.item.LogItem.TheVariants as items
use Rattle.file_log.specs.declared.note.Note.TheVariants as notes
use Rattle.file_log.specs.declared.reply.Reply.{Reply}
use Rattle.file_log.specs.declared.reply.Reply.TheVariants as replies
use Rattle.file_log.specs.Along.{All, Keeps}
use Rattle.file_log.specs.Disk.{Disk, Lock, lock_in, lock_taken, locked, made, made_at, rewritten, renamed}
use Rattle.file_log.specs.Effect.{applied, done_call}
use Rattle.file_log.specs.Exchange.{Answers, Makes, Exchange, byte_items}
use Rattle.file_log.specs.Legal.{IsLegal, Legal, is_held, is_slot_held}
use Rattle.file_log.specs.Log.{is_own, is_stop, own, NoStop}
use Rattle.file_log.specs.State.{State, after}
use Rattle.file_log.specs.Writing.{written}
use Rattle.file_log.proofs.All.{seat_self}
use Rattle.disk_laws.specs.Locks.{lock_by}
use Rattle.disk_laws.proofs.Locks.{other_locks}
use Rattle.disk_laws.proofs.Slots.{other_slots}
use Rattle.files_api.specs.declared.machine.Step.TheVariants.{Ask}
use Rattle.files_api.specs.Drive.{Runs, items_of_all, IsEndOf}
use Rattle.files_api.proofs.Weave.{Inductive, Outer, weave_operation}
use Rattle.folder_store.specs.declared.put.FolderPut.{FolderPut}
use Rattle.folder_store.specs.declared.put_phase.Look.TheVariants.{First}
use Rattle.folder_store.specs.declared.put_phase.PutPhase.{PutPhase}
use Rattle.folder_store.specs.declared.put_phase.PutPhase.TheVariants.{Opening}
use Rattle.folder_changes.specs.Frame.{HasFolder}
use Rattle.seat_rules.specs.Kinds.{folder_byte}
use Rattle.folder_store.specs.Locking.{lock_name, MakesLockAlone, OwnMakesLockAlone, TriesLock, IsUnderLock, ChangesUnderLock}
use Rattle.folder_store.specs.PutPhases.{asks_put, asked_put, FedPut}
use Rattle.folder_store.proofs.Calls.{IsLooking, item_for, makes_one}
use Rattle.folder_store.proofs.Items.{all_append}
use Rattle.folder_store.proofs.LockDisks.{opening_alone}
use Rattle.folder_store.proofs.LockStages.{LockStage, Before, Entering, Trying, Resting, Inside, Over, lock_stage, LeavesAlone, AsksIn, Gives, LockLeads}
use Rattle.folder_store.proofs.LockTries.{still_alone, IsOf, asks_of, still_of, leads_of, IsCalm, nothing_calm}
use Rattle.folder_store.proofs.PutDisks.{other_way, same_self, own_slot}
use Rattle.folder_store.proofs.PutLocking.{locked_still}
use Rattle.folder_store.proofs.Still.{looking_still}

abbrev seat_at : ℕ → ℕ → Who
seat_at process seat = record { process = process; seat = seat }

-- two seats that are the same
pub seat_is : (a b : Who) → same_seat a b ≡ true → a ≡ b
seat_is a b e = both (nat_eq a.process b.process) (nat_eq a.seat b.seat) refl refl e
  where
    both : (x y : Bool) → nat_eq a.process b.process ≡ x → nat_eq a.seat b.seat ≡ y → (x && y) ≡ true → a ≡ b
    both true true p s e' = ap (λ (k : ℕ). seat_at k a.seat) (eqb-true a.process b.process p) ∙ ap (λ (k : ℕ). seat_at b.process k) (eqb-true a.seat b.seat s)
    both true false p s e' = absurd cc
    both false y p s e' = absurd cc

module _ (me : Who) (root : ℕ) (key : Key) where
  abbrev lock : Name
  lock = lock_name root key

  abbrev Holds : State → Type 0
  Holds s = HasFolder s.disk me root (folder_byte key)

  -- slot 0 has the lock file
  pub record HasLockFile (s : State) : Type 0 where
    pub file : ℕ
    pub slot : s.disk.slots me 0 ≡ Some file
    pub named : s.disk.names lock ≡ Some file

  abbrev Rule : State → LogItem → Type 0
  Rule s x = ChangesUnderLock me root key s x

  -- ---- what is known at each stage

  abbrev Knows : LockStage → State → Type 0
  Knows (Trying again) s = HasLockFile s
  Knows (Resting again) s = HasLockFile s
  Knows Inside s = Holds s
  Knows stage s = Unit {0}

  -- and after a reply
  abbrev After : LockStage → Reply → State → Type 0
  After Entering replies.Done s = HasLockFile s
  After (Trying again) replies.Done s = Holds s
  After (Trying again) replies.Held s = HasLockFile s
  After (Resting again) replies.Done s = HasLockFile s
  After Inside reply s = Holds s
  After stage reply s = Unit {0}

  gives_knows : (next : LockStage) (s : State) → Gives next → Knows next s
  gives_knows (Over answer) s g = tt
  gives_knows next s g = absurd g

  after_knows : (now next : LockStage) (reply : Reply) (s : State) → LockLeads now reply next → After now reply s → Knows next s
  after_knows Before Before reply s l k = tt
  after_knows Before Entering reply s l k = tt
  after_knows Before (Over answer) reply s l k = tt
  after_knows Before next reply s l k = absurd l
  after_knows Entering next replies.Done s l k = subst (λ (n : LockStage). Knows n s) (sym l) k
  after_knows Entering next reply s l k = gives_knows next s l
  after_knows (Trying again) next replies.Done s l k = subst (λ (n : LockStage). Knows n s) (sym l) k
  after_knows (Trying again) next replies.Held s l k = subst (λ (n : LockStage). Knows n s) (sym l) (by_last (nat_eq again 0))
    where
      by_last : (b : Bool) → Knows (cond b (Over answers.Busy) (Resting (again - 1))) s
      by_last true = tt
      by_last false = k
  after_knows (Trying again) next reply s l k = gives_knows next s l
  after_knows (Resting again) next replies.Done s l k = subst (λ (n : LockStage). Knows n s) (sym l) k
  after_knows (Resting again) next reply s l k = gives_knows next s l
  after_knows Inside Inside reply s l k = k
  after_knows Inside (Over answer) reply s l k = tt
  after_knows Inside next reply s l k = absurd l
  after_knows (Over answer) next reply s l k = subst (λ (n : LockStage). Knows n s) (sym l) tt

  -- ---- one item of a call

  -- an own item that ends its call
  pub record Steps (stage : LockStage) (reply : Reply) (x : LogItem) : Type 0 where
    pub mine : is_own me x ≡ true
    pub goes : (s : State) → IsLegal s x → Knows stage s → IsUnderLock me root key s.disk x × After stage reply (after s x)

  -- an own item that leaves the lock, its file and its name alone
  pub record IsKeeper (x : LogItem) : Type 0 where
    pub mine : is_own me x ≡ true
    pub holds : (d : Disk) → HasFolder d me root (folder_byte key) → HasFolder (applied d x) me root (folder_byte key)
    pub tries : (d : Disk) → TriesLock root key d x

  -- what is known within a call, with the items that it still makes
  abbrev Doing : LockStage → Reply → List LogItem → State → Type 0
  Doing stage reply [] s = After stage reply s
  Doing Inside reply (x ∷ made) s = Holds s × AllByRecursion IsKeeper (x ∷ made)
  Doing stage reply (x ∷ made) s = Knows stage s × Steps stage reply x × (made ≡ [])

  -- ---- calls before the lock is held, and after it is freed

  calm_under : (d : Disk) (x : LogItem) → MakesLockAlone root key d (applied d x) → TriesLock root key d x → IsUnderLock me root key d x
  calm_under d x calm tries = record { changes = inl calm; tries = tries }

  failed_steps : (stage : LockStage) (reply : Reply) (memory : Bool) → ((s : State) → After stage reply s) → Steps stage reply (items.Failed me memory)
  failed_steps stage reply memory then = record { mine = seat_self me; goes = λ s legal k. (calm_under s.disk (items.Failed me memory) (nothing_calm me root key s.disk) tt, then (after s (items.Failed me memory))) }

  looking_tries : (call : Call) (reply : Reply) (d : Disk) → IsLooking call → TriesLock root key d (item_for me call reply)
  looking_tries (calls.TryLock slot) reply d looks = absurd looks
  looking_tries call replies.Failed d looks = tt
  looking_tries call replies.NoMemory d looks = tt
  looking_tries call reply d looks = tt

  looking_mine : (call : Call) (reply : Reply) → is_own me (item_for me call reply) ≡ true
  looking_mine call replies.Failed = seat_self me
  looking_mine call replies.NoMemory = seat_self me
  looking_mine call reply = seat_self me

  looking_steps : (stage : LockStage) (call : Call) (reply : Reply) → ((s : State) → After stage reply s) → IsLooking call → Steps stage reply (item_for me call reply)
  looking_steps stage call reply then looks = record {
    mine = looking_mine call reply;
    goes = λ s legal k. (calm_under s.disk (item_for me call reply) (still_alone root key s.disk (applied s.disk (item_for me call reply)) (looking_still me call reply looks s.disk)) (looking_tries call reply s.disk looks), then (after s (item_for me call reply)));
  }

  -- the lock file is there once it is opened
  made_named : (d : Disk) (file : Option ℕ) → d.names lock ≡ file → (f : ℕ) × ((made_at file d lock).names lock ≡ Some f)
  made_named d (Some f) e = (f, e)
  made_named d None e = (d.count, rw (same_self lock) refl)

  opening_steps : Steps Entering replies.Done (items.Did me (calls.OpenNew 0 lock) replies.Done)
  opening_steps = record {
    mine = seat_self me;
    goes = λ s legal k.
        let m = made_named s.disk (s.disk.names lock) refl in (
          calm_under s.disk (items.Did me (calls.OpenNew 0 lock) replies.Done) (opening_alone me root key s.disk) tt,
          record { file = m.0; slot = own_slot me root key (made s.disk lock) 0 ((made s.disk lock).names lock) ∙ m.1; named = m.1 },
        );
  }

  -- ---- the lock is taken

  taken_mine : (o : Option Lock) → is_held me o ≡ false → (slot : ℕ) × (lock_taken o (record { who = me; slot = 0 }) ≡ lock_by me slot)
  taken_mine None free = (0, refl)
  taken_mine (Some other) free = (other.slot, ap (λ (who : Who). lock_by who other.slot) (sym (seat_is me other.who (not_false (same_seat me other.who) free))))
    where
      not_false : (b : Bool) → not b ≡ false → b ≡ true
      not_false true e = refl
      not_false false e = absurd cc

  locked_holds : (d : Disk) (f : ℕ) → d.names lock ≡ Some f → is_held me (d.locks f) ≡ false → HasFolder (locked d me 0 (Some f)) me root (folder_byte key)
  locked_holds d f named free =
      let t = taken_mine (d.locks f) free in
      record { file = f; slot = t.0; named = named; taken = rw (eq-eqb f f refl) t.1 }

  pub trying_holds : (s : State) → HasLockFile s → is_slot_held s.disk me 0 ≡ false → HasFolder (locked s.disk me 0 (s.disk.slots me 0)) me root (folder_byte key)
  trying_holds s k free =
      let free' : is_held me (s.disk.locks k.file) ≡ false = ap (λ (o : Option ℕ). is_held me (lock_in s.disk o)) (sym k.slot) ∙ free in
      subst (λ (o : Option ℕ). HasFolder (locked s.disk me 0 o) me root (folder_byte key)) (sym k.slot) (locked_holds s.disk k.file k.named free')

  tries_it : (s : State) (reply : Reply) → HasLockFile s → TriesLock root key s.disk (items.Did me (calls.TryLock 0) reply)
  tries_it s reply k = (k.file, k.slot, k.named)

  taking_steps : (again : ℕ) → Steps (Trying again) replies.Done (items.Did me (calls.TryLock 0) replies.Done)
  taking_steps again = record {
    mine = seat_self me;
    goes = λ s legal k.
        let x : LogItem = items.Did me (calls.TryLock 0) replies.Done in
        (calm_under s.disk x (still_alone root key s.disk (applied s.disk x) (locked_still s.disk me 0 (s.disk.slots me 0))) (tries_it s replies.Done k), trying_holds s k legal.1.0.1);
  }

  held_steps : (again : ℕ) → Steps (Trying again) replies.Held (items.Did me (calls.TryLock 0) replies.Held)
  held_steps again = record {
    mine = seat_self me;
    goes = λ s legal k. (calm_under s.disk (items.Did me (calls.TryLock 0) replies.Held) (nothing_calm me root key s.disk) (tries_it s replies.Held k), record { file = k.file; slot = k.slot; named = k.named });
  }

  pausing_steps : (again : ℕ) → Steps (Resting again) replies.Done (items.Did me calls.Pause replies.Done)
  pausing_steps again = record {
    mine = seat_self me;
    goes = λ s legal k. (calm_under s.disk (items.Did me calls.Pause replies.Done) (nothing_calm me root key s.disk) tt, record { file = k.file; slot = k.slot; named = k.named });
  }

  -- ---- items under the lock

  keeps_as : (d d' : Disk) → d'.names lock ≡ d.names lock → ((f : ℕ) → d'.locks f ≡ d.locks f) → HasFolder d me root (folder_byte key) → HasFolder d' me root (folder_byte key)
  keeps_as d d' names locks h = record { file = h.file; slot = h.slot; named = names ∙ h.named; taken = locks h.file ∙ h.taken }

  made_keeps : (d : Disk) (file : Option ℕ) (name : Name) → same_name lock name ≡ false → HasFolder d me root (folder_byte key) → HasFolder (made_at file d name) me root (folder_byte key)
  made_keeps d None name other h = keeps_as d (made_at None d name) (rw (other_way lock name other) refl) (λ f. refl) h
  made_keeps d (Some f) name other h = h

  rewritten_keeps : (d : Disk) (file : Option ℕ) (change : List ℕ → List ℕ) → HasFolder d me root (folder_byte key) → HasFolder (rewritten d file change) me root (folder_byte key)
  rewritten_keeps d None change h = h
  rewritten_keeps d (Some f) change h = keeps_as d (rewritten d (Some f) change) refl (λ g. refl) h

  renamed_keeps : (d : Disk) (file : Option ℕ) (from to : Name) → same_name lock from ≡ false → same_name lock to ≡ false → HasFolder d me root (folder_byte key) → HasFolder (renamed d file from to) me root (folder_byte key)
  renamed_keeps d None from to no_from no_to h = h
  renamed_keeps d (Some f) from to no_from no_to h = keeps_as d (renamed d (Some f) from to) (rw (other_way lock to no_to, other_way lock from no_from) refl) (λ g. refl) h

  done_keeps : (call : Call) (d : Disk) → LeavesAlone root key call → HasFolder d me root (folder_byte key) → HasFolder (done_call d me call) me root (folder_byte key)
  done_keeps (calls.OpenOld slot name) d leaves h = keeps_as d (done_call d me (calls.OpenOld slot name)) refl (λ f. refl) h
  done_keeps (calls.OpenNew slot name) d leaves h =
      let h' = made_keeps d (d.names name) name leaves h in
      keeps_as (made d name) (done_call d me (calls.OpenNew slot name)) refl (λ f. refl) h'
  done_keeps (calls.Cut slot n) d leaves h = rewritten_keeps d (d.slots me slot) (take n) h
  done_keeps (calls.Rename from to) d leaves h = renamed_keeps d (d.names from) from to leaves.0 leaves.1 h
  done_keeps (calls.TryLock slot) d leaves h = absurd leaves
  done_keeps (calls.Remove name) d leaves h = absurd leaves
  done_keeps (calls.Close slot) d leaves h = absurd leaves
  done_keeps call d leaves h = h

  did_tries : (call : Call) (reply : Reply) (d : Disk) → LeavesAlone root key call → TriesLock root key d (items.Did me call reply)
  did_tries (calls.TryLock slot) reply d leaves = absurd leaves
  did_tries call reply d leaves = tt

  did_keeps : (call : Call) (reply : Reply) → LeavesAlone root key call → IsKeeper (items.Did me call reply)
  did_keeps call replies.Done leaves = record { mine = seat_self me; holds = λ d h. done_keeps call d leaves h; tries = λ d. did_tries call replies.Done d leaves }
  did_keeps call reply leaves = record { mine = seat_self me; holds = λ d h. h; tries = λ d. did_tries call reply d leaves }

  failed_keeps : (memory : Bool) → IsKeeper (items.Failed me memory)
  failed_keeps memory = record { mine = seat_self me; holds = λ d h. h; tries = λ d. tt }

  bytes_keep : (slot at : ℕ) (bytes : List ℕ) → AllByRecursion IsKeeper (byte_items me slot at bytes)
  bytes_keep slot at [] = tt
  bytes_keep slot at (value ∷ bytes) =
      (record { mine = seat_self me; holds = λ d h. rewritten_keeps d (d.slots me slot) (written at (value ∷ [])) h; tries = λ d. tt }, bytes_keep slot (at + 1) bytes)

  written_keep : (slot at : ℕ) (bytes : List ℕ) (made : List LogItem) (b : Bool) → made ≡ cond b (items.Did me (calls.WriteAt slot at bytes) replies.Done ∷ []) (byte_items me slot at bytes) → AllByRecursion IsKeeper made
  written_keep slot at bytes made true e = subst (AllByRecursion IsKeeper) (sym e) (did_keeps (calls.WriteAt slot at bytes) replies.Done tt, tt)
  written_keep slot at bytes made false e = subst (AllByRecursion IsKeeper) (sym e) (bytes_keep slot at bytes)

  made_keep : (call : Call) (reply : Reply) (made : List LogItem) → LeavesAlone root key call → Makes me true call reply made → AllByRecursion IsKeeper made
  made_keep (calls.WriteAt slot at bytes) replies.Done made leaves makes = written_keep slot at bytes made (nat_eq (length bytes) 0) makes
  made_keep (calls.WriteAt slot at bytes) replies.Failed made leaves makes = subst (AllByRecursion IsKeeper) (sym makes.1) (all_append IsKeeper (byte_items me slot at (take makes.0 bytes)) _ (bytes_keep slot at (take makes.0 bytes)) (failed_keeps false, tt))
  made_keep (calls.WriteAt slot at bytes) replies.NoMemory made leaves makes = subst (AllByRecursion IsKeeper) (sym makes.1) (all_append IsKeeper (byte_items me slot at (take makes.0 bytes)) _ (bytes_keep slot at (take makes.0 bytes)) (failed_keeps true, tt))
  made_keep (calls.Tell (notes.Begin request)) replies.Done made leaves makes = subst (AllByRecursion IsKeeper) (sym makes) (record { mine = seat_self me; holds = λ d h. h; tries = λ d. tt }, tt)
  made_keep (calls.Tell (notes.Evict store driver key')) replies.Done made leaves makes = subst (AllByRecursion IsKeeper) (sym makes) (record { mine = seat_self me; holds = λ d h. h; tries = λ d. tt }, tt)
  made_keep (calls.Tell (notes.End answer)) replies.Done made leaves makes = subst (AllByRecursion IsKeeper) (sym makes) (record { mine = seat_self me; holds = λ d h. h; tries = λ d. tt }, tt)
  made_keep (calls.Tell note) replies.Failed made leaves makes = subst (AllByRecursion IsKeeper) (sym makes.1) (failed_keeps false, tt)
  made_keep (calls.Tell note) replies.NoMemory made leaves makes = subst (AllByRecursion IsKeeper) (sym makes.1) tt
  made_keep call replies.Done made leaves makes = subst (AllByRecursion IsKeeper) (sym makes) (did_keeps call replies.Done leaves, tt)
  made_keep call replies.Failed made leaves makes = subst (AllByRecursion IsKeeper) (sym makes.1) (failed_keeps false, tt)
  made_keep call replies.NoMemory made leaves makes = subst (AllByRecursion IsKeeper) (sym makes.1) (failed_keeps true, tt)
  made_keep call reply made leaves makes = subst (AllByRecursion IsKeeper) (sym makes) (did_keeps call reply leaves, tt)

  -- ---- a call begins

  inside_starts : (reply : Reply) (made : List LogItem) (s : State) → Holds s → AllByRecursion IsKeeper made → Doing Inside reply made s
  inside_starts reply [] s h all = h
  inside_starts reply (x ∷ made) s h all = (h, all)

  starts : (stage : LockStage) (call : Call) (reply : Reply) (made : List LogItem) (s : State) → Knows stage s → AsksIn root key stage (Ask call) → Answers true call reply → Makes me true call reply made → Doing stage reply made s
  starts Before call reply made s k asks fits makes = subst (λ (l : List LogItem). Doing Before reply l s) (sym (makes_one me call reply made asks makes)) (tt, looking_steps Before call reply (λ s'. tt) asks, refl)
  starts (Over answer) call reply made s k asks fits makes = subst (λ (l : List LogItem). Doing (Over answer) reply l s) (sym (makes_one me call reply made asks makes)) (tt, looking_steps (Over answer) call reply (λ s'. tt) asks, refl)
  starts Inside call reply made s k asks fits makes = inside_starts reply made s k (made_keep call reply made asks makes)
  starts Entering call reply made s k asks fits makes = entering reply made (subst (λ (c : Call). Answers true c reply) (sym asks) fits) (subst (λ (c : Call). Makes me true c reply made) (sym asks) makes)
    where
      entering : (reply : Reply) (made : List LogItem) → Answers true (calls.OpenNew 0 lock) reply → Makes me true (calls.OpenNew 0 lock) reply made → Doing Entering reply made s
      entering replies.Done made fits makes = subst (λ (l : List LogItem). Doing Entering replies.Done l s) (sym makes) (tt, opening_steps, refl)
      entering replies.Failed made fits makes = subst (λ (l : List LogItem). Doing Entering replies.Failed l s) (sym makes.1) (tt, failed_steps Entering replies.Failed false (λ s'. tt), refl)
      entering replies.NoMemory made fits makes = subst (λ (l : List LogItem). Doing Entering replies.NoMemory l s) (sym makes.1) (tt, failed_steps Entering replies.NoMemory true (λ s'. tt), refl)
      entering reply made fits makes = absurd fits
  starts (Trying again) call reply made s k asks fits makes = trying reply made (subst (λ (c : Call). Answers true c reply) (sym asks) fits) (subst (λ (c : Call). Makes me true c reply made) (sym asks) makes)
    where
      trying : (reply : Reply) (made : List LogItem) → Answers true (calls.TryLock 0) reply → Makes me true (calls.TryLock 0) reply made → Doing (Trying again) reply made s
      trying replies.Done made fits makes = subst (λ (l : List LogItem). Doing (Trying again) replies.Done l s) (sym makes) (k, taking_steps again, refl)
      trying replies.Held made fits makes = subst (λ (l : List LogItem). Doing (Trying again) replies.Held l s) (sym makes) (k, held_steps again, refl)
      trying replies.Failed made fits makes = subst (λ (l : List LogItem). Doing (Trying again) replies.Failed l s) (sym makes.1) (k, failed_steps (Trying again) replies.Failed false (λ s'. tt), refl)
      trying replies.NoMemory made fits makes = subst (λ (l : List LogItem). Doing (Trying again) replies.NoMemory l s) (sym makes.1) (k, failed_steps (Trying again) replies.NoMemory true (λ s'. tt), refl)
      trying reply made fits makes = absurd fits
  starts (Resting again) call reply made s k asks fits makes = resting reply made (subst (λ (c : Call). Answers true c reply) (sym asks) fits) (subst (λ (c : Call). Makes me true c reply made) (sym asks) makes)
    where
      resting : (reply : Reply) (made : List LogItem) → Answers true calls.Pause reply → Makes me true calls.Pause reply made → Doing (Resting again) reply made s
      resting replies.Done made fits makes = subst (λ (l : List LogItem). Doing (Resting again) replies.Done l s) (sym makes) (k, pausing_steps again, refl)
      resting replies.Failed made fits makes = subst (λ (l : List LogItem). Doing (Resting again) replies.Failed l s) (sym makes.1) (k, failed_steps (Resting again) replies.Failed false (λ s'. tt), refl)
      resting replies.NoMemory made fits makes = subst (λ (l : List LogItem). Doing (Resting again) replies.NoMemory l s) (sym makes.1) (k, failed_steps (Resting again) replies.NoMemory true (λ s'. tt), refl)
      resting reply made fits makes = absurd fits

  -- ---- an own item

  right : (s : State) (x : LogItem) → is_own me x ≡ true → IsUnderLock me root key s.disk x → Rule s x
  right s x mine under = record { mine = λ e. under; others = λ other. absurd (false≢true (sym other ∙ mine)) }

  moves_one : (stage : LockStage) (reply : Reply) (x : LogItem) (made : List LogItem) (s : State) → Knows stage s → Steps stage reply x → made ≡ [] → IsLegal s x → Rule s x × Doing stage reply made (after s x)
  moves_one stage reply x made s k steps none legal =
      let g = steps.goes s legal k in
      (right s x steps.mine g.0, subst (λ (l : List LogItem). Doing stage reply l (after s x)) (sym none) g.1)

  moves : (stage : LockStage) (reply : Reply) (x : LogItem) (made : List LogItem) (s : State) → Doing stage reply (x ∷ made) s → IsLegal s x → Rule s x × Doing stage reply made (after s x)
  moves Inside reply x made s d legal =
      let keeps : IsKeeper x = d.1.0 in
      (right s x keeps.mine (record { changes = inr d.0; tries = keeps.tries s.disk }), inside_starts reply made (after s x) (keeps.holds s.disk d.0) d.1.1)
  moves stage reply x made s d legal = moves_one stage reply x made s d.0 d.1 d.2 legal

  -- ---- others' items

  module _ (s : State) (x : LogItem) (other : is_own me x ≡ false) (goes : is_stop me.process x ≡ false) (rule : Rule s x) where
    file_on : HasLockFile s → HasLockFile (after s x)
    file_on k = record { file = k.file; slot = other_slots me s.disk x 0 other goes ∙ k.slot; named = rule.others other k.file k.named }

    holds_on : Holds s → Holds (after s x)
    holds_on h = record { file = h.file; slot = h.slot; named = rule.others other h.file h.named; taken = other_locks me s.disk x h.slot h.file other goes h.taken }

    knows_on : (stage : LockStage) → Knows stage s → Knows stage (after s x)
    knows_on (Trying again) k = file_on k
    knows_on (Resting again) k = file_on k
    knows_on Inside k = holds_on k
    knows_on stage k = tt

    after_on : (stage : LockStage) (reply : Reply) → After stage reply s → After stage reply (after s x)
    after_on Entering replies.Done k = file_on k
    after_on (Trying again) replies.Done k = holds_on k
    after_on (Trying again) replies.Held k = file_on k
    after_on (Resting again) replies.Done k = file_on k
    after_on Inside reply k = holds_on k
    after_on stage reply k = tt

    doing_on : (stage : LockStage) (reply : Reply) (made : List LogItem) → Doing stage reply made s → Doing stage reply made (after s x)
    doing_on stage reply [] d = after_on stage reply d
    doing_on Inside reply (y ∷ made) d = (holds_on d.0, d.1)
    doing_on stage reply (y ∷ made) d = (knows_on stage d.0, d.1, d.2)

  -- ---- the whole

  abbrev Between : FolderPut → State → Type 0
  Between m s = IsOf me root key m × Knows (lock_stage m.phase) s

  abbrev During : FolderPut → Call → Reply → List LogItem → State → Type 0
  During m call reply made s = IsOf me root key m × ((asks_put m ≡ Ask call) × Answers true call reply) × Doing (lock_stage m.phase) reply made s

  inductive : Inductive asks_put asked_put FedPut me after IsLegal Rule Between During
  inductive = record {
    enters = λ m call reply made s inv e fits makes.
        (inv.0, (e, fits), starts (lock_stage m.phase) call reply made s inv.1 (subst (AsksIn root key (lock_stage m.phase)) e (asks_of me root key m inv.0)) fits makes);
    steps = λ m call reply x made s d legal.
        let g = moves (lock_stage m.phase) reply x made s d.2 legal in
        (g.0, (d.0, d.1, g.1));
    others = λ m call reply made x s d other goes legal rule. (d.0, d.1, doing_on s x other goes rule (lock_stage m.phase) reply made d.2);
    between = λ m x s inv other goes legal rule. (inv.0, knows_on s x other goes rule (lock_stage m.phase) inv.1);
    leaves = λ m n call reply s d fed.
        (still_of me root key m n reply d.0 fed, after_knows (lock_stage m.phase) (lock_stage n.phase) reply s (leads_of me root key m n call reply d.1.0 d.1.1 fed) d.2);
  }

  outer : (first : FolderPut) (request : Request) (answer : Answer) → IsOf me root key first → first.phase ≡ Opening First → Outer asks_put me after IsLegal Rule Between (λ s. Unit {0}) first request answer
  outer first request answer of e = record {
    begins = λ s out legal. (
      right s (items.Begin me request) (seat_self me) (calm_under s.disk (items.Begin me request) (nothing_calm me root key s.disk) tt),
      (of, subst (λ (p : PutPhase). Knows (lock_stage p) (after s (items.Begin me request))) (sym e) tt),
    );
    ends = λ m given s inv is fits legal. (right s (items.End me answer) (seat_self me) (calm_under s.disk (items.End me answer) (nothing_calm me root key s.disk) tt), tt);
    outside = λ x s out other goes legal rule. tt;
  }

  -- A put is not the first to change a name or a file without the lock.
  pub held_throughout : (first last : FolderPut) (request : Request) (answer given : Answer) (news : List LogItem) (s : State) (xs : List Exchange) → IsOf me root key first → first.phase ≡ Opening First → Runs asks_put asked_put FedPut me first xs given last → IsEndOf given answer
      → own me news ≡ items.Begin me request ∷ (items_of_all xs ++ items.End me answer ∷ []) → Legal s news → NoStop me.process news → Keeps after Rule me s news
  held_throughout first last request answer given news s xs of e runs is made legal goes =
      (weave_operation asks_put asked_put FedPut me after IsLegal Rule Between During inductive (λ s'. Unit {0}) first request answer (outer first request answer of e) news s [] xs given last tt runs is (append-nil (own me news) ∙ made) legal goes).0

  -- ---- items that change nothing

  pub record IsIdleItem (x : LogItem) : Type 0 where
    pub calm : IsCalm me root key x
    pub tries : (d : Disk) → TriesLock root key d x

  -- a seat whose own items change nothing keeps the rule
  pub idle_keeps : (s : State) (news : List LogItem) → AllByRecursion IsIdleItem (own me news) → Keeps after Rule me s news
  idle_keeps s [] idle = tt
  idle_keeps s (x ∷ news) idle = by_test (is_own me x) refl idle (idle_keeps (after s x) news)
    where
      by_test : (b : Bool) → is_own me x ≡ b → AllByRecursion IsIdleItem (cond b (x ∷ own me news) (own me news)) → (AllByRecursion IsIdleItem (own me news) → Keeps after Rule me (after s x) news) → (is_own me x ≡ true → Rule s x) × (Rule s x → Keeps after Rule me (after s x) news)
      by_test true mine idle' again = (λ e. right s x e (calm_under s.disk x (idle'.0.calm s.disk) (idle'.0.tries s.disk)), λ rule. again idle'.1)
      by_test false other idle' again = (λ e. absurd (false≢true (sym other ∙ e)), λ rule. again idle')

  -- and so its own items change nothing but that the lock file may be there
  pub calm_all : (s : State) (news : List LogItem) → AllByRecursion (IsCalm me root key) (own me news) → All after (OwnMakesLockAlone me root key) s news
  calm_all s [] calm = tt
  calm_all s (x ∷ news) calm = by_test (is_own me x) refl calm (calm_all (after s x) news)
    where
      by_test : (b : Bool) → is_own me x ≡ b → AllByRecursion (IsCalm me root key) (cond b (x ∷ own me news) (own me news)) → (AllByRecursion (IsCalm me root key) (own me news) → All after (OwnMakesLockAlone me root key) (after s x) news) → (is_own me x ≡ true → MakesLockAlone root key s.disk (applied s.disk x)) × All after (OwnMakesLockAlone me root key) (after s x) news
      by_test true mine calm' again = (λ e. calm'.0 s.disk, again calm'.1)
      by_test false other calm' again = (λ e. absurd (false≢true (sym other ∙ e)), again calm')
