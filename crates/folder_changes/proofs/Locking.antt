-- A lock is of a slot that has its file, and another's items leave a seat's locks.
use Rattle.std.proofs.Common.{◌≡◌, ℕ, Bool, true, false, cond, nat_eq, ◌&&◌, List, [], ◌∷◌, take, Option, Some, None, refl, sym, ap, ◌∙◌, subst}
use Rattle.std.proofs.lemmas.Bool.{eqb-true}
use Rattle.cache_types.specs.Seats.{same_seat}
use Rattle.cache_types.specs.declared.name.Name.{Name}
use Rattle.cache_types.specs.declared.seat.Who.{Who}
use Rattle.file_log.specs.Disk.{Disk, Lock, is_slot, is_process, lock_taken, with_slot, made, made_at, rewritten, renamed, locked, freed, stopped, listed}
use Rattle.file_log.specs.Effect.{applied, after_call, done_call}
use Rattle.file_log.specs.Legal.{IsDone, IsReply, CanCome}
use Rattle.file_log.specs.Log.{is_own, is_stop}
use Rattle.file_log.specs.State.{State}
use Rattle.file_log.specs.Writing.{written}
use Rattle.file_log.specs.declared.call.Call.{Call}
use Rattle.file_log.specs.declared.call.Call.TheVariants as calls
use Rattle.file_log.specs.declared.item.LogItem.{LogItem}
use Rattle.file_log.specs.declared.item.LogItem.TheVariants as items
use Rattle.file_log.specs.declared.reply.Reply.{Reply}
use Rattle.file_log.specs.declared.reply.Reply.TheVariants.{Done}
use Rattle.folder_changes.specs.Frame.{lock_of}

-- ---- a lock is of a slot that has its file

abbrev pub AreSlots : Disk → Type 0
AreSlots d = (file : ℕ) (lock : Lock) → d.locks file ≡ Some lock → d.slots lock.who lock.slot ≡ Some file

and_parts : (a b : Bool) → (a && b) ≡ true → (a ≡ true) × (b ≡ true)
and_parts true b e = (refl, e)
and_parts false b e = absurd cc

pub seat_is : (a b : Who) → same_seat a b ≡ true → a ≡ b
seat_is a b e =
    let p = and_parts (nat_eq a.process b.process) (nat_eq a.seat b.seat) e in
    ap (λ (n : ℕ). record { process = n; seat = a.seat }) (eqb-true a.process b.process p.0) ∙ ap (λ (n : ℕ). record { process = b.process; seat = n }) (eqb-true a.seat b.seat p.1)

-- an empty slot gets a file
slots_filled : (d : Disk) (who : Who) (slot : ℕ) (file : Option ℕ) → d.slots who slot ≡ None → AreSlots d → AreSlots (with_slot d who slot file)
slots_filled d who slot file empty a f lock e = by_test (same_seat lock.who who) (nat_eq slot lock.slot) refl refl
  where
    by_test : (x y : Bool) → same_seat lock.who who ≡ x → nat_eq slot lock.slot ≡ y → cond (x && y) file (d.slots lock.who lock.slot) ≡ Some f
    by_test true true p q =
        let there : d.slots lock.who lock.slot ≡ Some f = a f lock e in
        let none : d.slots lock.who lock.slot ≡ None = ap (λ (w : Who). d.slots w lock.slot) (seat_is lock.who who p) ∙ ap (λ (n : ℕ). d.slots who n) (sym (eqb-true slot lock.slot q)) ∙ empty in
        let clash : None ≡ Some f = sym none ∙ there in
        absurd cc
    by_test true false p q = a f lock e
    by_test false y p q = a f lock e

slots_locked : (d : Disk) (who : Who) (slot : ℕ) (o : Option ℕ) → d.slots who slot ≡ o → AreSlots d → AreSlots (locked d who slot o)
slots_locked d who slot None is a f lock e = a f lock e
slots_locked d who slot (Some g) is a f lock e = by_test (nat_eq g f) refl e
  where
    lock_is : (k m : Lock) → Some k ≡ Some m → k ≡ m
    lock_is k m h = cc

    taken : (x : Option Lock) → d.locks g ≡ x → g ≡ f → lock_taken x (record { who = who; slot = slot }) ≡ Some lock → d.slots lock.who lock.slot ≡ Some f
    taken None was same t = subst (λ (m : Lock). d.slots m.who m.slot ≡ Some f) (lock_is (record { who = who; slot = slot }) lock t) (is ∙ ap (λ (n : ℕ). Some n) same)
    taken (Some other) was same t = a f lock (ap d.locks (sym same) ∙ was ∙ t)

    by_test : (b : Bool) → nat_eq g f ≡ b → cond b (lock_taken (d.locks g) (record { who = who; slot = slot })) (d.locks f) ≡ Some lock → d.slots lock.who lock.slot ≡ Some f
    by_test true same t = taken (d.locks g) refl (eqb-true g f same) t
    by_test false same t = a f lock t

slots_freed : (d : Disk) (who : Who) (slot : ℕ) → AreSlots d → AreSlots (freed (with_slot d who slot None) who slot)
slots_freed d who slot a f lock e = by_lock (d.locks f) refl e
  where
    still : (k : Lock) (b : Bool) → (same_seat k.who who && nat_eq slot k.slot) ≡ b → d.locks f ≡ Some k → cond b None (Some k) ≡ Some lock → cond (same_seat lock.who who && nat_eq slot lock.slot) None (d.slots lock.who lock.slot) ≡ Some f
    still k true p was t = absurd cc
    still k false p was t = let same : k ≡ lock = cc in subst (λ (m : Lock). cond (same_seat m.who who && nat_eq slot m.slot) None (d.slots m.who m.slot) ≡ Some f) same (rw p (a f k was))

    by_lock : (x : Option Lock) → d.locks f ≡ x → cond (is_slot x who slot) None x ≡ Some lock → cond (same_seat lock.who who && nat_eq slot lock.slot) None (d.slots lock.who lock.slot) ≡ Some f
    by_lock None was t = absurd cc
    by_lock (Some k) was t = still k (same_seat k.who who && nat_eq slot k.slot) refl was t

slots_stopped : (d : Disk) (process : ℕ) → AreSlots d → AreSlots (stopped d process)
slots_stopped d process a f lock e = by_lock (d.locks f) refl e
  where
    still : (k : Lock) (b : Bool) → nat_eq k.who.process process ≡ b → d.locks f ≡ Some k → cond b None (Some k) ≡ Some lock → cond (nat_eq lock.who.process process) None (d.slots lock.who lock.slot) ≡ Some f
    still k true p was t = absurd cc
    still k false p was t = let same : k ≡ lock = cc in subst (λ (m : Lock). cond (nat_eq m.who.process process) None (d.slots m.who m.slot) ≡ Some f) same (rw p (a f k was))

    by_lock : (x : Option Lock) → d.locks f ≡ x → cond (is_process process x) None x ≡ Some lock → cond (nat_eq lock.who.process process) None (d.slots lock.who lock.slot) ≡ Some f
    by_lock None was t = absurd cc
    by_lock (Some k) was t = still k (nat_eq k.who.process process) refl was t

slots_made : (o : Option ℕ) (d : Disk) (name : Name) → AreSlots d → AreSlots (made_at o d name)
slots_made None d name a = a
slots_made (Some f) d name a = a

empty_made : (o : Option ℕ) (d : Disk) (name : Name) (who : Who) (slot : ℕ) → d.slots who slot ≡ None → (made_at o d name).slots who slot ≡ None
empty_made None d name who slot e = e
empty_made (Some f) d name who slot e = e

slots_written : (d : Disk) (o : Option ℕ) (change : List ℕ → List ℕ) → AreSlots d → AreSlots (rewritten d o change)
slots_written d None change a = a
slots_written d (Some f) change a = a

slots_renamed : (d : Disk) (o : Option ℕ) (from to : Name) → AreSlots d → AreSlots (renamed d o from to)
slots_renamed d None from to a = a
slots_renamed d (Some f) from to a = a

slots_listed : (d : Disk) (text : Option (List ℕ)) → AreSlots d → AreSlots (listed d text)
slots_listed d None a = a
slots_listed d (Some text) a = a

slots_done : (d : Disk) (who : Who) (call : Call) → IsDone d who call → AreSlots d → AreSlots (done_call d who call)
slots_done d who (calls.OpenOld slot name) l a = slots_filled d who slot (d.names name) l.0.empty a
slots_done d who (calls.OpenNew slot name) l a = slots_filled (made d name) who slot ((made d name).names name) (empty_made (d.names name) d name who slot l.empty) (slots_made (d.names name) d name a)
slots_done d who (calls.TryLock slot) l a = slots_locked d who slot (d.slots who slot) refl a
slots_done d who (calls.Cut slot n) l a = slots_written d (d.slots who slot) (take n) a
slots_done d who (calls.Rename from to) l a = slots_renamed d (d.names from) from to a
slots_done d who (calls.Close slot) l a = slots_freed d who slot a
slots_done d who call l a = a

slots_call : (d : Disk) (who : Who) (call : Call) (reply : Reply) → IsReply d who call reply → AreSlots d → AreSlots (after_call d who call reply)
slots_call d who call Done l a = slots_done d who call l a
slots_call d who call reply l a = a

pub slots_then : (s : State) (x : LogItem) → CanCome s x → AreSlots s.disk → AreSlots (applied s.disk x)
slots_then s (items.Did who call reply) can a = slots_call s.disk who call reply can.0 a
slots_then s (items.Byte who slot at value) can a = slots_written s.disk (s.disk.slots who slot) (written at (value ∷ [])) a
slots_then s (items.Stop process) can a = slots_stopped s.disk process a
slots_then s (items.SetList text) can a = slots_listed s.disk text a
slots_then s x can a = a

-- ---- another's items leave a seat's locks

locked_locks : (d : Disk) (who : Who) (slot : ℕ) (mine : Lock) (o : Option ℕ) (f : ℕ) → d.locks f ≡ Some mine → (locked d who slot o).locks f ≡ Some mine
locked_locks d who slot mine None f e = e
locked_locks d who slot mine (Some g) f e = by_test (nat_eq g f) refl
  where
    by_test : (b : Bool) → nat_eq g f ≡ b → cond b (lock_taken (d.locks g) (record { who = who; slot = slot })) (d.locks f) ≡ Some mine
    by_test true is = let same : d.locks g ≡ Some mine = ap d.locks (eqb-true g f is) ∙ e in rw same refl
    by_test false is = e

made_locks : (d : Disk) (name : Name) (o : Option ℕ) (f : ℕ) → (made_at o d name).locks f ≡ d.locks f
made_locks d name None f = refl
made_locks d name (Some g) f = refl

rewritten_locks : (d : Disk) (o : Option ℕ) (change : List ℕ → List ℕ) (f : ℕ) → (rewritten d o change).locks f ≡ d.locks f
rewritten_locks d None change f = refl
rewritten_locks d (Some g) change f = refl

renamed_locks : (d : Disk) (from to : Name) (o : Option ℕ) (f : ℕ) → (renamed d o from to).locks f ≡ d.locks f
renamed_locks d from to None f = refl
renamed_locks d from to (Some g) f = refl

listed_locks : (d : Disk) (text : Option (List ℕ)) (f : ℕ) → (listed d text).locks f ≡ d.locks f
listed_locks d None f = refl
listed_locks d (Some text) f = refl

done_locks : (d : Disk) (me who : Who) (call : Call) (f slot : ℕ) → same_seat me who ≡ false → d.locks f ≡ Some (lock_of me slot) → (done_call d who call).locks f ≡ Some (lock_of me slot)
done_locks d me who (calls.OpenNew at name) f slot o e = made_locks d name (d.names name) f ∙ e
done_locks d me who (calls.TryLock at) f slot o e = locked_locks d who at (lock_of me slot) (d.slots who at) f e
done_locks d me who (calls.Cut at n) f slot o e = rewritten_locks d (d.slots who at) (take n) f ∙ e
done_locks d me who (calls.Rename from to) f slot o e = renamed_locks d from to (d.names from) f ∙ e
done_locks d me who (calls.Close at) f slot o e = rw (e, o) refl
done_locks d me who call f slot o e = e

call_locks : (d : Disk) (me who : Who) (call : Call) (reply : Reply) (f slot : ℕ) → same_seat me who ≡ false → d.locks f ≡ Some (lock_of me slot) → (after_call d who call reply).locks f ≡ Some (lock_of me slot)
call_locks d me who call Done f slot o e = done_locks d me who call f slot o e
call_locks d me who call reply f slot o e = e

pub other_locks : (d : Disk) (me : Who) (x : LogItem) (f slot : ℕ) → is_own me x ≡ false → is_stop me.process x ≡ false → d.locks f ≡ Some (lock_of me slot) → (applied d x).locks f ≡ Some (lock_of me slot)
other_locks d me (items.Did who call reply) f slot o p e = call_locks d me who call reply f slot o e
other_locks d me (items.Byte who at place value) f slot o p e = rewritten_locks d (d.slots who at) (written place (value ∷ [])) f ∙ e
other_locks d me (items.Stop process) f slot o p e = rw (e, p) refl
other_locks d me (items.SetList text) f slot o p e = listed_locks d text f ∙ e
other_locks d me x f slot o p e = e
