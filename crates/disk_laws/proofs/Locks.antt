-- The locks of a seat are left alone by the items of others, unless its process is stopped; and its own items give no other seat a lock.
use Rattle.std.proofs.Common.{◌≡◌, ◌≤◌, ℕ, Bool, true, false, cond, nat_eq, List, [], ◌∷◌, length, drop, take, fold, Option, Some, None, refl, ap, ◌∙◌, arith}
use Rattle.std.proofs.lemmas.Bool.{false≢true, eqb-true}
use Rattle.cache_types.specs.Seats.{same_seat}
use Rattle.cache_types.specs.declared.name.Name.{Name}
use Rattle.cache_types.specs.declared.seat.Who.{Who}
use Rattle.file_log.specs.declared.call.Call.{Call}
use Rattle.file_log.specs.declared.call.Call.TheVariants as calls
use Rattle.file_log.specs.declared.item.LogItem.{LogItem}
use Rattle.file_log.specs.declared.item.LogItem.TheVariants as items
use Rattle.file_log.specs.declared.reply.Reply.{Reply}
use Rattle.file_log.specs.declared.reply.Reply.TheVariants.{Done}
use Rattle.file_log.specs.Disk.{Disk, Lock, made_at, rewritten, renamed, locked, lock_taken, freed, is_slot, listed}
use Rattle.file_log.specs.Effect.{applied, after_call, done_call}
use Rattle.file_log.specs.Legal.{is_held}
use Rattle.file_log.specs.Log.{History, is_own, own, is_stop}
use Rattle.file_log.specs.State.{State, first, after, disk_of}
use Rattle.file_log.specs.Writing.{written}
use Rattle.disk_laws.specs.Locks.{lock_by, NoOtherHolds}

-- ---- changes that take and free no lock

made_locks : (file : Option ℕ) (d : Disk) (name : Name) (f : ℕ) → (made_at file d name).locks f ≡ d.locks f
made_locks None d name f = refl
made_locks (Some g) d name f = refl

rewritten_locks : (d : Disk) (file : Option ℕ) (change : List ℕ → List ℕ) (f : ℕ) → (rewritten d file change).locks f ≡ d.locks f
rewritten_locks d None change f = refl
rewritten_locks d (Some g) change f = refl

renamed_locks : (d : Disk) (file : Option ℕ) (from to : Name) (f : ℕ) → (renamed d file from to).locks f ≡ d.locks f
renamed_locks d None from to f = refl
renamed_locks d (Some g) from to f = refl

listed_locks : (d : Disk) (text : Option (List ℕ)) (f : ℕ) → (listed d text).locks f ≡ d.locks f
listed_locks d None f = refl
listed_locks d (Some text) f = refl

-- ---- another's items leave a lock that a seat has

module _ (me : Who) where
  -- a lock is taken
  locked_leaves : (d : Disk) (by : Who) (at : ℕ) (file : Option ℕ) (slot f : ℕ) → d.locks f ≡ lock_by me slot → (locked d by at file).locks f ≡ lock_by me slot
  locked_leaves d by at None slot f e = e
  locked_leaves d by at (Some g) slot f e = by_test (nat_eq g f) refl
    where
      by_test : (b : Bool) → nat_eq g f ≡ b → cond b (lock_taken (d.locks g) (record { who = by; slot = at })) (d.locks f) ≡ lock_by me slot
      by_test true same = let one : d.locks g ≡ lock_by me slot = ap d.locks (eqb-true g f same) ∙ e in rw one refl
      by_test false other = e

  -- a slot of another seat is closed
  freed_leaves : (d : Disk) (by : Who) (at slot f : ℕ) → same_seat me by ≡ false → d.locks f ≡ lock_by me slot → (freed d by at).locks f ≡ lock_by me slot
  freed_leaves d by at slot f other e = rw (e, other) refl

  call_leaves : (d : Disk) (by : Who) (call : Call) (slot f : ℕ) → same_seat me by ≡ false → d.locks f ≡ lock_by me slot → (done_call d by call).locks f ≡ lock_by me slot
  call_leaves d by (calls.OpenNew at name) slot f other e = made_locks (d.names name) d name f ∙ e
  call_leaves d by (calls.TryLock at) slot f other e = locked_leaves d by at (d.slots by at) slot f e
  call_leaves d by (calls.Cut at n) slot f other e = rewritten_locks d (d.slots by at) (take n) f ∙ e
  call_leaves d by (calls.Rename from to) slot f other e = renamed_locks d (d.names from) from to f ∙ e
  call_leaves d by (calls.Close at) slot f other e = rw (e, other) refl
  call_leaves d by call slot f other e = e

  reply_leaves : (d : Disk) (by : Who) (call : Call) (reply : Reply) (slot f : ℕ) → same_seat me by ≡ false → d.locks f ≡ lock_by me slot → (after_call d by call reply).locks f ≡ lock_by me slot
  reply_leaves d by call Done slot f other e = call_leaves d by call slot f other e
  reply_leaves d by call reply slot f other e = e

  pub other_locks : (d : Disk) (item : LogItem) (slot f : ℕ) → is_own me item ≡ false → is_stop me.process item ≡ false → d.locks f ≡ lock_by me slot → (applied d item).locks f ≡ lock_by me slot
  other_locks d (items.Did who call reply) slot f other goes e = reply_leaves d who call reply slot f other e
  other_locks d (items.Byte who at place value) slot f other goes e = rewritten_locks d (d.slots who at) (written place (value ∷ [])) f ∙ e
  other_locks d (items.Stop process) slot f other goes e = rw (e, goes) refl
  other_locks d (items.SetList text) slot f other goes e = listed_locks d text f ∙ e
  other_locks d item slot f other goes e = e

  -- ---- own items give no other seat a lock

  abbrev IsMine : Option Lock → Type 0
  IsMine lock = is_held me lock ≡ false

  locked_mine : (d : Disk) (by : Who) (at : ℕ) (file : Option ℕ) (f : ℕ) → same_seat me by ≡ true → IsMine (d.locks f) → IsMine ((locked d by at file).locks f)
  locked_mine d by at None f mine e = e
  locked_mine d by at (Some g) f mine e = by_test (nat_eq g f) refl
    where
      taken : (lock : Option Lock) → IsMine lock → IsMine (lock_taken lock (record { who = by; slot = at }))
      taken None is = rw mine refl
      taken (Some other) is = is

      by_test : (b : Bool) → nat_eq g f ≡ b → IsMine (cond b (lock_taken (d.locks g) (record { who = by; slot = at })) (d.locks f))
      by_test true same = taken (d.locks g) (ap (λ (k : ℕ). is_held me (d.locks k)) (eqb-true g f same) ∙ e)
      by_test false other = e

  freed_mine : (b : Bool) (lock : Option Lock) → IsMine lock → IsMine (cond b None lock)
  freed_mine true lock e = refl
  freed_mine false lock e = e

  call_mine : (d : Disk) (by : Who) (call : Call) (f : ℕ) → same_seat me by ≡ true → IsMine (d.locks f) → IsMine ((done_call d by call).locks f)
  call_mine d by (calls.OpenNew at name) f mine e = ap (is_held me) (made_locks (d.names name) d name f) ∙ e
  call_mine d by (calls.TryLock at) f mine e = locked_mine d by at (d.slots by at) f mine e
  call_mine d by (calls.Cut at n) f mine e = ap (is_held me) (rewritten_locks d (d.slots by at) (take n) f) ∙ e
  call_mine d by (calls.Rename from to) f mine e = ap (is_held me) (renamed_locks d (d.names from) from to f) ∙ e
  call_mine d by (calls.Close at) f mine e = freed_mine (is_slot (d.locks f) by at) (d.locks f) e
  call_mine d by call f mine e = e

  reply_mine : (d : Disk) (by : Who) (call : Call) (reply : Reply) (f : ℕ) → same_seat me by ≡ true → IsMine (d.locks f) → IsMine ((after_call d by call reply).locks f)
  reply_mine d by call Done f mine e = call_mine d by call f mine e
  reply_mine d by call reply f mine e = e

  -- what no other seat holds is held by none after an own item
  pub own_locks : (d : Disk) (item : LogItem) (f : ℕ) → is_own me item ≡ true → is_held me (d.locks f) ≡ false → is_held me ((applied d item).locks f) ≡ false
  own_locks d (items.Did who call reply) f mine e = reply_mine d who call reply f mine e
  own_locks d (items.Byte who at place value) f mine e = ap (is_held me) (rewritten_locks d (d.slots who at) (written place (value ∷ [])) f) ∙ e
  own_locks d (items.Stop process) f mine e = absurd (false≢true mine)
  own_locks d (items.SetList text) f mine e = absurd (false≢true mine)
  own_locks d item f mine e = e

  -- ---- where all items are own

  no_more : (log : List LogItem) → length (own me log) ≤ length log
  no_more [] = omega arith
  no_more (x ∷ log) = by_test (is_own me x) (no_more log)
    where
      by_test : (t : Bool) → length (own me log) ≤ length log → length (cond t (x ∷ own me log) (own me log)) ≤ length (x ∷ log)
      by_test true less = omega (arith, less)
      by_test false less = omega (arith, less)

  -- no other seat holds a lock after items that are all this one's, where none did before them
  pub lone_from : (s : State) (log : List LogItem) → own me log ≡ log → NoOtherHolds me s.disk → NoOtherHolds me (fold after s log).disk
  lone_from s [] e none = none
  lone_from s (x ∷ log) e none = by_test (is_own me x) refl e (lone_from (after s x) log)
    where
      by_test : (t : Bool) → is_own me x ≡ t → cond t (x ∷ own me log) (own me log) ≡ x ∷ log → (own me log ≡ log → NoOtherHolds me (after s x).disk → NoOtherHolds me (fold after (after s x) log).disk) → NoOtherHolds me (fold after (after s x) log).disk
      by_test true mine same again = again (ap (drop 1) same) (λ f. own_locks s.disk x f mine (none f))
      by_test false other same again = absurd (omega (arith, ap length same, no_more log))

  pub lone : (h : History) → own me h.log ≡ h.log → NoOtherHolds me (disk_of h)
  lone h e = lone_from (first h.start) h.log e (λ f. refl)
