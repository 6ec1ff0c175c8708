-- The calls of a put that open its folder's lock file and take the lock, among seats that keep the rules.
use Rattle.std.proofs.Common.{◌≡◌, ◌≢◌, ◌+◌, ◌-◌, inr, ℕ, Bool, true, false, cond, nat_eq, List, ◌∷◌, Option, Some, None, refl, sym, ap, ◌∙◌, subst, append-nil, arith}
use Rattle.std.proofs.lemmas.Bool.{false≢true, eqb-true, eq-eqb}
use Rattle.cache_types.specs.declared.answer.Answer.TheVariants as answers
use Rattle.cache_types.specs.declared.name.Name.{Name}
use Rattle.file_log.specs.declared.call.Call.TheVariants as calls
use Rattle.file_log.specs.declared.item.LogItem.{LogItem}
use Rattle.file_log.specs.declared.item.LogItem.TheVariants.{Did, Begin}
use Rattle.file_log.specs.declared.reply.Reply.{Reply}
use Rattle.file_log.specs.declared.reply.Reply.TheVariants as replies
use Rattle.file_log.specs.Disk.{Disk, made, made_at}
use Rattle.file_log.specs.Log.{History}
use Rattle.file_log.specs.State.{state_of, disk_of}
use Rattle.seat_rules.specs.Changes.{with_item, disk_at}
use Rattle.seat_rules.specs.Kinds.{folder_byte}
use Rattle.seat_rules.specs.Operations.{tries}
use Rattle.seat_rules.proofs.Courses.{inside_then}
use Rattle.seat_rules.proofs.Histories.{disk_then}
use Rattle.seat_rules.proofs.Trying.{tries_more}
use Rattle.folder_changes.specs.Course.{HasTried, IsHeldOff}
use Rattle.folder_changes.specs.Frame.{HasFolder}
use Rattle.folder_changes.proofs.Earning.{meets}
use Rattle.folder_changes.proofs.Keeping.{making_keeps}
use Rattle.folder_store.specs.declared.put_phase.Look.TheVariants.{Second}
use Rattle.folder_store.specs.declared.put_phase.PutPhase.TheVariants.{Opening, OpeningLock, Locking, Pausing, ClosingLock, Ended}
use Rattle.folder_store.specs.declared.put_phase.TheConstants.{LOCK_TRIES}
use Rattle.folder_store.specs.PutPhases.{held}
use Rattle.folder_store.proofs.AmongKnown.{Task, asked_for, lock, In, Holds, Tries, KnowsAt}
use Rattle.folder_store.proofs.PutMakes.{MakesIn}
use Rattle.folder_store.proofs.AmongSteps.{own_rules, asks_at, Steps, into, still_step, failed_now, fails}
use Rattle.folder_store.proofs.Keeping.{within_inner}
use Rattle.folder_store.proofs.LockHeld.{trying_holds}
use Rattle.folder_store.proofs.PutDisks.{same_self, own_slot}
use Rattle.folder_store.proofs.PutLocking.{locked_still}
use Rattle.folder_store.proofs.PutSteps.{AnswersIn, split}

-- a name has a file once it is made
made_named : (d : Disk) (name : Name) (file : Option ℕ) → d.names name ≡ file → (f : ℕ) × ((made_at file d name).names name ≡ Some f)
made_named d name (Some f) e = (f, e)
made_named d name None e = (d.count, rw (same_self name) refl)

module _ (t : Task) where
  -- a pause is no try
  paused : (h : History) (file count : ℕ) → HasTried h t.me (asked_for t) file count → HasTried (with_item h (Did t.me calls.Pause replies.Done)) t.me (asked_for t) file count
  paused h file count k =
      let x : LogItem = Did t.me calls.Pause replies.Done in
      record {
        inside = inside_then h.log x t.me (asked_for t) (within_inner t.me x refl) k.inside;
        earlier = k.earlier;
        all_held =
            tries_more t.me file (disk_at h k.inside.before) (Begin t.me (asked_for t) ∷ k.inside.since) x
            ∙ append-nil (tries t.me file (disk_at h k.inside.before) (Begin t.me (asked_for t) ∷ k.inside.since))
            ∙ k.all_held;
      }

  -- an item that leaves slot 0 and the lock file's name, after which it has tried so often
  tries_own : (again : ℕ) (h : History) (x : LogItem) (file count : ℕ) → (disk_of (with_item h x)).names (lock t) ≡ Some file → (disk_of (with_item h x)).slots t.me 0 ≡ Some file → count + again ≡ 63 → HasTried (with_item h x) t.me (asked_for t) file count → Tries t again (with_item h x)
  tries_own again h x file count named slot counted tried = record { file = file; named = named; slot = slot; count = count; counted = counted; tried = tried }

  pub opening_lock : (bytes : List ℕ) (reply : Reply) (h : History) (x : LogItem) (left : List LogItem) → In t h → KnowsAt t OpeningLock bytes h → AnswersIn (asks_at t OpeningLock bytes) reply → MakesIn t.me (asks_at t OpeningLock bytes) reply (x ∷ left) → Steps t OpeningLock bytes reply h x left
  opening_lock bytes replies.Done h x left i k a ms = split _ x left ms (Steps t OpeningLock bytes replies.Done h) (λ legal.
      let did : LogItem = Did t.me (calls.OpenNew 0 (lock t)) replies.Done in
      let h' : History = with_item h did in
      let d : Disk = disk_of h in
      let within = within_inner t.me did refl in
      let m = made_named d (lock t) (d.names (lock t)) refl in
      let inside = inside_then h.log did t.me (asked_for t) within i.inside in
      let named : (disk_of h').names (lock t) ≡ Some m.0 = ap (λ (e : Disk). e.names (lock t)) (disk_then h did) ∙ m.1 in
      let slot : (disk_of h').slots t.me 0 ≡ Some m.0 = ap (λ (e : Disk). e.slots t.me 0) (disk_then h did) ∙ own_slot t.me t.root t.key (made d (lock t)) 0 ((made d (lock t)).names (lock t)) ∙ m.1 in
      let none : HasTried h' t.me (asked_for t) m.0 0 = record { inside = inside; earlier = tries t.me m.0 (disk_at h' inside.before) (Begin t.me (asked_for t) ∷ inside.since); all_held = sym (append-nil _) } in
      record {
        rules = own_rules h did t.me refl (making_keeps h did t.me (lock t) i.order tt (record { names = λ name. refl; files = λ f. refl }) refl refl (inr refl));
        within = within;
        last = refl;
        evicts = tt;
        follows = into t (Locking (LOCK_TRIES - 1)) bytes h' (k, tries_own (LOCK_TRIES - 1) h did m.0 0 named slot refl none);
      })
  opening_lock bytes replies.Failed h x left i k a ms = split _ x left ms.1 (Steps t OpeningLock bytes replies.Failed h) (fails t false OpeningLock bytes replies.Failed h i (failed_now t h i) (λ h' e. into t (Ended answers.FilesFault) bytes h' e))
  opening_lock bytes replies.NoMemory h x left i k a ms = split _ x left ms.1 (Steps t OpeningLock bytes replies.NoMemory h) (fails t true OpeningLock bytes replies.NoMemory h i tt (λ h' e. into t (Ended answers.NoMemory) bytes h' e))
  opening_lock bytes reply h x left i k a ms = absurd a

  -- ---- it is tried

  pub locking : (again : ℕ) (bytes : List ℕ) (reply : Reply) (h : History) (x : LogItem) (left : List LogItem) → In t h → KnowsAt t (Locking again) bytes h → AnswersIn (asks_at t (Locking again) bytes) reply → MakesIn t.me (asks_at t (Locking again) bytes) reply (x ∷ left) → Steps t (Locking again) bytes reply h x left
  locking again bytes replies.Done h x left i k a ms = split _ x left ms (Steps t (Locking again) bytes replies.Done h) (λ legal.
      let did : LogItem = Did t.me (calls.TryLock 0) replies.Done in
      let h' : History = with_item h did in
      let d : Disk = disk_of h in
      let taken = trying_holds t.me t.root t.key (state_of h) (record { file = k.1.file; slot = k.1.slot; named = k.1.named }) legal.1.0.1 in
      let holds : Holds t h' = subst (λ (e : Disk). HasFolder e t.me t.root (folder_byte t.key)) (sym (disk_then h did)) taken in
      still_step t (Locking again) bytes replies.Done h did i refl tt tt (locked_still d t.me 0 (d.slots t.me 0)) (into t (Opening Second) bytes h' (k.0, holds)))
  locking again bytes replies.Held h x left i k a ms = split _ x left ms (Steps t (Locking again) bytes replies.Held h) (λ legal.
      still_step t (Locking again) bytes replies.Held h did i refl tt tt (record { names = λ name. refl; files = λ f. refl }) (into t (held again) bytes h' (held_knows (nat_eq again 0) refl)))
    where
      did : LogItem
      did = Did t.me (calls.TryLock 0) replies.Held

      h' : History
      h' = with_item h (Did t.me (calls.TryLock 0) replies.Held)

      last : again ≡ 0 → IsHeldOff h' t.me (asked_for t)
      last none =
          let all : k.1.count ≡ 63 = omega (arith, none, k.1.counted) in
          (meets h (Did t.me (calls.TryLock 0) replies.Held) t.me (asked_for t) (within_inner t.me (Did t.me (calls.TryLock 0) replies.Held) refl)).is_last k.1.file 0 (lock t) refl k.1.slot k.1.named (eq-eqb t.root t.root refl)
          (subst (HasTried h t.me (asked_for t) k.1.file) all k.1.tried)

      once_more : again ≢ 0 → Tries t (again - 1) h'
      once_more some =
          tries_own (again - 1) h (Did t.me (calls.TryLock 0) replies.Held) k.1.file (k.1.count + 1) (ap (λ (e : Disk). e.names (lock t)) (disk_then h (Did t.me (calls.TryLock 0) replies.Held)) ∙ k.1.named)
          (ap (λ (e : Disk). e.slots t.me 0) (disk_then h (Did t.me (calls.TryLock 0) replies.Held)) ∙ k.1.slot) (omega (arith, some, k.1.counted))
          ((meets h (Did t.me (calls.TryLock 0) replies.Held) t.me (asked_for t) (within_inner t.me (Did t.me (calls.TryLock 0) replies.Held) refl)).tries_again k.1.file k.1.count 0 refl k.1.slot k.1.tried)

      held_knows : (b : Bool) → nat_eq again 0 ≡ b → KnowsAt t (cond b (ClosingLock answers.Busy) (Pausing (again - 1))) bytes h'
      held_knows true e = last (eqb-true again 0 e)
      held_knows false e = (k.0, once_more (λ same. false≢true (sym e ∙ eq-eqb again 0 same)))
  locking again bytes replies.Failed h x left i k a ms = split _ x left ms.1 (Steps t (Locking again) bytes replies.Failed h) (fails t false (Locking again) bytes replies.Failed h i (failed_now t h i) (λ h' e. into t (ClosingLock answers.FilesFault) bytes h' e))
  locking again bytes replies.NoMemory h x left i k a ms = split _ x left ms.1 (Steps t (Locking again) bytes replies.NoMemory h) (fails t true (Locking again) bytes replies.NoMemory h i tt (λ h' e. into t (ClosingLock answers.NoMemory) bytes h' e))
  locking again bytes reply h x left i k a ms = absurd a

  pub pausing : (again : ℕ) (bytes : List ℕ) (reply : Reply) (h : History) (x : LogItem) (left : List LogItem) → In t h → KnowsAt t (Pausing again) bytes h → AnswersIn (asks_at t (Pausing again) bytes) reply → MakesIn t.me (asks_at t (Pausing again) bytes) reply (x ∷ left) → Steps t (Pausing again) bytes reply h x left
  pausing again bytes replies.Done h x left i k a ms = split _ x left ms (Steps t (Pausing again) bytes replies.Done h) (λ legal.
      let did : LogItem = Did t.me calls.Pause replies.Done in
      let tried = tries_own again h did k.1.file k.1.count (ap (λ (e : Disk). e.names (lock t)) (disk_then h did) ∙ k.1.named) (ap (λ (e : Disk). e.slots t.me 0) (disk_then h did) ∙ k.1.slot) k.1.counted (paused h k.1.file k.1.count k.1.tried) in
      still_step t (Pausing again) bytes replies.Done h did i refl tt tt (record { names = λ name. refl; files = λ f. refl }) (into t (Locking again) bytes (with_item h did) (k.0, tried)))
  pausing again bytes replies.Failed h x left i k a ms = split _ x left ms.1 (Steps t (Pausing again) bytes replies.Failed h) (fails t false (Pausing again) bytes replies.Failed h i (failed_now t h i) (λ h' e. into t (ClosingLock answers.FilesFault) bytes h' e))
  pausing again bytes replies.NoMemory h x left i k a ms = split _ x left ms.1 (Steps t (Pausing again) bytes replies.NoMemory h) (fails t true (Pausing again) bytes replies.NoMemory h i tt (λ h' e. into t (ClosingLock answers.NoMemory) bytes h' e))
  pausing again bytes reply h x left i k a ms = absurd a
