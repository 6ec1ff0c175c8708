-- The calls of a put that open its folder's lock file and take the lock.
use Rattle.std.proofs.Common.{◌≡◌, ℕ, Bool, true, false, cond, nat_eq, ◌-◌, List, ◌∷◌, Option, Some, None, refl, sym, ap, ◌∙◌}
use Rattle.std.proofs.lemmas.Bool.{false≢true}
use Rattle.cache_types.specs.declared.answer.Answer.TheVariants as answers
use Rattle.cache_types.specs.declared.name.Name.{Name}
use Rattle.cache_types.specs.declared.seat.Who.{Who}
use Rattle.file_log.specs.declared.call.Call.TheVariants as calls
use Rattle.file_log.specs.declared.item.LogItem.{LogItem}
use Rattle.file_log.specs.declared.item.LogItem.TheVariants.{Did}
use Rattle.file_log.specs.declared.reply.Reply.{Reply}
use Rattle.file_log.specs.declared.reply.Reply.TheVariants as replies
use Rattle.file_log.specs.Disk.{Disk, lock_in, locked, made}
use Rattle.file_log.specs.Legal.{is_held, is_slot_held}
use Rattle.file_log.specs.Operation.{IsStill}
use Rattle.file_log.proofs.All.{seat_self}
use Rattle.folder_store.specs.declared.put_phase.Look.TheVariants.{Second}
use Rattle.folder_store.specs.declared.put_phase.PutPhase.TheVariants.{Opening, OpeningLock, Locking, Pausing, ClosingLock, Ended}
use Rattle.folder_store.specs.declared.put_phase.TheConstants.{LOCK_TRIES}
use Rattle.folder_store.specs.Locking.{lock_name}
use Rattle.folder_store.specs.PutPhases.{held}
use Rattle.folder_store.proofs.LockDisks.{opening_alone, alone_elsewhere, alone_entry, opening_free}
use Rattle.folder_store.proofs.PutDisks.{own_slot}
use Rattle.folder_store.proofs.PutKnown.{Job, Place, step, Base, Ready, HasLock, KnowsAt, rests_goes, ready_on}
use Rattle.folder_store.proofs.PutRules.{quiet, changed_by}
use Rattle.folder_store.proofs.PutMakes.{MakesIn}
use Rattle.folder_store.proofs.PutSteps.{AnswersIn, split, asks_at, Steps, into, ready_excused, fails}

-- taking a lock changes no name and no file
pub locked_still : (d : Disk) (by : Who) (slot : ℕ) (file : Option ℕ) → IsStill d (locked d by slot file)
locked_still d by slot None = record { names = λ name. refl; files = λ f. refl }
locked_still d by slot (Some g) = record { names = λ name. refl; files = λ f. refl }

module _ (j : Job) where
  abbrev lock : Name
  lock = lock_name j.root j.key

  pub opening_lock : (bytes : List ℕ) (reply : Reply) (p : Place) (x : LogItem) (left : List LogItem) → Base j p → KnowsAt j OpeningLock bytes p → AnswersIn (asks_at j OpeningLock bytes) reply → MakesIn j.me (asks_at j OpeningLock bytes) reply (x ∷ left) → Steps j OpeningLock bytes reply p x left
  opening_lock bytes replies.Done p x left b k a ms = split _ x left ms (Steps j OpeningLock bytes replies.Done p) (λ legal.
      let did : LogItem = Did j.me (calls.OpenNew 0 lock) replies.Done in
      let p' : Place = step j.me p did in
      let d : Disk = p.state.disk in
      let alone = opening_alone j.me j.root j.key d in
      let c = changed_by j p did b refl refl refl tt tt (alone_elsewhere j.me j.root j.key d p'.state.disk b.tidy alone) (alone_entry j.me j.root j.key d p'.state.disk b.tidy alone) (opening_free j.me j.root j.key d b.tidy) in
      let has : HasLock j p' = λ is. own_slot j.me j.root j.key (made d lock) 0 ((made d lock).names lock) in
      record { right = c.right; base = c.base; last = refl; follows = into j (Locking (LOCK_TRIES - 1)) bytes p' (k.0, ready_on j p p' c.goes k.1, has) })
  opening_lock bytes replies.Failed p x left b k a ms = split _ x left ms.1 (Steps j OpeningLock bytes replies.Failed p) (fails j false OpeningLock bytes replies.Failed p b (ready_excused j p k.1) (λ p' e. into j (Ended answers.FilesFault) bytes p' e))
  opening_lock bytes replies.NoMemory p x left b k a ms = split _ x left ms.1 (Steps j OpeningLock bytes replies.NoMemory p) (fails j true OpeningLock bytes replies.NoMemory p b (ready_excused j p k.1) (λ p' e. into j (Ended answers.NoMemory) bytes p' e))
  opening_lock bytes reply p x left b k a ms = absurd a

  -- where no other seat has an item, none holds the lock
  never_held : (p : Place) → Base j p → HasLock j p → is_slot_held p.state.disk j.me 0 ≡ true → j.alone ≡ true → ⊥
  never_held p b has stuck alone =
      let free : is_slot_held p.state.disk j.me 0 ≡ false = ap (λ (file : Option ℕ). is_held j.me (lock_in p.state.disk file)) (has alone) ∙ b.free alone in
      false≢true (sym free ∙ stuck)

  pub locking : (again : ℕ) (bytes : List ℕ) (reply : Reply) (p : Place) (x : LogItem) (left : List LogItem) → Base j p → KnowsAt j (Locking again) bytes p → AnswersIn (asks_at j (Locking again) bytes) reply → MakesIn j.me (asks_at j (Locking again) bytes) reply (x ∷ left) → Steps j (Locking again) bytes reply p x left
  locking again bytes replies.Done p x left b k a ms = split _ x left ms (Steps j (Locking again) bytes replies.Done p) (λ legal.
      let did : LogItem = Did j.me (calls.TryLock 0) replies.Done in
      let q = quiet j p did b (seat_self j.me) refl refl refl tt tt (locked_still p.state.disk j.me 0 (p.state.disk.slots j.me 0)) in
      let p' : Place = step j.me p did in
      record { right = q.right; base = q.base; last = refl; follows = into j (Opening Second) bytes p' (k.0, ready_on j p p' (rests_goes j p p' q.rests) k.1) })
  locking again bytes replies.Held p x left b k a ms = split _ x left ms (Steps j (Locking again) bytes replies.Held p) (λ legal.
      let did : LogItem = Did j.me (calls.TryLock 0) replies.Held in
      let q = quiet j p did b (seat_self j.me) refl refl refl tt tt (record { names = λ name. refl; files = λ f. refl }) in
      let p' : Place = step j.me p did in
      let ready = ready_on j p p' (rests_goes j p p' q.rests) k.1 in
      record { right = q.right; base = q.base; last = refl; follows = into j (held again) bytes p' (held_knows p' (nat_eq again 0) ready k.2 (never_held p b k.2 legal.1.0.1)) })
    where
      held_knows : (p' : Place) (t : Bool) → Ready j p' → HasLock j p' → (j.alone ≡ true → ⊥) → KnowsAt j (cond t (ClosingLock answers.Busy) (Pausing (again - 1))) bytes p'
      held_knows p' true ready has never = never
      held_knows p' false ready has never = (k.0, ready, has)
  locking again bytes replies.Failed p x left b k a ms = split _ x left ms.1 (Steps j (Locking again) bytes replies.Failed p) (fails j false (Locking again) bytes replies.Failed p b (ready_excused j p k.1) (λ p' e. into j (ClosingLock answers.FilesFault) bytes p' e))
  locking again bytes replies.NoMemory p x left b k a ms = split _ x left ms.1 (Steps j (Locking again) bytes replies.NoMemory p) (fails j true (Locking again) bytes replies.NoMemory p b (ready_excused j p k.1) (λ p' e. into j (ClosingLock answers.NoMemory) bytes p' e))
  locking again bytes reply p x left b k a ms = absurd a

  pub pausing : (again : ℕ) (bytes : List ℕ) (reply : Reply) (p : Place) (x : LogItem) (left : List LogItem) → Base j p → KnowsAt j (Pausing again) bytes p → AnswersIn (asks_at j (Pausing again) bytes) reply → MakesIn j.me (asks_at j (Pausing again) bytes) reply (x ∷ left) → Steps j (Pausing again) bytes reply p x left
  pausing again bytes replies.Done p x left b k a ms = split _ x left ms (Steps j (Pausing again) bytes replies.Done p) (λ legal.
      let did : LogItem = Did j.me calls.Pause replies.Done in
      let q = quiet j p did b (seat_self j.me) refl refl refl tt tt (record { names = λ name. refl; files = λ f. refl }) in
      let p' : Place = step j.me p did in
      record { right = q.right; base = q.base; last = refl; follows = into j (Locking again) bytes p' (k.0, ready_on j p p' (rests_goes j p p' q.rests) k.1, k.2) })
  pausing again bytes replies.Failed p x left b k a ms = split _ x left ms.1 (Steps j (Pausing again) bytes replies.Failed p) (fails j false (Pausing again) bytes replies.Failed p b (ready_excused j p k.1) (λ p' e. into j (ClosingLock answers.FilesFault) bytes p' e))
  pausing again bytes replies.NoMemory p x left b k a ms = split _ x left ms.1 (Steps j (Pausing again) bytes replies.NoMemory p) (fails j true (Pausing again) bytes replies.NoMemory p b (ready_excused j p k.1) (λ p' e. into j (ClosingLock answers.NoMemory) bytes p' e))
  pausing again bytes reply p x left b k a ms = absurd a
