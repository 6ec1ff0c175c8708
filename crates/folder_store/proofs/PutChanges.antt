-- The calls of a put that tell an eviction, make, cut and rename the temporary file, and close both files.
use Rattle.std.proofs.Common.{◌≡◌, inl, inr, ℕ, Bool, true, false, List, [], ◌∷◌, take, Option, Some, refl, sym, ◌∙◌, subst}
use Rattle.cache_types.specs.Driver.{DriverKeys, Fronts}
use Rattle.cache_types.specs.declared.answer.Answer.{Answer}
use Rattle.cache_types.specs.declared.answer.Answer.TheVariants as answers
use Rattle.cache_types.specs.declared.name.Name.{Name}
use Rattle.cache_types.specs.declared.name.Name.TheVariants.{Entry, Temp}
use Rattle.cache_types.proofs.OneDriver.{one_front}
use Rattle.file_log.specs.declared.call.Call.TheVariants as calls
use Rattle.file_log.specs.declared.item.LogItem.{LogItem}
use Rattle.file_log.specs.declared.item.LogItem.TheVariants.{Did, Evict}
use Rattle.file_log.specs.declared.reply.Reply.{Reply}
use Rattle.file_log.specs.declared.reply.Reply.TheVariants as replies
use Rattle.file_log.specs.Operation.{IsStill}
use Rattle.file_log.proofs.All.{seat_self}
use Rattle.disk_laws.proofs.Tidiness.{item_tidy}
use Rattle.folder_store.specs.declared.put_phase.Besides.{Besides}
use Rattle.folder_store.specs.declared.put_phase.Besides.TheVariants.{Lock, LockAndTemp}
use Rattle.folder_store.specs.declared.put_phase.PutPhase.TheVariants.{Evicting, Making, Cutting, Writing, Renaming, ClosingEntry, ClosingTemp, ClosingLock, Ended}
use Rattle.seat_rules.specs.Address.{address}
use Rattle.seat_rules.specs.Operations.{EvictIsOpen}
use Rattle.folder_rules.specs.Whole.{folder_of}
use Rattle.folder_store.specs.Put.{TellsReplaced}
use Rattle.folder_store.specs.PutPhases.{closing}
use Rattle.folder_store.proofs.PutDisks.{same_bytes, making_apart, making_has, writing_apart, writing_has, renaming_is}
use Rattle.folder_store.proofs.PutKnown.{Job, Place, step, put_item_on, Base, Going, HasWritten, Replaced, KnowsAt, Passes, base_on, going_on, answered_on}
use Rattle.folder_store.proofs.PutRules.{whole_then, whole_still, stays_free, quiet, changed}
use Rattle.folder_store.proofs.PutMakes.{MakesIn}
use Rattle.folder_store.proofs.PutSteps.{AnswersIn, split, asks_at, Steps, into, closing_knows, going_excused, fails}

module _ (j : Job) where
  abbrev entry_name : Name
  entry_name = Entry j.root j.key

  abbrev temp_name : Name
  temp_name = Temp j.root j.key

  -- ---- the eviction

  pub evicting : (driver : DriverKeys) (bytes : List ℕ) (reply : Reply) (p : Place) (x : LogItem) (left : List LogItem) → Base j p → KnowsAt j (Evicting driver) bytes p → AnswersIn (asks_at j (Evicting driver) bytes) reply → MakesIn j.me (asks_at j (Evicting driver) bytes) reply (x ∷ left) → Steps j (Evicting driver) bytes reply p x left
  evicting driver bytes replies.Done p x left b k a ms = split _ x left ms (Steps j (Evicting driver) bytes replies.Done p) (λ legal.
      let evict : LogItem = Evict j.me (folder_of j.root) driver j.key in
      let p' : Place = step j.me p evict in
      let told : p'.told ≡ evict ∷ [] = rw (seat_self j.me, k.1.quiet) refl in
      let whole : List ℕ = k.2.0 in
      let still : IsStill p.state.disk p.state.disk = record { names = λ name. refl; files = λ f. refl } in
      let base : Base j p' = record { tidy = b.tidy; begun = put_item_on p.log (evict ∷ []) j.root j.key j.item b.begun; elsewhere = b.elsewhere; free = b.free } in
      let tells : TellsReplaced j.me j.root j.key (Some whole) p'.told = inl (driver, k.2.2, told) in
      let opened : EvictIsOpen p'.log j.me (address (folder_of j.root) driver j.key) = record { before = p.log; later = []; log_is = refl; is_open = tt } in
      let going : Going j p' = record {
        entry = k.1.entry;
        lacks = k.1.lacks;
        replaced = subst (λ (o : Option (List ℕ)). TellsReplaced j.me j.root j.key o p'.told) (sym k.2.1) tells;
        told = λ bytes' driver' is fronts.
            let same : bytes' ≡ whole = same_bytes bytes' whole (sym is ∙ k.2.1) in
            let one : driver ≡ driver' = one_front whole driver driver' k.2.2 (subst (λ (l : List ℕ). Fronts l driver') same fronts) in
            subst (λ (d : DriverKeys). EvictIsOpen p'.log j.me (address (folder_of j.root) d j.key)) one opened;
      } in
      record {
        right = record { whole = whole_still p.log p.state.disk p.state.disk evict still; replaces = tt; ends = tt };
        base = base;
        last = refl;
        follows = into j (Making true) bytes p' (k.0, going);
      })
  evicting driver bytes replies.NoMemory p x left b k a ms = let clash : x ∷ left ≡ [] = ms.1 in absurd cc
  evicting driver bytes reply p x left b k a ms = absurd a

  -- ---- the temporary file

  pub making : (entry : Bool) (bytes : List ℕ) (reply : Reply) (p : Place) (x : LogItem) (left : List LogItem) → Base j p → KnowsAt j (Making entry) bytes p → AnswersIn (asks_at j (Making entry) bytes) reply → MakesIn j.me (asks_at j (Making entry) bytes) reply (x ∷ left) → Steps j (Making entry) bytes reply p x left
  making entry bytes replies.Done p x left b k a ms = split _ x left ms (Steps j (Making entry) bytes replies.Done p) (λ legal.
      let did : LogItem = Did j.me (calls.OpenNew 3 temp_name) replies.Done in
      let c = changed j p did b (seat_self j.me) refl refl refl tt tt (making_apart j.me j.root j.key p.state.disk b.tidy) in
      let p' : Place = step j.me p did in
      let has = making_has j.me j.root j.key p.state.disk b.tidy in
      record { right = c.right; base = c.base; last = refl; follows = into j (Cutting entry) bytes p' (k.0, going_on j p p' c.goes k.1, has) })
  making entry bytes replies.Failed p x left b k a ms = split _ x left ms.1 (Steps j (Making entry) bytes replies.Failed p) (fails j false (Making entry) bytes replies.Failed p b (going_excused j p k.1) (λ p' e. into j (closing answers.FilesFault entry Lock) bytes p' (closing_knows j answers.FilesFault entry Lock bytes p' e)))
  making entry bytes replies.NoMemory p x left b k a ms = split _ x left ms.1 (Steps j (Making entry) bytes replies.NoMemory p) (fails j true (Making entry) bytes replies.NoMemory p b (going_excused j p k.1) (λ p' e. into j (closing answers.NoMemory entry Lock) bytes p' (closing_knows j answers.NoMemory entry Lock bytes p' e)))
  making entry bytes reply p x left b k a ms = absurd a

  pub cutting : (entry : Bool) (bytes : List ℕ) (reply : Reply) (p : Place) (x : LogItem) (left : List LogItem) → Base j p → KnowsAt j (Cutting entry) bytes p → AnswersIn (asks_at j (Cutting entry) bytes) reply → MakesIn j.me (asks_at j (Cutting entry) bytes) reply (x ∷ left) → Steps j (Cutting entry) bytes reply p x left
  cutting entry bytes replies.Done p x left b k a ms = split _ x left ms (Steps j (Cutting entry) bytes replies.Done p) (λ legal.
      let did : LogItem = Did j.me (calls.Cut 3 0) replies.Done in
      let c = changed j p did b (seat_self j.me) refl refl refl tt tt (writing_apart j.me j.root j.key p.state.disk k.2.0 (take 0) b.tidy k.2.1) in
      let p' : Place = step j.me p did in
      let has : HasWritten j p' [] = writing_has j.me j.root j.key p.state.disk k.2.0 (take 0) k.2.1 in
      record { right = c.right; base = c.base; last = refl; follows = into j (Writing entry) bytes p' (k.0, going_on j p p' c.goes k.1, has) })
  cutting entry bytes replies.Failed p x left b k a ms = split _ x left ms.1 (Steps j (Cutting entry) bytes replies.Failed p) (fails j false (Cutting entry) bytes replies.Failed p b (going_excused j p k.1) (λ p' e. into j (closing answers.FilesFault entry LockAndTemp) bytes p' (closing_knows j answers.FilesFault entry LockAndTemp bytes p' e)))
  cutting entry bytes replies.NoMemory p x left b k a ms = split _ x left ms.1 (Steps j (Cutting entry) bytes replies.NoMemory p) (fails j true (Cutting entry) bytes replies.NoMemory p b (going_excused j p k.1) (λ p' e. into j (closing answers.NoMemory entry LockAndTemp) bytes p' (closing_knows j answers.NoMemory entry LockAndTemp bytes p' e)))
  cutting entry bytes reply p x left b k a ms = absurd a

  pub renaming : (entry : Bool) (bytes : List ℕ) (reply : Reply) (p : Place) (x : LogItem) (left : List LogItem) → Base j p → KnowsAt j (Renaming entry) bytes p → AnswersIn (asks_at j (Renaming entry) bytes) reply → MakesIn j.me (asks_at j (Renaming entry) bytes) reply (x ∷ left) → Steps j (Renaming entry) bytes reply p x left
  renaming entry bytes replies.Done p x left b k a ms = split _ x left ms (Steps j (Renaming entry) bytes replies.Done p) (λ legal.
      let did : LogItem = Did j.me (calls.Rename temp_name entry_name) replies.Done in
      let p' : Place = step j.me p did in
      let r = renaming_is j.me j.root j.key p.state.disk j.item k.1 in
      let passes : Passes j p p' = record { x = did; log = refl; no_end = refl; base = refl; told = refl; tidy = item_tidy p.state.disk did b.tidy; elsewhere = λ alone. r.elsewhere; free = λ alone. stays_free j p.state.disk did (seat_self j.me) r.lock } in
      let replaced : Replaced j p' = record { lacks = k.0.lacks; entry = r.entry_is; no_temp = r.no_temp; told = k.0.replaced } in
      record {
        right = record {
          whole = whole_then j p.log p.state.disk p'.state.disk did r.elsewhere (inr r.entry_is) b.begun;
          replaces = λ bytes' driver is fronts. k.0.told bytes' driver (sym k.0.entry ∙ is) fronts;
          ends = tt;
        };
        base = base_on j p p' passes b;
        last = refl;
        follows = into j (closing answers.Stored entry LockAndTemp) bytes p' (closing_knows j answers.Stored entry LockAndTemp bytes p' replaced);
      })
  renaming entry bytes replies.Failed p x left b k a ms = split _ x left ms.1 (Steps j (Renaming entry) bytes replies.Failed p) (fails j false (Renaming entry) bytes replies.Failed p b (going_excused j p k.0) (λ p' e. into j (closing answers.FilesFault entry LockAndTemp) bytes p' (closing_knows j answers.FilesFault entry LockAndTemp bytes p' e)))
  renaming entry bytes replies.NoMemory p x left b k a ms = split _ x left ms.1 (Steps j (Renaming entry) bytes replies.NoMemory p) (fails j true (Renaming entry) bytes replies.NoMemory p b (going_excused j p k.0) (λ p' e. into j (closing answers.NoMemory entry LockAndTemp) bytes p' (closing_knows j answers.NoMemory entry LockAndTemp bytes p' e)))
  renaming entry bytes reply p x left b k a ms = absurd a

  -- ---- the end

  pub closing_entry : (answer : Answer) (besides : Besides) (bytes : List ℕ) (reply : Reply) (p : Place) (x : LogItem) (left : List LogItem) → Base j p → KnowsAt j (ClosingEntry answer besides) bytes p → AnswersIn (asks_at j (ClosingEntry answer besides) bytes) reply → MakesIn j.me (asks_at j (ClosingEntry answer besides) bytes) reply (x ∷ left) → Steps j (ClosingEntry answer besides) bytes reply p x left
  closing_entry answer besides bytes replies.Done p x left b k a ms = split _ x left ms (Steps j (ClosingEntry answer besides) bytes replies.Done p) (λ legal.
      let did : LogItem = Did j.me (calls.Close 1) replies.Done in
      let q = quiet j p did b (seat_self j.me) refl refl refl tt tt (record { names = λ name. refl; files = λ f. refl }) in
      let p' : Place = step j.me p did in
      record { right = q.right; base = q.base; last = refl; follows = into j (closing answer false besides) bytes p' (closing_knows j answer false besides bytes p' (answered_on j answer p p' q.rests k)) })
  closing_entry answer besides bytes reply p x left b k a ms = absurd a

  pub closing_temp : (answer : Answer) (bytes : List ℕ) (reply : Reply) (p : Place) (x : LogItem) (left : List LogItem) → Base j p → KnowsAt j (ClosingTemp answer) bytes p → AnswersIn (asks_at j (ClosingTemp answer) bytes) reply → MakesIn j.me (asks_at j (ClosingTemp answer) bytes) reply (x ∷ left) → Steps j (ClosingTemp answer) bytes reply p x left
  closing_temp answer bytes replies.Done p x left b k a ms = split _ x left ms (Steps j (ClosingTemp answer) bytes replies.Done p) (λ legal.
      let did : LogItem = Did j.me (calls.Close 3) replies.Done in
      let q = quiet j p did b (seat_self j.me) refl refl refl tt tt (record { names = λ name. refl; files = λ f. refl }) in
      let p' : Place = step j.me p did in
      record { right = q.right; base = q.base; last = refl; follows = into j (ClosingLock answer) bytes p' (answered_on j answer p p' q.rests k) })
  closing_temp answer bytes reply p x left b k a ms = absurd a

  pub closing_lock : (answer : Answer) (bytes : List ℕ) (reply : Reply) (p : Place) (x : LogItem) (left : List LogItem) → Base j p → KnowsAt j (ClosingLock answer) bytes p → AnswersIn (asks_at j (ClosingLock answer) bytes) reply → MakesIn j.me (asks_at j (ClosingLock answer) bytes) reply (x ∷ left) → Steps j (ClosingLock answer) bytes reply p x left
  closing_lock answer bytes replies.Done p x left b k a ms = split _ x left ms (Steps j (ClosingLock answer) bytes replies.Done p) (λ legal.
      let did : LogItem = Did j.me (calls.Close 0) replies.Done in
      let q = quiet j p did b (seat_self j.me) refl refl refl tt tt (record { names = λ name. refl; files = λ f. refl }) in
      let p' : Place = step j.me p did in
      record { right = q.right; base = q.base; last = refl; follows = into j (Ended answer) bytes p' (answered_on j answer p p' q.rests k) })
  closing_lock answer bytes reply p x left b k a ms = absurd a
