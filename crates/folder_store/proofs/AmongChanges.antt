-- The calls of a put that tell an eviction, make, cut and rename the temporary file, and close files, among seats that keep the rules.
use Rattle.std.specs.List.{Contains}
use Rattle.std.proofs.Common.{◌≡◌, inl, inr, ℕ, Bool, true, false, List, [], ◌∷◌, ◌++◌, take, Option, Some, None, IsSomeAnd, refl, sym, ap, ◌∙◌, subst, append_assoc}
use Rattle.std.proofs.lemmas.List.Elements.{Contains-append_left, Contains-push}
use Rattle.cache_types.specs.Driver.{DriverKeys, Fronts}
use Rattle.cache_types.specs.declared.answer.Answer.{Answer}
use Rattle.cache_types.specs.declared.answer.Answer.TheVariants as answers
use Rattle.cache_types.specs.declared.name.Name.{Name}
use Rattle.cache_types.specs.declared.name.Name.TheVariants.{Entry, Temp, FolderLock}
use Rattle.file_log.specs.declared.call.Call.TheVariants as calls
use Rattle.file_log.specs.declared.item.LogItem.{LogItem}
use Rattle.file_log.specs.declared.item.LogItem.TheVariants.{Did, Begin, Evict}
use Rattle.file_log.specs.declared.reply.Reply.{Reply}
use Rattle.file_log.specs.declared.reply.Reply.TheVariants as replies
use Rattle.file_log.specs.Disk.{Disk, file_of, made_at, rewritten}
use Rattle.file_log.specs.Effect.{applied}
use Rattle.file_log.specs.Log.{History, WasPut, seat_of}
use Rattle.file_log.specs.Operation.{IsStill}
use Rattle.file_log.specs.State.{disk_of}
use Rattle.file_log.proofs.All.{seat_self}
use Rattle.disk_laws.proofs.Tidiness.{tidy}
use Rattle.item_frame.specs.Item.{Reads}
use Rattle.seat_rules.specs.Changes.{with_item, may_write}
use Rattle.seat_rules.specs.Address.{address}
use Rattle.layout_rules.specs.Parts.{Gives}
use Rattle.folder_rules.specs.Holds.{FileReads}
use Rattle.seat_rules.specs.Kinds.{folder_byte}
use Rattle.seat_rules.specs.Operations.{is_bound}
use Rattle.layout_rules.specs.Rules.{AnswersAreEarned, KeepsRules}
use Rattle.folder_rules.specs.Whole.{folder_of, IsPutItem}
use Rattle.seat_rules.proofs.Histories.{disk_then}
use Rattle.folder_changes.specs.Own.{IsReplacing}
use Rattle.folder_changes.proofs.Earning.{sees, meets}
use Rattle.folder_changes.proofs.Keeping.{making_keeps, writing_keeps, installing_keeps}
use Rattle.folder_changes.proofs.Replacing.{replacing_evicts}
use Rattle.folder_store.specs.declared.put_phase.Besides.{Besides}
use Rattle.folder_store.specs.declared.put_phase.Besides.TheVariants.{Lock, LockAndTemp}
use Rattle.folder_store.specs.declared.put_phase.PutPhase.TheVariants.{Evicting, Making, Cutting, Writing, Renaming, ClosingEntry, ClosingTemp, ClosingLock, Ended}
use Rattle.folder_store.specs.PutPhases.{closing}
use Rattle.folder_store.proofs.AmongKnown.{Task, asked_for, place, In, Holds, Going, HasWritten, Told, KnowsAt, told_then, going_then}
use Rattle.folder_store.proofs.PutMakes.{MakesIn}
use Rattle.folder_store.proofs.AmongSteps.{own_rules, asks_at, Steps, into, closing_knows, still_step, holds_own, failed_now, fails}
use Rattle.folder_store.proofs.Keeping.{within_inner}
use Rattle.folder_store.proofs.PutDisks.{HasTemp, lock_no_temp, apart_entry, making_apart, making_has, writing_apart, writing_has, renaming_is}
use Rattle.folder_store.proofs.PutSteps.{AnswersIn, split}

made_locks : (d : Disk) (name : Name) (o : Option ℕ) (f : ℕ) → (made_at o d name).locks f ≡ d.locks f
made_locks d name None f = refl
made_locks d name (Some g) f = refl

module _ (t : Task) where
  abbrev temp_name : Name
  temp_name = Temp t.root t.key

  abbrev entry_name : Name
  entry_name = Entry t.root t.key

  abbrev lock_file : Name
  lock_file = FolderLock t.root (folder_byte t.key)

  -- who has the folder's lock may write its temporary files
  may_temp : (h : History) → Holds t h → may_write (disk_of h) t.me temp_name ≡ true
  may_temp h o = rw (o.named, o.taken, seat_self t.me) refl

  -- ---- the eviction

  pub evicting : (driver : DriverKeys) (bytes : List ℕ) (reply : Reply) (h : History) (x : LogItem) (left : List LogItem) → In t h → KnowsAt t (Evicting driver) bytes h → AnswersIn (asks_at t (Evicting driver) bytes) reply → MakesIn t.me (asks_at t (Evicting driver) bytes) reply (x ∷ left) → Steps t (Evicting driver) bytes reply h x left
  evicting driver bytes replies.Done h x left i k a ms = split _ x left ms (Steps t (Evicting driver) bytes replies.Done h) (λ legal.
      let evict : LogItem = Evict t.me (folder_of t.root) driver t.key in
      let h' : History = with_item h evict in
      let opened = (meets h evict t.me (asked_for t) (within_inner t.me evict refl)).opens (address (folder_of t.root) driver t.key) refl in
      let same : file_of (disk_of h') entry_name ≡ Some k.2.0 = ap (λ (d : Disk). file_of d entry_name) (disk_then h evict) ∙ k.2.1 in
      let replacing : IsReplacing h'.log t.me t.root t.key (Some k.2.0) = inr (driver, k.2.2, opened) in
      let front : IsSomeAnd (file_of (disk_of h) entry_name) (λ bytes'. Fronts bytes' driver) = subst (λ (o : Option (List ℕ)). IsSomeAnd o (λ bytes'. Fronts bytes' driver)) (sym k.2.1) k.2.2 in
      let going : Going t h' = record { holds = holds_own t h evict refl (λ f. refl) k.1; replacing = subst (IsReplacing h'.log t.me t.root t.key) (sym same) replacing } in
      still_step t (Evicting driver) bytes replies.Done h evict i refl (asked_for t, i.inside, refl) (refl, refl, front) (record { names = λ name. refl; files = λ f. refl }) (into t (Making true) bytes h' (k.0, going)))
  evicting driver bytes replies.NoMemory h x left i k a ms = let clash : x ∷ left ≡ [] = ms.1 in absurd cc
  evicting driver bytes reply h x left i k a ms = absurd a

  -- ---- the temporary file

  pub making : (also : Bool) (bytes : List ℕ) (reply : Reply) (h : History) (x : LogItem) (left : List LogItem) → In t h → KnowsAt t (Making also) bytes h → AnswersIn (asks_at t (Making also) bytes) reply → MakesIn t.me (asks_at t (Making also) bytes) reply (x ∷ left) → Steps t (Making also) bytes reply h x left
  making also bytes replies.Done h x left i k a ms = split _ x left ms (Steps t (Making also) bytes replies.Done h) (λ legal.
      let did : LogItem = Did t.me (calls.OpenNew 3 temp_name) replies.Done in
      let h' : History = with_item h did in
      let d : Disk = disk_of h in
      let within = within_inner t.me did refl in
      let apart = making_apart t.me t.root t.key d (tidy h) in
      let holds = holds_own t h did (apart.names lock_file (lock_no_temp t.root t.root t.key t.key)) (made_locks d temp_name (d.names temp_name)) k.1.holds in
      let going = going_then t h did within holds (apart_entry t.me t.root t.key d (applied d did) apart) k.1 in
      let has = making_has t.me t.root t.key d (tidy h) in
      let written : HasWritten t h' has.0 = subst (λ (e : Disk). HasTemp e t.me t.root t.key has.0) (sym (disk_then h did)) has.1 in
      record {
        rules = own_rules h did t.me refl (making_keeps h did t.me temp_name i.order tt (record { names = λ name. refl; files = λ f. refl }) refl refl (inl (may_temp h k.1.holds)));
        within = within;
        last = refl;
        evicts = tt;
        follows = into t (Cutting also) bytes h' (k.0, going, (has.0, written));
      })
  making also bytes replies.Failed h x left i k a ms = split _ x left ms.1 (Steps t (Making also) bytes replies.Failed h) (fails t false (Making also) bytes replies.Failed h i (failed_now t h i) (λ h' e. into t (closing answers.FilesFault also Lock) bytes h' (closing_knows t answers.FilesFault also Lock bytes h' e)))
  making also bytes replies.NoMemory h x left i k a ms = split _ x left ms.1 (Steps t (Making also) bytes replies.NoMemory h) (fails t true (Making also) bytes replies.NoMemory h i tt (λ h' e. into t (closing answers.NoMemory also Lock) bytes h' (closing_knows t answers.NoMemory also Lock bytes h' e)))
  making also bytes reply h x left i k a ms = absurd a

  -- an item that changes the temporary file's bytes alone
  pub record Changed (h : History) (x : LogItem) (content : List ℕ) : Type 0 where
    pub rules : KeepsRules h x
    pub going : Going t (with_item h x)
    pub written : HasWritten t (with_item h x) content

  pub changed : (h : History) (x : LogItem) (content : List ℕ) (change : List ℕ → List ℕ) → In t h → seat_of x ≡ Some t.me → is_bound x ≡ false → AnswersAreEarned h x → applied (disk_of h) x ≡ rewritten (disk_of h) ((disk_of h).slots t.me 3) change → Going t h → HasWritten t h content → Changed h x (change content)
  changed h x content change i mine inner earned is g w =
      let d : Disk = disk_of h in
      let new : Disk = rewritten d (d.slots t.me 3) change in
      let within = within_inner t.me x inner in
      let apart = writing_apart t.me t.root t.key d content change (tidy h) w in
      let names : (applied d x).names lock_file ≡ d.names lock_file = ap (λ (e : Disk). e.names lock_file) is ∙ apart.names lock_file (lock_no_temp t.root t.root t.key t.key) in
      let holds = holds_own t h x names (λ f. ap (λ (e : Disk). e.locks f) is ∙ locks f (d.slots t.me 3)) g.holds in
      let same : IsStill (rewritten d (Some w.file) change) (applied d x) = subst (IsStill (rewritten d (Some w.file) change)) (sym is) (subst (λ (o : Option ℕ). IsStill (rewritten d (Some w.file) change) (rewritten d o change)) (sym w.slot) (record { names = λ name. refl; files = λ f. refl })) in
      record {
        rules = own_rules h x t.me mine (writing_keeps h x t.me temp_name w.file change i.order earned w.named same refl (may_temp h g.holds));
        going = going_then t h x within holds (ap (λ (e : Disk). file_of e entry_name) is ∙ apart_entry t.me t.root t.key d new apart) g;
        written = subst (λ (e : Disk). HasTemp e t.me t.root t.key (change content)) (sym (disk_then h x ∙ is)) (writing_has t.me t.root t.key d content change w);
      }
    where
      locks : (f : ℕ) (o : Option ℕ) → (rewritten (disk_of h) o change).locks f ≡ (disk_of h).locks f
      locks f None = refl
      locks f (Some g') = refl

  pub cutting : (also : Bool) (bytes : List ℕ) (reply : Reply) (h : History) (x : LogItem) (left : List LogItem) → In t h → KnowsAt t (Cutting also) bytes h → AnswersIn (asks_at t (Cutting also) bytes) reply → MakesIn t.me (asks_at t (Cutting also) bytes) reply (x ∷ left) → Steps t (Cutting also) bytes reply h x left
  cutting also bytes replies.Done h x left i k a ms = split _ x left ms (Steps t (Cutting also) bytes replies.Done h) (λ legal.
      let did : LogItem = Did t.me (calls.Cut 3 0) replies.Done in
      let c : Changed h did [] = changed h did k.2.0 (take 0) i refl refl tt refl k.1 k.2.1 in
      record { rules = c.rules; within = within_inner t.me did refl; last = refl; evicts = tt; follows = into t (Writing also) bytes (with_item h did) (k.0, c.going, c.written) })
  cutting also bytes replies.Failed h x left i k a ms = split _ x left ms.1 (Steps t (Cutting also) bytes replies.Failed h) (fails t false (Cutting also) bytes replies.Failed h i (failed_now t h i) (λ h' e. into t (closing answers.FilesFault also LockAndTemp) bytes h' (closing_knows t answers.FilesFault also LockAndTemp bytes h' e)))
  cutting also bytes replies.NoMemory h x left i k a ms = split _ x left ms.1 (Steps t (Cutting also) bytes replies.NoMemory h) (fails t true (Cutting also) bytes replies.NoMemory h i tt (λ h' e. into t (closing answers.NoMemory also LockAndTemp) bytes h' (closing_knows t answers.NoMemory also LockAndTemp bytes h' e)))
  cutting also bytes reply h x left i k a ms = absurd a

  -- ---- the rename

  -- what was asked for was put
  was_put : (h : History) → In t h → WasPut h.log (folder_of t.root) t.driver t.key t.blob
  was_put h i =
      let begin : LogItem = Begin t.me (asked_for t) in
      let there : Contains ((i.inside.before ++ begin ∷ []) ++ i.inside.since) begin = Contains-append_left (i.inside.before ++ begin ∷ []) i.inside.since begin (Contains-push i.inside.before begin) in
      (t.me, t.meta, t.limit, subst (λ (l : List LogItem). Contains l begin) (append_assoc i.inside.before (begin ∷ []) i.inside.since ∙ sym i.inside.log_is) there)

  pub renaming : Reads t.driver t.item t.blob → (also : Bool) (bytes : List ℕ) (reply : Reply) (h : History) (x : LogItem) (left : List LogItem) → In t h → KnowsAt t (Renaming also) bytes h → AnswersIn (asks_at t (Renaming also) bytes) reply → MakesIn t.me (asks_at t (Renaming also) bytes) reply (x ∷ left) → Steps t (Renaming also) bytes reply h x left
  renaming reads also bytes replies.Done h x left i k a ms = split _ x left ms (Steps t (Renaming also) bytes replies.Done h) (λ legal.
      let did : LogItem = Did t.me (calls.Rename temp_name entry_name) replies.Done in
      let d : Disk = disk_of h in
      let within = within_inner t.me did refl in
      let item : IsPutItem h.log t.root t.key (d.files k.1.file) = record { driver = t.driver; blob = t.blob; reads = subst (λ (b : List ℕ). Reads t.driver b t.blob) (sym k.1.bytes) reads; put = was_put h i } in
      let r = renaming_is t.me t.root t.key d t.item k.1 in
      let stored : Told t answers.Stored (with_item h did) = sees h did t.me (asked_for t) (λ e. Gives e (place t) t.blob) within (seat_self t.me) i.inside (subst (λ (o : Option (List ℕ)). FileReads o t.driver t.blob) (sym r.entry_is) reads) in
      record {
        rules = own_rules h did t.me refl (installing_keeps h t.me t.root t.key k.1.file i.order k.1.named k.0.holds item (replacing_evicts h t.me t.root t.key k.0.replacing));
        within = within;
        last = refl;
        evicts = tt;
        follows = into t (closing answers.Stored also LockAndTemp) bytes (with_item h did) (closing_knows t answers.Stored also LockAndTemp bytes (with_item h did) stored);
      })
  renaming reads also bytes replies.Failed h x left i k a ms = split _ x left ms.1 (Steps t (Renaming also) bytes replies.Failed h) (fails t false (Renaming also) bytes replies.Failed h i (failed_now t h i) (λ h' e. into t (closing answers.FilesFault also LockAndTemp) bytes h' (closing_knows t answers.FilesFault also LockAndTemp bytes h' e)))
  renaming reads also bytes replies.NoMemory h x left i k a ms = split _ x left ms.1 (Steps t (Renaming also) bytes replies.NoMemory h) (fails t true (Renaming also) bytes replies.NoMemory h i tt (λ h' e. into t (closing answers.NoMemory also LockAndTemp) bytes h' (closing_knows t answers.NoMemory also LockAndTemp bytes h' e)))
  renaming reads also bytes reply h x left i k a ms = absurd a

  -- ---- the end

  pub closing_entry : (answer : Answer) (besides : Besides) (bytes : List ℕ) (reply : Reply) (h : History) (x : LogItem) (left : List LogItem) → In t h → KnowsAt t (ClosingEntry answer besides) bytes h → AnswersIn (asks_at t (ClosingEntry answer besides) bytes) reply → MakesIn t.me (asks_at t (ClosingEntry answer besides) bytes) reply (x ∷ left) → Steps t (ClosingEntry answer besides) bytes reply h x left
  closing_entry answer besides bytes replies.Done h x left i k a ms = split _ x left ms (Steps t (ClosingEntry answer besides) bytes replies.Done h) (λ legal.
      let did : LogItem = Did t.me (calls.Close 1) replies.Done in
      let told = told_then t answer h did (within_inner t.me did refl) k in
      still_step t (ClosingEntry answer besides) bytes replies.Done h did i refl tt tt (record { names = λ name. refl; files = λ f. refl }) (into t (closing answer false besides) bytes (with_item h did) (closing_knows t answer false besides bytes (with_item h did) told)))
  closing_entry answer besides bytes reply h x left i k a ms = absurd a

  pub closing_temp : (answer : Answer) (bytes : List ℕ) (reply : Reply) (h : History) (x : LogItem) (left : List LogItem) → In t h → KnowsAt t (ClosingTemp answer) bytes h → AnswersIn (asks_at t (ClosingTemp answer) bytes) reply → MakesIn t.me (asks_at t (ClosingTemp answer) bytes) reply (x ∷ left) → Steps t (ClosingTemp answer) bytes reply h x left
  closing_temp answer bytes replies.Done h x left i k a ms = split _ x left ms (Steps t (ClosingTemp answer) bytes replies.Done h) (λ legal.
      let did : LogItem = Did t.me (calls.Close 3) replies.Done in
      still_step t (ClosingTemp answer) bytes replies.Done h did i refl tt tt (record { names = λ name. refl; files = λ f. refl }) (into t (ClosingLock answer) bytes (with_item h did) (told_then t answer h did (within_inner t.me did refl) k)))
  closing_temp answer bytes reply h x left i k a ms = absurd a

  pub closing_lock : (answer : Answer) (bytes : List ℕ) (reply : Reply) (h : History) (x : LogItem) (left : List LogItem) → In t h → KnowsAt t (ClosingLock answer) bytes h → AnswersIn (asks_at t (ClosingLock answer) bytes) reply → MakesIn t.me (asks_at t (ClosingLock answer) bytes) reply (x ∷ left) → Steps t (ClosingLock answer) bytes reply h x left
  closing_lock answer bytes replies.Done h x left i k a ms = split _ x left ms (Steps t (ClosingLock answer) bytes replies.Done h) (λ legal.
      let did : LogItem = Did t.me (calls.Close 0) replies.Done in
      still_step t (ClosingLock answer) bytes replies.Done h did i refl tt tt (record { names = λ name. refl; files = λ f. refl }) (into t (Ended answer) bytes (with_item h did) (told_then t answer h did (within_inner t.me did refl) k)))
  closing_lock answer bytes reply h x left i k a ms = absurd a
