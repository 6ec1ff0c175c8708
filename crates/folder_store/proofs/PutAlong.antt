-- A put along the log, between its calls and within one: its own items keep the rules among seats.
use Rattle.std.proofs.Common.{◌≡◌, inl, inr, ℕ, true, false, nat_eq, List, [], ◌∷◌, length, sym, ap, ◌∙◌, subst}
use Rattle.cache_types.specs.Driver.{DriverKeys}
use Rattle.cache_types.specs.declared.answer.Answer.{Answer}
use Rattle.cache_types.specs.declared.answer.Answer.TheVariants as answers
use Rattle.cache_types.specs.declared.key.Key.{Key}
use Rattle.cache_types.specs.declared.request.Request.{Request}
use Rattle.file_log.specs.declared.call.Call.{Call}
use Rattle.file_log.specs.declared.item.LogItem.{LogItem}
use Rattle.file_log.specs.declared.item.LogItem.TheVariants.{End}
use Rattle.file_log.specs.declared.reply.Reply.{Reply}
use Rattle.file_log.specs.declared.reply.Reply.TheVariants as replies
use Rattle.file_log.specs.Effect.{applied}
use Rattle.file_log.specs.Exchange.{Answers, Makes}
use Rattle.file_log.specs.Log.{History, is_own, is_stop}
use Rattle.file_log.specs.State.{disk_of}
use Rattle.files_api.specs.declared.machine.Step.{Step}
use Rattle.files_api.specs.declared.machine.Step.TheVariants as steps
use Rattle.files_api.specs.Drive.{IsEndOf}
use Rattle.files_api.proofs.Weave.{Inductive}
use Rattle.item_frame.specs.Item.{Reads}
use Rattle.seat_rules.specs.Changes.{with_item}
use Rattle.layout_rules.specs.Rules.{KeepsRules}
use Rattle.folder_changes.specs.Frame.{Leaves}
use Rattle.folder_changes.proofs.Framing.{others_leave}
use Rattle.folder_store.specs.declared.put.FolderPut.{FolderPut}
use Rattle.folder_store.specs.declared.put_phase.Besides.TheVariants.{Lock}
use Rattle.folder_store.specs.declared.put_phase.Look.TheVariants.{First}
use Rattle.folder_store.specs.declared.put_phase.PutPhase.{PutPhase}
use Rattle.folder_store.specs.declared.put_phase.PutPhase.TheVariants.{Opening, Measuring, Reading, ReadingFront, Leaving, OpeningLock, Locking, Pausing, Evicting, Evicted, Making, Cutting, Writing, Renaming, ClosingEntry, ClosingTemp, ClosingLock, Ended, Spent}
use Rattle.folder_store.specs.PutPhases.{IsNewPut, asks_put, asks_put_in, asked_put, after_put_asking, item_after, FedPut, NextPut}
use Rattle.folder_store.proofs.AmongChanges.{evicting, making, cutting, renaming, closing_entry, closing_temp, closing_lock}
use Rattle.folder_store.proofs.AmongKnown.{Task, asked_for, In, Told, KnowsAt, going_other, written_other, knows_other, told_earns}
use Rattle.folder_store.proofs.AmongLock.{opening_lock, locking, pausing}
use Rattle.folder_store.proofs.AmongLooks.{opening, measuring, reading, reading_front, leaving}
use Rattle.folder_store.proofs.AmongSteps.{asks_at, Stepped, Follows, into}
use Rattle.folder_store.proofs.AmongWrites.{Doing, Moved, writing, writing_starts}
use Rattle.folder_store.proofs.Keeping.{CanFollow, within_other, in_then, end_rules}
use Rattle.folder_store.proofs.PutMakes.{MakesIn, none_asked}
use Rattle.folder_store.proofs.PutSteps.{AnswersIn}

module _ (t : Task) (some : nat_eq (length t.item) 0 ≡ false) (reads : Reads t.driver t.item t.blob) where
  -- the machine is this put's
  pub record IsFor (m : FolderPut) : Type 0 where
    pub root : m.root ≡ t.root
    pub driver : m.driver ≡ t.driver
    pub key : m.key ≡ t.key

  abbrev this_put : Request
  this_put = asked_for t

  abbrev pub Between : FolderPut → History → Type 0
  Between m h = IsFor m × In t h × KnowsAt t m.phase m.item h

  abbrev pub During : FolderPut → Call → Reply → List LogItem → History → Type 0
  During m call reply made h = IsFor m × In t h × Doing t m.phase m.item reply made h

  -- ---- a call begins

  starts : (phase : PutPhase) (bytes : List ℕ) (reply : Reply) (made : List LogItem) (h : History) → KnowsAt t phase bytes h → AnswersIn (asks_at t phase bytes) reply → MakesIn t.me (asks_at t phase bytes) reply made → Doing t phase bytes reply made h
  starts (Writing also) bytes reply made h k a ms = writing_starts t also bytes reply made h some k a ms
  starts (Evicting driver) bytes replies.NoMemory [] h k a ms = into t (ClosingEntry answers.NoMemory Lock) bytes h tt
  starts (Evicting driver) bytes replies.Done [] h k a ms = absurd cc
  starts (Evicting driver) bytes reply [] h k a ms = absurd a
  starts (Opening look) bytes reply [] h k a ms = absurd (none_asked t.me (asks_at t (Opening look) bytes) reply tt ms)
  starts (Measuring look) bytes reply [] h k a ms = absurd (none_asked t.me (asks_at t (Measuring look) bytes) reply tt ms)
  starts (Reading look n) bytes reply [] h k a ms = absurd (none_asked t.me (asks_at t (Reading look n) bytes) reply tt ms)
  starts ReadingFront bytes reply [] h k a ms = absurd (none_asked t.me (asks_at t ReadingFront bytes) reply tt ms)
  starts Leaving bytes reply [] h k a ms = absurd (none_asked t.me (asks_at t Leaving bytes) reply tt ms)
  starts OpeningLock bytes reply [] h k a ms = absurd (none_asked t.me (asks_at t OpeningLock bytes) reply tt ms)
  starts (Locking again) bytes reply [] h k a ms = absurd (none_asked t.me (asks_at t (Locking again) bytes) reply tt ms)
  starts (Pausing again) bytes reply [] h k a ms = absurd (none_asked t.me (asks_at t (Pausing again) bytes) reply tt ms)
  starts (Making also) bytes reply [] h k a ms = absurd (none_asked t.me (asks_at t (Making also) bytes) reply tt ms)
  starts (Cutting also) bytes reply [] h k a ms = absurd (none_asked t.me (asks_at t (Cutting also) bytes) reply tt ms)
  starts (Renaming also) bytes reply [] h k a ms = absurd (none_asked t.me (asks_at t (Renaming also) bytes) reply tt ms)
  starts (ClosingEntry answer besides) bytes reply [] h k a ms = absurd (none_asked t.me (asks_at t (ClosingEntry answer besides) bytes) reply tt ms)
  starts (ClosingTemp answer) bytes reply [] h k a ms = absurd (none_asked t.me (asks_at t (ClosingTemp answer) bytes) reply tt ms)
  starts (ClosingLock answer) bytes reply [] h k a ms = absurd (none_asked t.me (asks_at t (ClosingLock answer) bytes) reply tt ms)
  starts phase bytes reply [] h k a ms = absurd a
  starts phase bytes reply (x ∷ made) h k a ms = (k, a, ms)

  asks_is : (m : FolderPut) → IsFor m → asks_at t m.phase m.item ≡ asks_put m
  asks_is m for = ap (λ (k : Key). asks_put_in t.root k m.item m.phase) (sym for.key) ∙ ap (λ (r : ℕ). asks_put_in r m.key m.item m.phase) (sym for.root)

  enters : (m : FolderPut) (call : Call) (reply : Reply) (made : List LogItem) (h : History) → Between m h → asks_put m ≡ steps.Ask call → Answers true call reply → Makes t.me true call reply made → During m call reply made h
  enters m call reply made h b e a ms =
      let is : steps.Ask call ≡ asks_at t m.phase m.item = sym (asks_is m b.0 ∙ e) in
      (b.0, b.1, starts m.phase m.item reply made h b.2 (subst (λ (s : Step). AnswersIn s reply) is a) (subst (λ (s : Step). MakesIn t.me s reply made) is ms))

  -- ---- an own item

  follows : (phase : PutPhase) (bytes : List ℕ) (reply : Reply) (h : History) (x : LogItem) (made : List LogItem) → Stepped t phase bytes reply h x made → Moved t phase bytes reply h x made
  follows phase bytes reply h x made s = record { rules = s.rules; within = s.within; evicts = s.evicts; does = subst (λ (l : List LogItem). Doing t phase bytes reply l (with_item h x)) (sym s.last) s.follows }

  pub moves : (phase : PutPhase) (bytes : List ℕ) (reply : Reply) (x : LogItem) (made : List LogItem) (h : History) → In t h → Doing t phase bytes reply (x ∷ made) h → CanFollow h x → Moved t phase bytes reply h x made
  moves (Opening look) bytes reply x made h i d legal = follows (Opening look) bytes reply h x made (opening t look bytes reply h x made i d.0 d.1 d.2 legal)
  moves (Measuring look) bytes reply x made h i d legal = follows (Measuring look) bytes reply h x made (measuring t look bytes reply h x made i d.0 d.1 d.2 legal)
  moves (Reading look n) bytes reply x made h i d legal = follows (Reading look n) bytes reply h x made (reading t look n bytes reply h x made i d.0 d.1 d.2 legal)
  moves ReadingFront bytes reply x made h i d legal = follows ReadingFront bytes reply h x made (reading_front t bytes reply h x made i d.0 d.1 d.2 legal)
  moves Leaving bytes reply x made h i d legal = follows Leaving bytes reply h x made (leaving t bytes reply h x made i d.0 d.1 d.2 legal)
  moves OpeningLock bytes reply x made h i d legal = follows OpeningLock bytes reply h x made (opening_lock t bytes reply h x made i d.0 d.1 d.2 legal)
  moves (Locking again) bytes reply x made h i d legal = follows (Locking again) bytes reply h x made (locking t again bytes reply h x made i d.0 d.1 d.2 legal)
  moves (Pausing again) bytes reply x made h i d legal = follows (Pausing again) bytes reply h x made (pausing t again bytes reply h x made i d.0 d.1 d.2 legal)
  moves (Evicting driver) bytes reply x made h i d legal = follows (Evicting driver) bytes reply h x made (evicting t driver bytes reply h x made i d.0 d.1 d.2 legal)
  moves (Making also) bytes reply x made h i d legal = follows (Making also) bytes reply h x made (making t also bytes reply h x made i d.0 d.1 d.2 legal)
  moves (Cutting also) bytes reply x made h i d legal = follows (Cutting also) bytes reply h x made (cutting t also bytes reply h x made i d.0 d.1 d.2 legal)
  moves (Writing also) bytes reply x made h i d legal = writing t also bytes reply h x made i d legal
  moves (Renaming also) bytes reply x made h i d legal = follows (Renaming also) bytes reply h x made (renaming t reads also bytes reply h x made i d.0 d.1 d.2 legal)
  moves (ClosingEntry answer besides) bytes reply x made h i d legal = follows (ClosingEntry answer besides) bytes reply h x made (closing_entry t answer besides bytes reply h x made i d.0 d.1 d.2 legal)
  moves (ClosingTemp answer) bytes reply x made h i d legal = follows (ClosingTemp answer) bytes reply h x made (closing_temp t answer bytes reply h x made i d.0 d.1 d.2 legal)
  moves (ClosingLock answer) bytes reply x made h i d legal = follows (ClosingLock answer) bytes reply h x made (closing_lock t answer bytes reply h x made i d.0 d.1 d.2 legal)
  moves phase bytes reply x made h i d legal = absurd d.1

  -- ---- others' items

  leaves : (h : History) (x : LogItem) → In t h → is_own t.me x ≡ false → is_stop t.me.process x ≡ false → KeepsRules h x → Leaves h t.me (applied (disk_of h) x)
  leaves h x i other goes rules = others_leave h x t.me i.order other goes rules

  in_other : (h : History) (x : LogItem) → In t h → is_own t.me x ≡ false → CanFollow h x → KeepsRules h x → In t (with_item h x)
  in_other h x i other legal rules = in_then t.me this_put h x i (within_other t.me x other) legal rules

  doing_other : (phase : PutPhase) (bytes : List ℕ) (reply : Reply) (made : List LogItem) (h : History) (x : LogItem) → is_own t.me x ≡ false → Leaves h t.me (applied (disk_of h) x) → Doing t phase bytes reply made h → Doing t phase bytes reply made (with_item h x)
  doing_other phase bytes reply [] h x other left d = λ next f. knows_other t next (item_after phase bytes) h x (within_other t.me x other) other left (d next f)
  doing_other (Writing also) bytes reply (y ∷ made) h x other left d =
      let within = within_other t.me x other in
      (going_other t h x within left d.0, (d.1.0, written_other t h x d.1.0 left d.0.holds d.1.1, d.1.2))
  doing_other phase bytes reply (y ∷ made) h x other left d = (knows_other t phase bytes h x (within_other t.me x other) other left d.0, d.1, d.2)

  pub inductive : Inductive asks_put asked_put FedPut t.me with_item CanFollow KeepsRules Between During
  inductive = record {
    enters = enters;
    steps = λ m call reply x made h d legal.
        let g = moves m.phase m.item reply x made h d.1 d.2 legal in
        (g.rules, (d.0, in_then t.me this_put h x d.1 g.within legal g.rules, g.does));
    others = λ m call reply made x h d other goes legal rules. (d.0, in_other h x d.1 other legal rules, doing_other m.phase m.item reply made h x other (leaves h x d.1 other goes rules) d.2);
    between = λ m x h b other goes legal rules.
        (b.0, in_other h x b.1 other legal rules, knows_other t m.phase m.item h x (within_other t.me x other) other (leaves h x b.1 other goes rules) b.2);
    leaves = λ m n call reply h d fed. next_is m n reply h d.0 d.1 d.2 fed;
  }
    where
      next_is : (m n : FolderPut) (reply : Reply) (h : History) → IsFor m → In t h → Follows t m.phase m.item reply h → FedPut (asked_put m) reply n → Between n h
      next_is m n reply h for i f fed =
          let next = subst (λ (d : DriverKeys). NextPut d (after_put_asking m.phase) reply fed.0) for.driver fed.2 in
          let there : Between (record (asked_put m) { phase = fed.0 }) h = (record { root = for.root; driver = for.driver; key = for.key }, i, f fed.0 next) in
          subst (λ (y : FolderPut). Between y h) (sym fed.1) there

  -- ---- its End

  ended : (phase : PutPhase) (bytes : List ℕ) (given : Answer) (h : History) → KnowsAt t phase bytes h → asks_at t phase bytes ≡ steps.Done given → Told t given h
  ended (Ended answer) bytes given h k e = let same : answer ≡ given = cc in subst (λ (a : Answer). Told t a h) same k
  ended Evicted bytes given h k e = absurd k
  ended Spent bytes given h k e = absurd k
  ended phase bytes given h k e = absurd cc

  told_end : (given answer : Answer) (h : History) → IsEndOf given answer → Told t given h → Told t answer h
  told_end given answer h (inl e) k = subst (λ (a : Answer). Told t a h) (sym e) k
  told_end given answer h (inr lack) k = subst (λ (a : Answer). Told t a h) (sym lack.0) tt

  pub ends : (m : FolderPut) (given answer : Answer) (h : History) → Between m h → asks_put m ≡ steps.Done given → IsEndOf given answer → KeepsRules h (End t.me answer)
  ends m given answer h b e is =
      let told = told_end given answer h is (ended m.phase m.item given h b.2 (asks_is m b.0 ∙ e)) in
      end_rules t.me h answer b.1.order (told_earns t answer h b.1 told)

  -- ---- its start

  -- a put that has done nothing yet
  pub starts_new : (first : FolderPut) (h : History) → IsNewPut t.root t.driver t.key t.item first → In t h → Between first h
  starts_new first h new i =
      let knows : KnowsAt t (Opening First) first.item h = (new.item_is, tt) in
      (record { root = new.root_is; driver = new.driver_is; key = new.key_is }, i, subst (λ (p : PutPhase). KnowsAt t p first.item h) (sym new.opening) knows)
