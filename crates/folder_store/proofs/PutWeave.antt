-- A put among others: each of its own items keeps what PutRules says.
use Rattle.std.proofs.Common.{◌≡◌, inl, inr, ℕ, true, false, nat_eq, List, [], ◌∷◌, ◌++◌, length, Option, Some, refl, sym, ap, ◌∙◌, subst}
use Rattle.std.proofs.lemmas.Bool.{false≢true}
use Rattle.std.proofs.lemmas.List.{append-nil}
use Rattle.std.proofs.lemmas.List.Elements.{Contains-push}
use Rattle.cache_types.specs.Answers.{IsSmall}
use Rattle.cache_types.specs.Driver.{DriverKeys, IsDriver}
use Rattle.cache_types.specs.declared.answer.Answer.{Answer}
use Rattle.cache_types.specs.declared.answer.Answer.TheVariants as answers
use Rattle.cache_types.specs.declared.key.Key.{Key}
use Rattle.cache_types.specs.declared.name.Name.TheVariants.{Entry}
use Rattle.cache_types.specs.declared.request.Request.{Request}
use Rattle.cache_types.specs.declared.request.Request.TheVariants as requests
use Rattle.cache_types.specs.declared.store.Store.{Store}
use Rattle.file_log.specs.declared.call.Call.{Call}
use Rattle.file_log.specs.declared.item.LogItem.{LogItem}
use Rattle.file_log.specs.declared.item.LogItem.TheVariants.{Begin, End}
use Rattle.file_log.specs.declared.reply.Reply.{Reply}
use Rattle.file_log.specs.declared.reply.Reply.TheVariants as replies
use Rattle.file_log.specs.Along.{All}
use Rattle.file_log.specs.Disk.{Disk, file_of}
use Rattle.file_log.specs.Effect.{applied}
use Rattle.file_log.specs.Exchange.{Answers, Makes, Exchange}
use Rattle.file_log.specs.Legal.{IsLegal}
use Rattle.file_log.specs.Log.{is_own, is_stop, own, NoStop}
use Rattle.file_log.specs.Operation.{IsStill}
use Rattle.disk_laws.specs.Tidy.{IsTidy}
use Rattle.file_log.proofs.All.{seat_self}
use Rattle.disk_laws.proofs.Tidiness.{item_tidy}
use Rattle.files_api.specs.declared.machine.Step.{Step}
use Rattle.files_api.specs.declared.machine.Step.TheVariants as steps
use Rattle.files_api.specs.Drive.{Runs, items_of_all, IsEndOf}
use Rattle.files_api.proofs.Weave.{Inductive, Outer, weave_operation}
use Rattle.item_frame.specs.Item.{Reads}
use Rattle.item_frame.proofs.Laws.{Reads-from_as}
use Rattle.folder_store.specs.declared.put.FolderPut.{FolderPut}
use Rattle.folder_store.specs.declared.put_phase.Besides.TheVariants.{Lock}
use Rattle.folder_store.specs.declared.put_phase.Look.TheVariants.{First}
use Rattle.folder_store.specs.declared.put_phase.PutPhase.{PutPhase}
use Rattle.folder_store.specs.declared.put_phase.PutPhase.TheVariants.{Opening, Measuring, Reading, ReadingFront, Leaving, OpeningLock, Locking, Pausing, Evicting, Evicted, Making, Cutting, Writing, Renaming, ClosingEntry, ClosingTemp, ClosingLock, Ended, Spent}
use Rattle.folder_rules.specs.Holds.{FileReads}
use Rattle.folder_rules.specs.Whole.{folder_of, IsPutItem}
use Rattle.folder_store.specs.Entries.{IsSpared}
use Rattle.folder_store.specs.Locking.{IsUnlocked}
use Rattle.folder_store.specs.Put.{AsksPut, Leaves, LeavesElsewhere, TellsEvicts}
use Rattle.folder_store.specs.PutPhases.{IsNewPut, asks_put, asks_put_in, asked_put, after_put_asking, item_after, FedPut, NextPut}
use Rattle.folder_store.proofs.PutKnown.{Job, Place, step, other_base, other_told, other_end, Base, base_on, Looking, Replaced, Answered, KnowsAt, Spares, knows_on, written_on, going_on, rests_goes, old}
use Rattle.folder_store.proofs.PutRules.{IsRight, whole_still}
use Rattle.folder_store.proofs.PutSteps.{AnswersIn, asks_at, Follows, Stepped, into, ready_excused}
use Rattle.folder_store.proofs.PutMakes.{MakesIn, none_asked}
use Rattle.folder_store.proofs.PutDisks.{still_elsewhere}
use Rattle.folder_store.proofs.PutLocking.{opening_lock, locking, pausing}
use Rattle.folder_store.proofs.PutLooks.{opening, measuring, reading, reading_front, leaving}
use Rattle.folder_store.proofs.PutChanges.{evicting, making, cutting, renaming, closing_entry, closing_temp, closing_lock}
use Rattle.folder_store.proofs.PutWrites.{Doing, Moved, writing, writing_starts}
use Rattle.disk_laws.proofs.Slots.{other_slots}
use Rattle.folder_store.proofs.Still.{all_as_own}

-- ---- what is known along the run

module _ (j : Job) (request : Request) (fits : IsDriver j.driver) (filled : nat_eq (length j.item) 0 ≡ false) (asks : AsksPut request j.root j.driver j.key j.item) (reads : Reads j.driver j.item j.blob) where
  -- the machine is this put's
  pub record IsFor (m : FolderPut) : Type 0 where
    pub root : m.root ≡ j.root
    pub driver : m.driver ≡ j.driver
    pub key : m.key ≡ j.key

  -- an item can come, is no other's that touches the key's files, and is this seat's where it is alone
  abbrev pub Fair : Place → LogItem → Type 0
  Fair p x = IsLegal p.state x × (is_own j.me x ≡ false → IsSpared j.root j.key p.state.disk (applied p.state.disk x)) × (j.alone ≡ true → is_own j.me x ≡ true)

  abbrev pub Rule : Place → LogItem → Type 0
  Rule p x = is_own j.me x ≡ true → IsRight j p x

  abbrev Between : FolderPut → Place → Type 0
  Between m p = IsFor m × Base j p × KnowsAt j m.phase m.item p

  abbrev During : FolderPut → Call → Reply → List LogItem → Place → Type 0
  During m call reply made p = IsFor m × Base j p × Doing j m.phase m.item reply made p

  -- ---- a call begins

  starts : (phase : PutPhase) (bytes : List ℕ) (reply : Reply) (made : List LogItem) (p : Place) → KnowsAt j phase bytes p → AnswersIn (asks_at j phase bytes) reply → MakesIn j.me (asks_at j phase bytes) reply made → Doing j phase bytes reply made p
  starts (Writing entry) bytes reply made p k a ms = writing_starts j entry bytes reply made p filled k a ms
  starts (Evicting driver) bytes replies.NoMemory [] p k a ms = into j (ClosingEntry answers.NoMemory Lock) bytes p (ready_excused j p k.1)
  starts (Evicting driver) bytes replies.Done [] p k a ms = absurd cc
  starts (Evicting driver) bytes reply [] p k a ms = absurd a
  starts (Opening look) bytes reply [] p k a ms = absurd (none_asked j.me (asks_at j (Opening look) bytes) reply tt ms)
  starts (Measuring look) bytes reply [] p k a ms = absurd (none_asked j.me (asks_at j (Measuring look) bytes) reply tt ms)
  starts (Reading look n) bytes reply [] p k a ms = absurd (none_asked j.me (asks_at j (Reading look n) bytes) reply tt ms)
  starts ReadingFront bytes reply [] p k a ms = absurd (none_asked j.me (asks_at j ReadingFront bytes) reply tt ms)
  starts Leaving bytes reply [] p k a ms = absurd (none_asked j.me (asks_at j Leaving bytes) reply tt ms)
  starts OpeningLock bytes reply [] p k a ms = absurd (none_asked j.me (asks_at j OpeningLock bytes) reply tt ms)
  starts (Locking again) bytes reply [] p k a ms = absurd (none_asked j.me (asks_at j (Locking again) bytes) reply tt ms)
  starts (Pausing again) bytes reply [] p k a ms = absurd (none_asked j.me (asks_at j (Pausing again) bytes) reply tt ms)
  starts (Making entry) bytes reply [] p k a ms = absurd (none_asked j.me (asks_at j (Making entry) bytes) reply tt ms)
  starts (Cutting entry) bytes reply [] p k a ms = absurd (none_asked j.me (asks_at j (Cutting entry) bytes) reply tt ms)
  starts (Renaming entry) bytes reply [] p k a ms = absurd (none_asked j.me (asks_at j (Renaming entry) bytes) reply tt ms)
  starts (ClosingEntry answer besides) bytes reply [] p k a ms = absurd (none_asked j.me (asks_at j (ClosingEntry answer besides) bytes) reply tt ms)
  starts (ClosingTemp answer) bytes reply [] p k a ms = absurd (none_asked j.me (asks_at j (ClosingTemp answer) bytes) reply tt ms)
  starts (ClosingLock answer) bytes reply [] p k a ms = absurd (none_asked j.me (asks_at j (ClosingLock answer) bytes) reply tt ms)
  starts phase bytes reply [] p k a ms = absurd a
  starts phase bytes reply (x ∷ made) p k a ms = (k, a, ms)

  enters : (m : FolderPut) (call : Call) (reply : Reply) (made : List LogItem) (p : Place) → Between m p → asks_put m ≡ steps.Ask call → Answers true call reply → Makes j.me true call reply made → During m call reply made p
  enters m call reply made p inv e a ms =
      let roots : asks_put_in j.root m.key m.item m.phase ≡ asks_put m = ap (λ (r : ℕ). asks_put_in r m.key m.item m.phase) (sym inv.0.root) in
      let keys : asks_at j m.phase m.item ≡ asks_put_in j.root m.key m.item m.phase = ap (λ (k : Key). asks_put_in j.root k m.item m.phase) (sym inv.0.key) in
      let is : steps.Ask call ≡ asks_at j m.phase m.item = sym (keys ∙ roots ∙ e) in
      let fits' = subst (λ (s : Step). AnswersIn s reply) is a in
      let makes = subst (λ (s : Step). MakesIn j.me s reply made) is ms in
      (inv.0, inv.1, starts m.phase m.item reply made p inv.2 fits' makes)

  -- ---- an own item

  follows : (phase : PutPhase) (bytes : List ℕ) (reply : Reply) (p : Place) (x : LogItem) (made : List LogItem) → Stepped j phase bytes reply p x made → Moved j phase bytes reply p x made
  follows phase bytes reply p x made s = record { right = s.right; base = s.base; does = subst (λ (l : List LogItem). Doing j phase bytes reply l (step j.me p x)) (sym s.last) s.follows }

  moves : (phase : PutPhase) (bytes : List ℕ) (reply : Reply) (x : LogItem) (made : List LogItem) (p : Place) → Base j p → Doing j phase bytes reply (x ∷ made) p → IsLegal p.state x → Moved j phase bytes reply p x made
  moves (Opening look) bytes reply x made p b d legal = follows (Opening look) bytes reply p x made (opening j look bytes reply p x made b d.0 d.1 d.2 legal)
  moves (Measuring look) bytes reply x made p b d legal = follows (Measuring look) bytes reply p x made (measuring j look bytes reply p x made fits b d.0 d.1 d.2 legal)
  moves (Reading look n) bytes reply x made p b d legal = follows (Reading look n) bytes reply p x made (reading j look n bytes reply p x made b d.0 d.1 d.2 legal)
  moves ReadingFront bytes reply x made p b d legal = follows ReadingFront bytes reply p x made (reading_front j bytes reply p x made b d.0 d.1 d.2 legal)
  moves Leaving bytes reply x made p b d legal = follows Leaving bytes reply p x made (leaving j bytes reply p x made b d.0 d.1 d.2 legal)
  moves OpeningLock bytes reply x made p b d legal = follows OpeningLock bytes reply p x made (opening_lock j bytes reply p x made b d.0 d.1 d.2 legal)
  moves (Locking again) bytes reply x made p b d legal = follows (Locking again) bytes reply p x made (locking j again bytes reply p x made b d.0 d.1 d.2 legal)
  moves (Pausing again) bytes reply x made p b d legal = follows (Pausing again) bytes reply p x made (pausing j again bytes reply p x made b d.0 d.1 d.2 legal)
  moves (Evicting driver) bytes reply x made p b d legal = follows (Evicting driver) bytes reply p x made (evicting j driver bytes reply p x made b d.0 d.1 d.2 legal)
  moves (Making entry) bytes reply x made p b d legal = follows (Making entry) bytes reply p x made (making j entry bytes reply p x made b d.0 d.1 d.2 legal)
  moves (Cutting entry) bytes reply x made p b d legal = follows (Cutting entry) bytes reply p x made (cutting j entry bytes reply p x made b d.0 d.1 d.2 legal)
  moves (Writing entry) bytes reply x made p b d legal = writing j entry bytes reply p x made b d legal
  moves (Renaming entry) bytes reply x made p b d legal = follows (Renaming entry) bytes reply p x made (renaming j entry bytes reply p x made b d.0 d.1 d.2 legal)
  moves (ClosingEntry answer besides) bytes reply x made p b d legal = follows (ClosingEntry answer besides) bytes reply p x made (closing_entry j answer besides bytes reply p x made b d.0 d.1 d.2 legal)
  moves (ClosingTemp answer) bytes reply x made p b d legal = follows (ClosingTemp answer) bytes reply p x made (closing_temp j answer bytes reply p x made b d.0 d.1 d.2 legal)
  moves (ClosingLock answer) bytes reply x made p b d legal = follows (ClosingLock answer) bytes reply p x made (closing_lock j answer bytes reply p x made b d.0 d.1 d.2 legal)
  moves phase bytes reply x made p b d legal = absurd d.1

  -- ---- others' items

  spares : (p : Place) (x : LogItem) → Base j p → is_own j.me x ≡ false → is_stop j.me.process x ≡ false → Fair p x → Spares j p (step j.me p x)
  spares p x b other goes fair = record {
    rests = record {
      passes = record {
        x = x;
        log = refl;
        no_end = other_end j.me x other;
        base = other_base j.me p.base p.state.disk x other;
        told = other_told j.me p.told x other;
        tidy = item_tidy p.state.disk x b.tidy;
        elsewhere = λ alone. absurd (false≢true (sym other ∙ fair.2 alone));
        free = λ alone. absurd (false≢true (sym other ∙ fair.2 alone));
      };
      spared = fair.1 other;
      still = λ alone. absurd (false≢true (sym other ∙ fair.2 alone));
    };
    slots = λ at. other_slots j.me p.state.disk x at other goes;
    among = λ alone. false≢true (sym other ∙ fair.2 alone);
  }

  doing_on : (phase : PutPhase) (bytes : List ℕ) (reply : Reply) (made : List LogItem) (p p' : Place) → Spares j p p' → Doing j phase bytes reply made p → Doing j phase bytes reply made p'
  doing_on phase bytes reply [] p p' s d = λ next f. knows_on j next (item_after phase bytes) p p' s (d next f)
  doing_on (Writing entry) bytes reply (x ∷ made) p p' s d = (going_on j p p' (rests_goes j p p' s.rests) d.0, (d.1.0, written_on j p p' d.1.0 s d.1.1, d.1.2))
  doing_on phase bytes reply (x ∷ made) p p' s d = (knows_on j phase bytes p p' s d.0, d.1, d.2)

  inductive : Inductive asks_put asked_put FedPut j.me (step j.me) Fair Rule Between During
  inductive = record {
    enters = enters;
    steps = λ m call reply x made p d fair.
        let g = moves m.phase m.item reply x made p d.1 d.2 fair.0 in
        (λ mine. g.right, (d.0, g.base, g.does));
    others = λ m call reply made x p d other goes fair rule.
        let s = spares p x d.1 other goes fair in
        (d.0, base_on j p (step j.me p x) s.rests.passes d.1, doing_on m.phase m.item reply made p (step j.me p x) s d.2);
    between = λ m x p inv other goes fair rule.
        let s = spares p x inv.1 other goes fair in
        (inv.0, base_on j p (step j.me p x) s.rests.passes inv.1, knows_on j m.phase m.item p (step j.me p x) s inv.2);
    leaves = λ m n call reply p d fed. left m n reply p d.0 d.1 d.2 fed;
  }
    where
      left : (m n : FolderPut) (reply : Reply) (p : Place) → IsFor m → Base j p → Follows j m.phase m.item reply p → FedPut (asked_put m) reply n → Between n p
      left m n reply p for b f fed =
          let next = subst (λ (d : DriverKeys). NextPut d (after_put_asking m.phase) reply fed.0) for.driver fed.2 in
          let there : Between (record (asked_put m) { phase = fed.0 }) p = (record { root = for.root; driver = for.driver; key = for.key }, b, f fed.0 next) in
          subst (λ (x : FolderPut). Between x p) (sym fed.1) there

  -- ---- its Begin

  -- the item is one that was put, once the Begin stands in the log
  begun_is : (log : List LogItem) (r : Request) → AsksPut r j.root j.driver j.key j.item → IsPutItem (log ++ Begin j.me r ∷ []) j.root j.key j.item
  begun_is log (requests.Put store driver key meta blob limit) a =
      let reads' : Reads j.driver j.item blob = Reads-from_as j.driver j.item meta blob a.3 in
      let at : IsPutItem (log ++ Begin j.me (requests.Put (folder_of j.root) j.driver j.key meta blob limit) ∷ []) j.root j.key j.item =
      record { driver = j.driver; blob = blob; reads = reads'; put = (j.me, meta, limit, Contains-push log (Begin j.me (requests.Put (folder_of j.root) j.driver j.key meta blob limit))) } in
      let at_key = subst (λ (k : Key). IsPutItem (log ++ Begin j.me (requests.Put (folder_of j.root) j.driver k meta blob limit) ∷ []) j.root j.key j.item) (sym a.2) at in
      let at_driver = subst (λ (d : DriverKeys). IsPutItem (log ++ Begin j.me (requests.Put (folder_of j.root) d key meta blob limit) ∷ []) j.root j.key j.item) (sym a.1) at_key in
      subst (λ (s : Store). IsPutItem (log ++ Begin j.me (requests.Put s driver key meta blob limit) ∷ []) j.root j.key j.item) (sym a.0) at_driver
  begun_is log r a = absurd a

  -- before it the disk is tidy, and no other seat holds the lock where it is alone
  pub record IsReady (p : Place) : Type 0 where
    pub tidy : IsTidy p.state.disk
    pub free : j.alone ≡ true → IsUnlocked j.me j.root j.key p.state.disk

  begins : (first : FolderPut) → IsNewPut j.root j.driver j.key j.item first → (p : Place) → IsReady p → Rule p (Begin j.me request) × Between first (step j.me p (Begin j.me request))
  begins first new p ready =
      let begin : LogItem = Begin j.me request in
      let p' : Place = step j.me p begin in
      let base : p'.base ≡ p.state.disk = rw (seat_self j.me) refl in
      let none : p'.told ≡ [] = rw (seat_self j.me) refl in
      let still : IsStill p.state.disk p.state.disk = record { names = λ name. refl; files = λ f. refl } in
      let looking : Looking j p' = record {
        entry = ap (λ (d : Disk). file_of d (Entry j.root j.key)) (sym base);
        still = λ alone. subst (λ (d : Disk). IsStill d p.state.disk) (sym base) still;
        quiet = none;
      } in
      let known : Base j p' = record {
        tidy = ready.tidy;
        begun = begun_is p.log request asks;
        elsewhere = λ alone. subst (λ (d : Disk). LeavesElsewhere j.root j.key d p.state.disk) (sym base) (still_elsewhere p.state.disk p.state.disk j.root j.key still);
        free = ready.free;
      } in
      let knows : KnowsAt j (Opening First) first.item p' = (new.item_is, looking) in (
        λ mine. record { whole = whole_still p.log p.state.disk p.state.disk begin still; replaces = tt; ends = tt },
        (record { root = new.root_is; driver = new.driver_is; key = new.key_is }, known, subst (λ (phase : PutPhase). KnowsAt j phase first.item p') (sym new.opening) knows),
      )

  -- ---- its End

  ended : (phase : PutPhase) (bytes : List ℕ) (given : Answer) (p : Place) → KnowsAt j phase bytes p → asks_at j phase bytes ≡ steps.Done given → Answered j given p
  ended (Ended answer) bytes given p k e = let same : answer ≡ given = cc in subst (λ (a : Answer). Answered j a p) same k
  ended Evicted bytes given p k e = absurd k
  ended Spent bytes given p k e = absurd k
  ended phase bytes given p k e = absurd cc

  small : (given : Answer) (p : Place) → Answered j given p → IsSmall given
  small answers.Stored p k = tt
  small answers.Kept p k = tt
  small answers.Busy p k = tt
  small answers.FilesFault p k = tt
  small answers.NoMemory p k = tt
  small answer p k = absurd k

  told_end : (given answer : Answer) (p : Place) → IsEndOf given answer → Answered j given p → Answered j answer p
  told_end given answer p (inl e) k = subst (λ (a : Answer). Answered j a p) (sym e) k
  told_end given answer p (inr lack) k = absurd (lack.1 (small given p k))

  leaves_of : (answer : Answer) (p : Place) → j.alone ≡ true → Answered j answer p → Leaves j.root j.driver j.key j.blob answer p.base p.state.disk
  leaves_of answers.Stored p alone k = (λ held. k.lacks held.0 held.1, subst (λ (o : Option (List ℕ)). FileReads o j.driver j.blob) (sym k.entry) reads, k.no_temp)
  leaves_of answers.Kept p alone k = (k.held, k.looking.still alone)
  leaves_of answers.Busy p alone k = absurd (k alone)
  leaves_of answers.FilesFault p alone k = k.entry
  leaves_of answers.NoMemory p alone k = k.entry
  leaves_of answer p alone k = absurd k

  stored_of : (answer : Answer) (p : Place) → Answered j answer p → answer ≡ answers.Stored → file_of p.state.disk (Entry j.root j.key) ≡ Some j.item
  stored_of answer p k e = let replaced : Replaced j p = subst (λ (a : Answer). Answered j a p) e k in replaced.entry

  tells_of : (answer : Answer) (p : Place) → j.alone ≡ true → Answered j answer p → TellsEvicts j.me j.root j.key (old j p) answer p.told
  tells_of answers.Stored p alone k = k.told
  tells_of answers.Kept p alone k = k.looking.quiet
  tells_of answers.Busy p alone k = absurd (k alone)
  tells_of answers.FilesFault p alone k = k.told
  tells_of answers.NoMemory p alone k = k.told
  tells_of answer p alone k = absurd k

  ends : (m : FolderPut) (given answer : Answer) (p : Place) → Between m p → asks_put m ≡ steps.Done given → IsEndOf given answer → IsRight j p (End j.me answer)
  ends m given answer p inv e is =
      let roots : asks_put_in j.root m.key m.item m.phase ≡ asks_put m = ap (λ (r : ℕ). asks_put_in r m.key m.item m.phase) (sym inv.0.root) in
      let keys : asks_at j m.phase m.item ≡ asks_put_in j.root m.key m.item m.phase = ap (λ (k : Key). asks_put_in j.root k m.item m.phase) (sym inv.0.key) in
      let k : Answered j answer p = told_end given answer p is (ended m.phase m.item given p inv.2 (keys ∙ roots ∙ e)) in
      let still : IsStill p.state.disk p.state.disk = record { names = λ name. refl; files = λ f. refl } in
      record {
        whole = whole_still p.log p.state.disk p.state.disk (End j.me answer) still;
        replaces = tt;
        ends = (stored_of answer p k, λ alone. (leaves_of answer p alone k, inv.1.elsewhere alone, tells_of answer p alone k));
      }

  outer : (first : FolderPut) (answer : Answer) → IsNewPut j.root j.driver j.key j.item first → Outer asks_put j.me (step j.me) Fair Rule Between IsReady first request answer
  outer first answer new = record {
    begins = λ p ready fair. begins first new p ready;
    ends = λ m given p inv e is fair. (λ mine. ends m given answer p inv e is, record { tidy = inv.1.tidy; free = inv.1.free });
    outside = λ x p ready other goes fair rule. record { tidy = item_tidy p.state.disk x ready.tidy; free = λ alone. absurd (false≢true (sym other ∙ fair.2 alone)) };
  }

  -- Each own item of a put is right, whatever others do that leaves the key's entry and its temporary file alone.
  pub all_right : (first : FolderPut) (answer : Answer) (news : List LogItem) (p : Place) (xs : List Exchange) (given : Answer) (last : FolderPut) → IsNewPut j.root j.driver j.key j.item first → Runs asks_put asked_put FedPut j.me first xs given last → IsEndOf given answer
      → own j.me news ≡ Begin j.me request ∷ (items_of_all xs ++ End j.me answer ∷ []) → IsReady p → All (step j.me) Fair p news → NoStop j.me.process news → All (step j.me) Rule p news
  all_right first answer news p xs given last new runs is e ready fair goes =
      all_as_own (step j.me) Rule j.me (λ q x other mine. absurd (false≢true (sym other ∙ mine))) p news
      (weave_operation asks_put asked_put FedPut j.me (step j.me) Fair Rule Between During inductive IsReady first request answer (outer first answer new) news p [] xs given last ready runs is (append-nil (own j.me news) ∙ e) fair goes).0
