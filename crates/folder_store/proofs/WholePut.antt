-- What a whole put does, from its Begin to its End.
use Rattle.std.specs.List.{AllByRecursion}
use Rattle.std.proofs.Common.{◌≡◌, ◌≤◌, ◌⊎◌, ◌↔◌, inl, inr, ℕ, true, false, List, [], ◌∷◌, ◌++◌, Option, refl, sym, ap, subst, ◌∙◌, arith}
use Rattle.cache_types.specs.declared.answer.Answer.{Answer}
use Rattle.cache_types.specs.declared.answer.Answer.TheVariants as answers
use Rattle.cache_types.specs.declared.key.Key.{Key}
use Rattle.cache_types.specs.declared.request.Request.{Request}
use Rattle.cache_types.specs.declared.seat.Who.{Who}
use Rattle.cache_types.specs.Answers.{IsSmall}
use Rattle.cache_types.specs.Driver.{DriverKeys, IsDriver}
use Rattle.file_log.specs.declared.item.LogItem.{LogItem}
use Rattle.file_log.specs.declared.item.LogItem.TheVariants.{Begin, End}
use Rattle.file_log.specs.Log.{History, own}
use Rattle.file_log.specs.Operation.{is_fault, calls_in}
use Rattle.files_api.specs.Drive.{items_of_all, IsEndOf, Refused, Unmade, Operated}
use Rattle.folder_store.specs.declared.put.FolderPut.{FolderPut}
use Rattle.folder_store.specs.declared.put_phase.PutPhase.{PutPhase}
use Rattle.folder_store.specs.Put.{IsPutAnswer, AsksPut, PutDone, ReplacesEvicted, blob_in}
use Rattle.folder_store.specs.OwnChanges.{is_change, is_want, has_placed}
use Rattle.folder_store.specs.Readings.{ReadsItem}
use Rattle.folder_store.specs.PutPhases.{IsNewPut, asks_put, asked_put, FedPut, most_put_calls, put_left_in}
use Rattle.folder_store.proofs.Items.{any_fault, any_want, any_change, all_within, all_counted}
use Rattle.folder_store.proofs.Operations.{Grows-from, no_fault, never_fault, any_inside}
use Rattle.folder_store.proofs.PutCalls.{put_within, same_put_root, put_spends}
use Rattle.file_log.specs.State.{after, state_of}
use Rattle.file_log.proofs.All.{none_keeps}
use Rattle.folder_store.specs.Locking.{ChangesUnderLock, IsHeldOff, PausesBetweenTries}
use Rattle.folder_store.proofs.LockHeld.{held_throughout, IsIdleItem, idle_keeps, calm_all}
use Rattle.folder_store.proofs.LockTries.{IsOf, AreCalm, nothing_calm, all_replies, tried_lock, busy_is, never_tried, whole_tried, whole_calm}
use Rattle.folder_store.proofs.LockPauses.{none_pauses, pauses_between}
use Rattle.folder_store.proofs.PutEnds.{put_alone, put_whole, put_tells, put_stores}
use Rattle.folder_store.proofs.PutFrame.{AllFit, own_frame, whole_fit}
use Rattle.folder_store.proofs.PutGivesUp.{Places, gives_up, never_places, put_places}
use Rattle.folder_store.proofs.PutReadings.{put_reads}
use Rattle.folder_store.proofs.PutOnDisk.{OnDisk, refused_on_disk, unmade_on_disk}
use Rattle.folder_store.proofs.PutOutcome.{put_outcome}
use Rattle.seat_rules.specs.Changes.{with_item}
use Rattle.layout_rules.specs.Rules.{KeepsRules}
use Rattle.folder_store.proofs.Keeping.{IsIdleIn, unmade_keeps}
use Rattle.folder_store.proofs.PutEvicts.{any_evict, plain_names, put_replaces}
use Rattle.folder_store.proofs.PutKeeps.{put_keeps}

-- a put's answer carries no list, so it is told as the machine gives it
end_is : (given answer : Answer) → IsPutAnswer given → IsEndOf given answer → answer ≡ given
end_is given answer kind (inl e) = e
end_is given answer kind (inr lack) = absurd (lack.1 (small given kind))
  where
    small : (a : Answer) → IsPutAnswer a → IsSmall a
    small answers.Stored k = tt
    small answers.Kept k = tt
    small answers.Busy k = tt
    small answers.FilesFault k = tt
    small answers.NoMemory k = tt
    small a k = absurd k

no_stored : (answer : Answer) → answer ≡ answers.NoMemory → answer ≡ answers.Stored → ⊥
no_stored answer e f = let clash : answers.NoMemory ≡ answers.Stored = sym e ∙ f in absurd cc

no_kept : (answer : Answer) → answer ≡ answers.NoMemory → answer ≡ answers.Kept → ⊥
no_kept answer e f = let clash : answers.NoMemory ≡ answers.Kept = sym e ∙ f in absurd cc

no_busy : (answer : Answer) → answer ≡ answers.NoMemory → answer ≡ answers.Busy → ⊥
no_busy answer e f = let clash : answers.NoMemory ≡ answers.Busy = sym e ∙ f in absurd cc

-- an operation without a call changes nothing
never_changes : (made : List LogItem) → any_change made ≡ false → any_change made ≡ true → any_want made ≡ true
never_changes made none some = let clash : false ≡ true = sym none ∙ some in absurd cc

module _ (me : Who) (request : Request) (root : ℕ) (driver : DriverKeys) (key : Key) (item : List ℕ) (old new : Option History) (before now : ℕ) (answer : Answer) where
  abbrev IsDone : Type 0
  IsDone = PutDone me request root driver key (blob_in request) old new before now answer

  -- a Begin and an End change nothing, and try no lock
  idle_begin : (r : Request) → IsIdleItem me root key (Begin me r)
  idle_begin r = record { calm = nothing_calm me root key; tries = λ d. tt }

  idle_end : (a : Answer) → IsIdleItem me root key (End me a)
  idle_end a = record { calm = nothing_calm me root key; tries = λ d. tt }

  pub refused : Refused me old new answer → IsDone
  refused r = record {
    kind = rw r.answer_is tt;
    cause = λ e. absurd (no_fault answer r.answer_is e);
    told = Grows-from old new _ _ r.told (λ h news is_old o.
        let disk = subst (λ (a : Answer). OnDisk me root driver key (blob_in request) a h news) (sym r.answer_is) (refused_on_disk me request root driver key (blob_in request) h news o.own_items) in
        record {
          operation = inl (o.own_items, r.answer_is);
          alone = disk.alone;
          whole = disk.whole;
          tells_first = disk.tells_first;
          stores = λ spare e. absurd (no_stored answer r.answer_is e);
          kept = λ e. absurd (no_kept answer r.answer_is e);
          frame = own_frame root key me h news (subst (AllFit root key (own me h.log)) (sym o.own_items) tt);
          locked = none_keeps after (ChangesUnderLock me root key) me (state_of h) news o.own_items;
          busy = busy_is me root key answer (own me news) (never_tried me root key answer (own me news) r.answer_is (ap all_replies o.own_items));
          pauses = none_pauses (own me news) (ap all_replies o.own_items);
          calm = λ e. absurd (no_busy answer r.answer_is e);
          fault = never_fault answer (own me news) r.answer_is (ap any_fault o.own_items);
          gives_up = gives_up root key answer (own me news) (never_places root key answer (own me news) r.answer_is (ap (has_placed root key) o.own_items)) (λ e. never_changes (own me news) (ap any_change o.own_items));
          keeps = λ kept. none_keeps with_item KeepsRules me h news o.own_items;
          evicts = λ kept others. plain_names me root key h news (ap any_evict o.own_items);
          replaces = subst (λ (a : Answer). ReplacesEvicted root key a (own me news)) (sym r.answer_is) tt;
        });
  }

  unmade : IsIdleIn me old → Unmade me request old new answer → IsDone
  unmade idle r = record {
    kind = rw r.answer_is tt;
    cause = λ e. absurd (no_fault answer r.answer_is e);
    told = Grows-from old new _ _ r.told (λ h news is_old o.
        let disk = subst (λ (a : Answer). OnDisk me root driver key (blob_in request) a h news) (sym r.answer_is) (unmade_on_disk me request root driver key (blob_in request) h news o.owns.own_items) in
        record {
          operation = inr (record { inner = []; whole = o.owns.own_items ∙ ap (λ (a : Answer). Begin me request ∷ End me a ∷ []) (sym r.answer_is); within = tt; few = omega arith });
          alone = disk.alone;
          whole = disk.whole;
          tells_first = disk.tells_first;
          stores = λ spare e. absurd (no_stored answer r.answer_is e);
          kept = λ e. absurd (no_kept answer r.answer_is e);
          frame = own_frame root key me h news (subst (AllFit root key (own me h.log)) (sym o.owns.own_items) (tt, (tt, tt)));
          locked = idle_keeps me root key (state_of h) news (subst (AllByRecursion (IsIdleItem me root key)) (sym o.owns.own_items) (idle_begin request, (idle_end answers.NoMemory, tt)));
          busy = busy_is me root key answer (own me news) (never_tried me root key answer (own me news) r.answer_is (ap all_replies o.owns.own_items));
          pauses = none_pauses (own me news) (ap all_replies o.owns.own_items);
          calm = λ e. absurd (no_busy answer r.answer_is e);
          fault = never_fault answer (own me news) r.answer_is (ap any_fault o.owns.own_items);
          gives_up = gives_up root key answer (own me news) (never_places root key answer (own me news) r.answer_is (ap (has_placed root key) o.owns.own_items)) (λ e. never_changes (own me news) (ap any_change o.owns.own_items));
          keeps = unmade_keeps me request h news o.owns.own_items o.owns.legal o.owns.goes_on (idle h is_old);
          evicts = λ kept others. plain_names me root key h news (ap any_evict o.owns.own_items);
          replaces = subst (λ (a : Answer). ReplacesEvicted root key a (own me news)) (sym r.answer_is) tt;
        });
  }

  operated : IsIdleIn me old → (IsMade : FolderPut → Type 0) → ((m : FolderPut) → IsMade m → IsNewPut root driver key item m) → IsDriver driver → AsksPut request root driver key item
      → Operated asks_put asked_put FedPut (λ m. put_left_in m.phase) IsMade me request old new before now answer → IsDone
  operated idle IsMade is_new fits asks r =
      let begun = is_new r.first r.made in
      let inner = items_of_all r.exchanges in
      let out = put_outcome me r.first r.last r.exchanges r.given begun.opening r.runs in
      let same = end_is r.given answer out.kind r.answer_is in
      let within = all_within asks_put asked_put FedPut me root (λ m. m.root ≡ root) (put_within root) (same_put_root root) r.first r.last r.exchanges r.given begun.root_is r.runs in
      let of : IsOf me root key r.first = record { root_is = begun.root_is; key_is = begun.key_is } in
      let tried = tried_lock me root key r.first r.last r.exchanges r.given of begun.opening r.runs in
      let few : calls_in inner ≤ most_put_calls = subst (λ (p : PutPhase). calls_in inner ≤ put_left_in p) begun.opening (all_counted asks_put asked_put FedPut me (λ m. put_left_in m.phase) put_spends r.first r.last r.exchanges r.given r.runs) in
      record {
        kind = rw same out.kind;
        cause = λ e. r.counts.rose (out.failed (sym same ∙ e));
        told = Grows-from old new _ _ r.told (λ h news is_old o.
            let faults : any_fault (own me news) ≡ any_fault inner = ap any_fault o.owns.own_items ∙ any_inside is_fault me request answer inner refl refl in
            let wants : any_want (own me news) ≡ any_want inner = ap any_want o.owns.own_items ∙ any_inside is_want me request answer inner refl refl in
            let changes : any_change (own me news) ≡ any_change inner = ap any_change o.owns.own_items ∙ any_inside is_change me request answer inner refl refl in
            let places = subst (λ (a : Answer). Places root key a (own me news)) (sym same) (subst (Places root key r.given) (sym o.owns.own_items) (put_places root key me driver r.given r.first r.last request r.exchanges answer of begun.driver_is begun.opening r.runs)) in
            let among = put_keeps me request root driver key item r.first r.last r.exchanges r.given answer h news asks begun r.runs r.answer_is o.owns.own_items o.owns.legal o.owns.goes_on (idle h is_old) in
            record {
              operation = inr (record { inner = inner; whole = o.owns.own_items; within = within; few = few });
              alone = put_alone me request root driver key item fits asks answer r.given r.first r.last r.exchanges begun r.runs r.answer_is h news o within;
              whole = put_whole me request root driver key item fits asks answer r.given r.first r.last r.exchanges begun r.runs r.answer_is h news o;
              tells_first = put_tells me request root driver key item fits asks answer r.given r.first r.last r.exchanges begun r.runs r.answer_is h news o;
              stores = put_stores me request root driver key item fits asks answer r.given r.first r.last r.exchanges begun r.runs r.answer_is h news o;
              kept = λ e. subst (ReadsItem root driver key) (sym o.owns.own_items) (put_reads me root driver key r.given r.first r.last request r.exchanges answer of begun.driver_is begun.opening r.runs (sym same ∙ e));
              frame = own_frame root key me h news (subst (AllFit root key (own me h.log)) (sym o.owns.own_items) (whole_fit root key me request r.first r.last r.exchanges r.given answer (own me h.log) of begun.opening r.runs));
              locked = held_throughout me root key r.first r.last request answer r.given news (state_of h) r.exchanges of begun.opening r.runs r.answer_is o.owns.own_items o.owns.legal o.owns.goes_on;
              busy = subst (λ (made : List LogItem). (answer ≡ answers.Busy) ↔ IsHeldOff root key made) (sym o.owns.own_items)
                  (subst (λ (a : Answer). (a ≡ answers.Busy) ↔ IsHeldOff root key (Begin me request ∷ (inner ++ End me answer ∷ []))) (sym same) (busy_is me root key r.given _ (whole_tried me root key request r.given answer inner tried)));
              pauses = subst PausesBetweenTries (sym o.owns.own_items) (pauses_between me root key r.first r.last request r.exchanges r.given answer of begun.opening r.runs);
              calm = λ e. calm_all me root key (state_of h) news (subst (AreCalm me root key) (sym o.owns.own_items) (whole_calm me root key request answer inner (tried.calm (sym same ∙ e))));
              fault = (λ e. faults ∙ out.told (sym same ∙ e), λ some. same ∙ out.only (sym faults ∙ some));
              gives_up = gives_up root key answer (own me news) places (λ e c. wants ∙ out.want (sym same ∙ e) (sym changes ∙ c));
              keeps = among.keeps;
              evicts = among.evicts;
              replaces = subst (λ (a : Answer). ReplacesEvicted root key a (own me news)) (sym same) (put_replaces me request root key r.first r.last r.exchanges r.given answer (own me news) begun.root_is begun.key_is begun.opening r.runs o.owns.own_items);
            });
      }

  -- However it ended, it did what a put does.
  pub put_done : IsIdleIn me old → (IsMade : FolderPut → Type 0) → ((m : FolderPut) → IsMade m → IsNewPut root driver key item m) → IsDriver driver → AsksPut request root driver key item
      → Refused me old new answer ⊎ (Unmade me request old new answer ⊎ Operated asks_put asked_put FedPut (λ m. put_left_in m.phase) IsMade me request old new before now answer) → IsDone
  put_done idle IsMade is_new fits asks (inl r) = refused r
  put_done idle IsMade is_new fits asks (inr (inl r)) = unmade idle r
  put_done idle IsMade is_new fits asks (inr (inr r)) = operated idle IsMade is_new fits asks r
