-- What a step of a busy seat keeps, and that it is the schedule's.
use Rattle.std.proofs.Common.{◌≡◌, ◌⊎◌, inl, inr, ℕ, cond, ◌&&◌, Bool, true, false, List, [], ◌∷◌, ◌++◌, Option, Some, None, refl, sym, ap, subst, ◌∙◌}
use Rattle.cache_types.specs.declared.answer.Answer.{Answer}
use Rattle.cache_types.specs.declared.request.Request.{Request}
use Rattle.cache_types.specs.declared.seat.Who.{Who}
use Rattle.cache_types.specs.Seats.{same_seat}
use Rattle.file_log.specs.declared.call.Call.{Call}
use Rattle.file_log.specs.declared.item.LogItem.{LogItem}
use Rattle.file_log.specs.declared.item.LogItem.TheVariants as items
use Rattle.file_log.specs.State.{State, state_of}
use Rattle.file_log.proofs.All.{seat_self}
use Rattle.file_log.specs.declared.call.Call.TheVariants as calls
use Rattle.file_log.specs.declared.reply.Reply.{Reply}
use Rattle.file_log.specs.declared.reply.Reply.TheVariants as replies
use Rattle.file_log.specs.Exchange.{items_refused}
use Rattle.std.proofs.lemmas.List.{append-nil}
use Rattle.file_model.specs.declared.step.Fate.{Fate}
use Rattle.file_model.specs.declared.step.Fate.TheVariants as fates
use Rattle.file_model.specs.declared.step.Progress.{Progress}
use Rattle.file_model.specs.declared.step.Progress.TheVariants as progresses
use Rattle.file_model.specs.Held.{Held}
use Rattle.file_model.specs.Held as held
use Rattle.file_model.specs.Steps.{step_items, StepFits, IsFated, is_inside}
use Rattle.files_api.specs.declared.machine.Step.{Step}
use Rattle.files_api.specs.declared.machine.Step.TheVariants.{Ask, Done}
use Rattle.files_api.specs.Drive.{Allows, IsWithin}
use Rattle.seat_rules.specs.Places.{past}
use Rattle.op_machine.specs.declared.op.Op.{Op}
use Rattle.op_machine.specs.Machine.{slots, hurt, allowed}
use Rattle.seat_order.specs.Places.{Where}
use Rattle.seat_order.specs.Apart.{IsAt}
use Rattle.seat_order.proofs.Readying.{ready_inside}
use Rattle.world_tables.proofs.Finds.{same_seat-true}
use Rattle.sim_world.specs.declared.failing.Failing.{Failing}
use Rattle.sim_world.specs.declared.jobs.Job.{Job}
use Rattle.sim_world.specs.declared.jobs.Offered.{Offered}
use Rattle.sim_world.specs.declared.operation.Brought.{Brought}
use Rattle.sim_world.specs.declared.operation.Brought.TheVariants as brings
use Rattle.sim_world.specs.declared.operation.Moved.{Moved}
use Rattle.sim_world.specs.declared.operation.Operation.{Operation}
use Rattle.sim_world.specs.declared.seats.Seat.{Seat}
use Rattle.sim_world.specs.declared.seats.Task.{Task}
use Rattle.sim_world.specs.declared.seats.Task.TheVariants as tasks
use Rattle.sim_world.specs.Played.{Steps}
use Rattle.sim_world.specs.Scene.{Scene, Activity, Idle, Asked, Inside, told, with_seat, with_failing}
use Rattle.sim_world.specs.Stages.{where_in, where_of, seats_at, activity_of, scene_from, AreSeated, AreJobs}
use Rattle.sim_world.specs.Steps.{fate_of, brought_made, brought_by, IsBrought, is_failure, Asks, Ends, Goes, Begins, Waits, Advances}
use Rattle.sim_world.specs.Tables.{task_of, Once, failing_of}
use Rattle.sim_world.proofs.Ordered.{state_is, Changes}
use Rattle.sim_world.proofs.Stepping.{step_leaves, leaves_told, jobs_stay, begin_seated, wait_seated, end_seated, ask_seated, told_inside}
use Rattle.sim_world.proofs.Scenes.{same_scene, activity_then, Tells, Fails, call_told}

-- ---- want of memory that the schedule didn't ask for

no_lack : brings.Item ≡ brings.Lack → ⊥
no_lack e = absurd cc

made_lacks : (reply : Reply) → brought_made reply ≡ brings.Lack → reply ≡ replies.NoMemory
made_lacks replies.NoMemory e = refl
made_lacks reply e = absurd cc

-- it is a call's that was made
lacks_so : (fate : Fate) (progress : Progress) → brought_by fate progress ≡ brings.Lack → progress ≡ progresses.Reply replies.NoMemory
lacks_so fate progresses.More e = absurd cc
lacks_so fates.Go (progresses.Reply reply) e = ap (λ (r : Reply). progresses.Reply r) (made_lacks reply e)
lacks_so fates.Fail (progresses.Reply reply) e = absurd cc
lacks_so fates.NoMemory (progresses.Reply reply) e = absurd cc

refused_so : (who : Who) (call : Call) → (items_refused who true call ≡ []) ⊎ (items_refused who true call ≡ items.Failed who true ∷ [])
refused_so who (calls.Tell note) = inl refl
refused_so who call = inr refl

module _ {apart : Who → Bool} (who : Who) (w w' : Held) (seats seats' : List Seat) (moved : Moved) (a : AreSeated apart w seats) (known : apart who ≡ false) (goes : (state_of w.past).halted who.process ≡ false) (changes : Changes who moved.task seats seats') (once : Once seats') where
  alive : (state_of (past w.past.log)).halted who.process ≡ false
  alive = sym (ap (λ (s : State). s.halted who.process) (state_is w a.start)) ∙ goes

  stands_there : (place : Where) → seats_at seats who ≡ place → IsAt who place w.past.log
  stands_there place at = subst (λ (p : Where). IsAt who p w.past.log) at (a.orderly.there who known alive)

  inside_there : (n : Op) (call : Call) (done : ℕ) → seats_at seats who ≡ Where.Within n call done → is_inside who w ≡ true
  inside_there n call done at = ready_inside who n call done (past w.past.log) (stands_there (Where.Within n call done) at).ready

  -- a call that a machine asks for within its operation is no Begin and no End
  within_there : (n : Op) (call : Call) (done : ℕ) → seats_at seats who ≡ Where.Within n call done → IsWithin call
  within_there n call done at =
      let s = (stands_there (Where.Within n call done) at).ready in
      (subst (Allows (slots s.m) (hurt s.m)) s.asks_so (allowed s.m s.seen.0)).1

  goes_seated : (step : Step) (n : Op) (done : ℕ) (failing : Option Bool) → seats_at seats who ≡ where_in step n done → Goes who step n done failing w w' moved → AreSeated apart w' seats'
  goes_seated (Ask call) n done failing at x = ask_seated who w w' seats seats' moved a known goes changes once n call done failing at (inside_there n call done at) x
  goes_seated (Done given) n done failing at x = end_seated who w w' seats seats' moved a known goes changes once given (stands_there (Where.Ending given) at) x

  -- all stand after a step
  pub advance_seated : (task : Task) (failing : Option Bool) → task_of seats who ≡ Some task → Advances who task failing w w' moved → AreSeated apart w' seats'
  advance_seated (tasks.Asked request) failing at (inl x) = begin_seated who w w' seats seats' moved a known goes changes once request at x
  advance_seated (tasks.Asked request) failing at (inr x) = wait_seated who w w' seats seats' moved a known goes changes once request at x
  advance_seated (tasks.Begun operation) failing at x = goes_seated operation.wants operation.machine operation.done failing (ap where_of at) x

  goes_jobs : (step : Step) (n : Op) (done : ℕ) (failing : Option Bool) (jobs : List Job) (offered : List Offered) → seats_at seats who ≡ where_in step n done → Goes who step n done failing w w' moved → AreJobs (state_of w.past) jobs offered → AreJobs (state_of w'.past) jobs offered
  goes_jobs (Ask call) n done failing jobs offered at x j =
      jobs_stay (state_of w.past) (state_of w'.past) jobs offered
      (leaves_told w w' (step_items x.progress who true call done) (told_inside who w w' seats seats' moved a known goes changes once x.progress call done (inside_there n call done at) x.stepped) (step_leaves who x.progress true call done (state_of w.past))) j
  goes_jobs (Done given) n done failing jobs offered at x j =
      jobs_stay (state_of w.past) (state_of w'.past) jobs offered (leaves_told w w' (items.End who x.answer ∷ []) x.told_is (record { halted = λ p. refl; waiting = λ p. refl; used = λ p. refl })) j

  -- the queues are as before it
  pub advance_jobs : (task : Task) (failing : Option Bool) (jobs : List Job) (offered : List Offered) → task_of seats who ≡ Some task → Advances who task failing w w' moved → AreJobs (state_of w.past) jobs offered → AreJobs (state_of w'.past) jobs offered
  advance_jobs (tasks.Asked request) failing jobs offered at (inl x) j =
      jobs_stay (state_of w.past) (state_of w'.past) jobs offered (leaves_told w w' (items.Begin who request ∷ []) x.told_is (record { halted = λ p. refl; waiting = λ p. refl; used = λ p. refl })) j
  advance_jobs (tasks.Asked request) failing jobs offered at (inr x) j = subst (λ (v : Held). AreJobs (state_of v.past) jobs offered) (sym x.same) j
  advance_jobs (tasks.Begun operation) failing jobs offered at x j = goes_jobs operation.wants operation.machine operation.done failing jobs offered (ap where_of at) x j

  -- ---- the scene

  module _ (failing failing' : List Failing) (jobs : List Job) (settled : (v : Who) → failing_of failing' v ≡ cond (is_failure moved.brought && same_seat v who) None (failing_of failing v)) where
    abbrev old : Scene
    old = scene_from w seats failing jobs

    abbrev new : Scene
    new = scene_from w' seats' failing' jobs

    log_then : (x : LogItem) → w' ≡ held.told w (x ∷ []) → new.log ≡ old.log ++ x ∷ []
    log_then x e = ap (λ (v : Held). v.past.log) e

    clock_then : (x : LogItem) → w' ≡ held.told w (x ∷ []) → new.clock ≡ old.clock
    clock_then x e = ap (λ (v : Held). v.clock) e

    seats_then : (task : Option Task) → moved.task ≡ task → (v : Who) → new.seats v ≡ cond (same_seat v who) (activity_of task) (old.seats v)
    seats_then task e v = activity_then who moved.task seats seats' changes v ∙ ap (λ (t : Option Task). cond (same_seat v who) (activity_of t) (old.seats v)) e

    -- no failure was used
    none_used : moved.brought ≡ brings.Item → (v : Who) → new.failing v ≡ old.failing v
    none_used e v = settled v ∙ ap (λ (b : Brought). cond (is_failure b && same_seat v who) None (old.failing v)) e

    one_used : moved.brought ≡ brings.Failure → (v : Who) → new.failing v ≡ cond (same_seat v who) None (old.failing v)
    one_used e v = settled v ∙ ap (λ (b : Brought). cond (is_failure b && same_seat v who) None (old.failing v)) e

    stays_by : (activity : Activity) (v : Who) (b : Bool) → same_seat v who ≡ b → old.seats who ≡ activity → cond b activity (old.seats v) ≡ old.seats v
    stays_by activity v true e at = sym (ap (λ (x : Who). old.seats x) (same_seat-true v who e) ∙ at)
    stays_by activity v false e at = refl

    still_inside : (operation : Operation) → moved.task ≡ Some (tasks.Begun operation) → old.seats who ≡ Inside → (v : Who) → new.seats v ≡ old.seats v
    still_inside operation e at v = seats_then (Some (tasks.Begun operation)) e v ∙ stays_by Inside v (same_seat v who) refl at

    begin_plays : (request : Request) → Begins who request w w' moved → Steps old who (Asked request) new
    begin_plays request x =
        same_scene new (with_seat (told old (items.Begin who request)) who Inside) (log_then (items.Begin who request) x.told_is) (clock_then (items.Begin who request) x.told_is)
        (seats_then (Some (tasks.Begun x.operation)) (ap (λ (m : Moved). m.task) x.moved_is)) (none_used (ap (λ (m : Moved). m.brought) x.moved_is)) (λ p. refl)

    end_plays : (given : Answer) → Ends who given w w' moved → Steps old who Inside new
    end_plays given x =
        let item : LogItem = items.End who x.answer in (
          item,
          seat_self who,
          tt,
          same_scene new (with_seat (told old item) who Idle) (log_then item x.told_is) (clock_then item x.told_is)
              (seats_then None (ap (λ (m : Moved). m.task) x.moved_is)) (none_used (ap (λ (m : Moved). m.brought) x.moved_is)) (λ p. refl),
        )

    tells_plays : (operation : Operation) (news : List LogItem) → w' ≡ held.told w news → moved.task ≡ Some (tasks.Begun operation) → old.seats who ≡ Inside → moved.brought ≡ brings.Item → Tells who old (failing_of failing who) news → Steps old who Inside new
    tells_plays operation news e task at item t =
        let told_is : w' ≡ held.told w (t.item ∷ []) = subst (λ (l : List LogItem). w' ≡ held.told w l) t.news_are e in (
          t.item,
          t.own_item,
          t.may_come,
          same_scene new (told old t.item) (log_then t.item told_is) (clock_then t.item told_is) (still_inside operation task at) (none_used item) (λ p. refl) ∙ sym t.plain,
        )

    fails_plays : (operation : Operation) (news : List LogItem) → w' ≡ held.told w news → moved.task ≡ Some (tasks.Begun operation) → old.seats who ≡ Inside → moved.brought ≡ brings.Failure → Fails who (failing_of failing who) news → Steps old who Inside new
    fails_plays operation news e task at failure t =
        let item : LogItem = items.Failed who t.memory in
        let told_is : w' ≡ held.told w (item ∷ []) = subst (λ (l : List LogItem). w' ≡ held.told w l) t.news_are e in (
          item,
          seat_self who,
          t.waited,
          same_scene new (with_failing (told old item) who None) (log_then item told_is) (clock_then item told_is) (still_inside operation task at) (one_used failure) (λ p. refl),
        )

    ask_plays : (n : Op) (call : Call) (done : ℕ) → seats_at seats who ≡ Where.Within n call done → old.seats who ≡ Inside → IsBrought moved.brought → Asks who n call done (failing_of failing who) w w' moved → Steps old who Inside new
    ask_plays n call done at inside brought x =
        let is_in : is_inside who w ≡ true = inside_there n call done at in
        let fits : StepFits x.progress true call done = subst (λ (b : Bool). StepFits x.progress b call done) is_in x.stepped.fits in
        let fated : IsFated (fate_of call (failing_of failing who)) true call x.progress = subst (λ (b : Bool). IsFated (fate_of call (failing_of failing who)) b call x.progress) is_in x.fated in
        let told_is = told_inside who w w' seats seats' moved a known goes changes once x.progress call done is_in x.stepped in
        let task : moved.task ≡ Some (tasks.Begun x.operation) = ap (λ (m : Moved). m.task) x.moved_is in
        let brought_is : moved.brought ≡ brought_by (fate_of call (failing_of failing who)) x.progress = ap (λ (m : Moved). m.brought) x.moved_is in
        elim (call_told who old (failing_of failing who) x.progress call done (within_there n call done at) fated fits x.clock (subst IsBrought brought_is brought)) [
          | inl t ↦ tells_plays x.operation (step_items x.progress who true call done) told_is task inside (brought_is ∙ t.0) t.1
          | inr t ↦ fails_plays x.operation (step_items x.progress who true call done) told_is task inside (brought_is ∙ t.0) t.1
        ]

    goes_plays : (step : Step) (n : Op) (done : ℕ) → seats_at seats who ≡ where_in step n done → old.seats who ≡ Inside → IsBrought moved.brought → Goes who step n done (failing_of failing who) w w' moved → Steps old who Inside new
    goes_plays (Ask call) n done at inside brought x = ask_plays n call done at inside brought x
    goes_plays (Done given) n done at inside brought x = end_plays given x

    advance_by : (task : Task) → task_of seats who ≡ Some task → IsBrought moved.brought → Advances who task (failing_of failing who) w w' moved → Steps old who (activity_of (Some task)) new
    advance_by (tasks.Asked request) at brought (inl x) = begin_plays request x
    advance_by (tasks.Asked request) at brought (inr x) = absurd (subst IsBrought (ap (λ (m : Moved). m.brought) x.moved_is) brought)
    advance_by (tasks.Begun operation) at brought x = goes_plays operation.wants operation.machine operation.done (ap where_of at) (ap activity_of at) brought x

    -- a step that lacked no memory is the schedule's
    pub advance_plays : (task : Task) → task_of seats who ≡ Some task → IsBrought moved.brought → Advances who task (failing_of failing who) w w' moved → Steps old who (old.seats who) new
    advance_plays task at brought x = subst (λ (activity : Activity). Steps old who activity new) (sym (ap activity_of at)) (advance_by task at brought x)

    -- ---- a step that had no memory

    -- it is refused: nothing was done, or its call was refused memory
    abbrev pub HadNone : Type 0
    HadNone = (new ≡ old) ⊎ (new ≡ told old (items.Failed who true))

    none_waits : moved.brought ≡ brings.Lack → (v : Who) → new.failing v ≡ old.failing v
    none_waits e v = settled v ∙ ap (λ (b : Brought). cond (is_failure b && same_seat v who) None (old.failing v)) e

    wait_lacks : (request : Request) → old.seats who ≡ Asked request → Waits request w w' moved → new ≡ old
    wait_lacks request at x =
        same_scene new old (ap (λ (v : Held). v.past.log) x.same) (ap (λ (v : Held). v.clock) x.same)
        (λ v. seats_then (Some (tasks.Asked request)) (ap (λ (m : Moved). m.task) x.moved_is) v ∙ stays_by (Asked request) v (same_seat v who) refl at) (none_waits (ap (λ (m : Moved). m.brought) x.moved_is)) (λ p. refl)

    told_lacks : (operation : Operation) (news : List LogItem) → w' ≡ held.told w news → moved.task ≡ Some (tasks.Begun operation) → old.seats who ≡ Inside → moved.brought ≡ brings.Lack → (news ≡ []) ⊎ (news ≡ items.Failed who true ∷ []) → HadNone
    told_lacks operation news e task at lack (inl none) =
        inl (same_scene new old (ap (λ (v : Held). v.past.log) e ∙ ap (λ (l : List LogItem). w.past.log ++ l) none ∙ append-nil w.past.log) (ap (λ (v : Held). v.clock) e) (still_inside operation task at) (none_waits lack) (λ p. refl))
    told_lacks operation news e task at lack (inr one) =
        let item : LogItem = items.Failed who true in
        let told_is : w' ≡ held.told w (item ∷ []) = subst (λ (l : List LogItem). w' ≡ held.told w l) one e in
        inr (same_scene new (told old item) (log_then item told_is) (clock_then item told_is) (still_inside operation task at) (none_waits lack) (λ p. refl))

    goes_lacks : (step : Step) (n : Op) (done : ℕ) → seats_at seats who ≡ where_in step n done → old.seats who ≡ Inside → moved.brought ≡ brings.Lack → Goes who step n done (failing_of failing who) w w' moved → HadNone
    goes_lacks (Ask call) n done at inside lack x =
        let fate : Fate = fate_of call (failing_of failing who) in
        let told_is = told_inside who w w' seats seats' moved a known goes changes once x.progress call done (inside_there n call done at) x.stepped in
        let progress_is : x.progress ≡ progresses.Reply replies.NoMemory = lacks_so fate x.progress (sym (ap (λ (m : Moved). m.brought) x.moved_is) ∙ lack) in
        told_lacks x.operation (items_refused who true call) (subst (λ (p : Progress). w' ≡ held.told w (step_items p who true call done)) progress_is told_is) (ap (λ (m : Moved). m.task) x.moved_is) inside lack (refused_so who call)
    goes_lacks (Done given) n done at inside lack x = absurd (no_lack (sym (ap (λ (m : Moved). m.brought) x.moved_is) ∙ lack))

    pub advance_lacks : (task : Task) → task_of seats who ≡ Some task → moved.brought ≡ brings.Lack → Advances who task (failing_of failing who) w w' moved → HadNone
    advance_lacks (tasks.Asked request) at lack (inl x) = absurd (no_lack (sym (ap (λ (m : Moved). m.brought) x.moved_is) ∙ lack))
    advance_lacks (tasks.Asked request) at lack (inr x) = inl (wait_lacks request (ap activity_of at) x)
    advance_lacks (tasks.Begun operation) at lack x = goes_lacks operation.wants operation.machine operation.done (ap where_of at) (ap activity_of at) lack x
