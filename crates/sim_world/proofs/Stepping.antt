-- A step of a busy seat: what is kept, and that it is the schedule's.
use Rattle.std.specs.List.{Contains}
use Rattle.file_log.specs.declared.ticket.Ticket.{Ticket}
use Rattle.world_tables.proofs.Finds.{same_seat-true}
use Rattle.std.proofs.Common.{◌<◌, ◌≡◌, ℕ, ◌+◌, cond, nat_eq, Bool, true, false, List, [], ◌∷◌, ◌++◌, fold, length, get_or, Option, Some, None, refl, sym, ap, subst, ◌∙◌}
use Rattle.std.proofs.lemmas.List.Sums.{fold-append}
use Rattle.cache_types.specs.declared.answer.Answer.{Answer}
use Rattle.cache_types.specs.declared.request.Request.{Request}
use Rattle.cache_types.specs.declared.seat.Who.{Who}
use Rattle.cache_types.specs.Seats.{same_seat}
use Rattle.file_log.specs.declared.call.Call.{Call}
use Rattle.file_log.specs.declared.call.Call.TheVariants as calls
use Rattle.file_log.specs.declared.item.LogItem.{LogItem}
use Rattle.file_log.specs.declared.item.LogItem.TheVariants as items
use Rattle.file_log.specs.declared.note.Note.TheVariants as notes
use Rattle.file_log.specs.declared.reply.Reply.TheVariants as replies
use Rattle.file_log.specs.Legal.{Legal, IsLegal}
use Rattle.file_log.specs.State.{State, first, after, state_of}
use Rattle.file_log.proofs.All.{seat_self}
use Rattle.file_model.specs.declared.step.Progress.{Progress}
use Rattle.file_model.specs.declared.step.Progress.TheVariants as progresses
use Rattle.file_model.specs.Held.{Held, told}
use Rattle.file_model.specs.Steps.{step_items, byte_item, done_items, is_inside, Stepped}
use Rattle.file_log.specs.Exchange.{items_refused}
use Rattle.seat_rules.specs.Places.{past}
use Rattle.op_machine.specs.declared.op.Op.{Op}
use Rattle.op_machine.specs.Machine.{asks, asked}
use Rattle.seat_order.specs.Places.{Where, Leads}
use Rattle.seat_order.proofs.Orderly.{OnlyMoves}
use Rattle.seat_order.specs.Apart.{IsAt, IsOrderlyBut}
use Rattle.seat_order.proofs.Moving.{at_begins, at_machine, at_ends}
use Rattle.seat_order.proofs.Coming.{own_items_pass, stepped_passes, seat_moves, stopped_move}
use Rattle.sim_world.specs.declared.jobs.Job.{Job}
use Rattle.sim_world.specs.declared.jobs.Offered.{Offered}
use Rattle.sim_world.specs.declared.operation.Operation.{Operation}
use Rattle.sim_world.specs.declared.operation.Moved.{Moved}
use Rattle.sim_world.specs.declared.seats.Seat.{Seat}
use Rattle.sim_world.specs.declared.seats.Task.{Task}
use Rattle.sim_world.specs.declared.seats.Task.TheVariants as tasks
use Rattle.sim_world.specs.Stages.{where_in, where_of, seats_at, IsFit, AreSeated, AreJobs}
use Rattle.sim_world.specs.Steps.{GoesTo, Asks, Ends, Begins, Waits}
use Rattle.sim_world.specs.Tables.{task_of, Once}
use Rattle.sim_world.proofs.Ordered.{state_is, legal_then, Changes, changed_here, others_stay, fits_then, stands_at, wants_next, seat_flip}

-- ---- processes and queues

-- the stopped processes and the queues are as before
pub record Leaves (s s' : State) : Type 0 where
  pub halted : (p : ℕ) → s'.halted p ≡ s.halted p
  pub waiting : (p : ℕ) → s'.waiting p ≡ s.waiting p
  pub used : (p : ℕ) → s'.used p ≡ s.used p

leaves_none : (s : State) → Leaves s s
leaves_none s = record { halted = λ p. refl; waiting = λ p. refl; used = λ p. refl }

byte_leaves : (who : Who) (call : Call) (done : ℕ) (s : State) → Leaves s (fold after s (byte_item who call done))
byte_leaves who (calls.WriteAt slot at bytes) done s = record { halted = λ p. refl; waiting = λ p. refl; used = λ p. refl }
byte_leaves who call done s = leaves_none s

done_leaves : (who : Who) (call : Call) (done : ℕ) (s : State) → Leaves s (fold after s (done_items who call done))
done_leaves who (calls.WriteAt slot at bytes) done s = by_test (nat_eq (length bytes) 0)
  where
    by_test : (b : Bool) → Leaves s (fold after s (cond b (items.Did who (calls.WriteAt slot at bytes) replies.Done ∷ []) (items.Byte who slot (at + done) (get_or bytes done 0) ∷ [])))
    by_test true = record { halted = λ p. refl; waiting = λ p. refl; used = λ p. refl }
    by_test false = record { halted = λ p. refl; waiting = λ p. refl; used = λ p. refl }
done_leaves who (calls.Tell (notes.Begin request)) done s = record { halted = λ p. refl; waiting = λ p. refl; used = λ p. refl }
done_leaves who (calls.Tell (notes.Evict store driver key)) done s = record { halted = λ p. refl; waiting = λ p. refl; used = λ p. refl }
done_leaves who (calls.Tell (notes.End answer)) done s = record { halted = λ p. refl; waiting = λ p. refl; used = λ p. refl }
done_leaves who call done s = record { halted = λ p. refl; waiting = λ p. refl; used = λ p. refl }

refused_by : (who : Who) (inside : Bool) (s : State) → Leaves s (fold after s (cond inside (items.Failed who true ∷ []) []))
refused_by who true s = record { halted = λ p. refl; waiting = λ p. refl; used = λ p. refl }
refused_by who false s = leaves_none s

refused_leaves : (who : Who) (inside : Bool) (call : Call) (s : State) → Leaves s (fold after s (items_refused who inside call))
refused_leaves who inside (calls.Tell note) s = leaves_none s
refused_leaves who inside call s = refused_by who inside s

pub step_leaves : (who : Who) (progress : Progress) (inside : Bool) (call : Call) (done : ℕ) (s : State) → Leaves s (fold after s (step_items progress who inside call done))
step_leaves who progresses.More inside call done s = byte_leaves who call done s
step_leaves who (progresses.Reply replies.Done) inside call done s = done_leaves who call done s
step_leaves who (progresses.Reply replies.Failed) inside call done s = record { halted = λ p. refl; waiting = λ p. refl; used = λ p. refl }
step_leaves who (progresses.Reply replies.NoMemory) inside call done s = refused_leaves who inside call s
step_leaves who (progresses.Reply reply) inside call done s = record { halted = λ p. refl; waiting = λ p. refl; used = λ p. refl }

pub state_told : (w : Held) (news : List LogItem) → state_of (told w news).past ≡ fold after (state_of w.past) news
state_told w news = fold-append after (first w.past.start) w.past.log news

pub leaves_told : (w w' : Held) (news : List LogItem) → w' ≡ told w news → Leaves (state_of w.past) (fold after (state_of w.past) news) → Leaves (state_of w.past) (state_of w'.past)
leaves_told w w' news e leaves = subst (λ (x : Held). Leaves (state_of w.past) (state_of x.past)) (sym e) (subst (Leaves (state_of w.past)) (sym (state_told w news)) leaves)

pub jobs_stay : (s s' : State) (jobs : List Job) (offered : List Offered) → Leaves s s' → AreJobs s jobs offered → AreJobs s' jobs offered
jobs_stay s s' jobs offered leaves j = record {
  tickets = λ p. leaves.waiting p ∙ j.tickets p;
  fit = j.fit;
  count = λ p. j.count p ∙ ap length (sym (leaves.used p));
  lower = λ p. subst (λ (tickets : List Ticket). (ticket : Ticket) → Contains tickets ticket → ticket.number < length tickets) (sym (leaves.used p)) (j.lower p);
}

-- ---- a step

module _ {apart : Who → Bool} (who : Who) (w w' : Held) (seats seats' : List Seat) (moved : Moved) (a : AreSeated apart w seats) (known : apart who ≡ false) (goes : (state_of w.past).halted who.process ≡ false) (changes : Changes who moved.task seats seats') (once : Once seats') where
  abbrev pub log : List LogItem
  log = w.past.log

  others : OnlyMoves who (seats_at seats) (seats_at seats')
  others = others_stay who moved.task seats seats' changes

  -- where the seat is said to stand
  at_me : (task : Option Task) → moved.task ≡ task → seats_at seats' who ≡ where_of task
  at_me task e = ap where_of (changed_here who moved.task seats seats' changes ∙ e)

  stands_now : (task : Option Task) (l : List LogItem) → moved.task ≡ task → IsAt who (where_of task) l → IsAt who (seats_at seats' who) l
  stands_now task l e s = subst (λ (place : Where). IsAt who place l) (sym (at_me task e)) s

  fit_now : (task : Option Task) → moved.task ≡ task → IsFit task → (v : Who) → IsFit (task_of seats' v)
  fit_now task e fits = fits_then who moved.task seats seats' changes (subst IsFit (sym e) fits) a.fits

  -- its own items came, and it stands after them
  one_comes : (task : Option Task) (x : LogItem) → moved.task ≡ task → IsFit task → w' ≡ told w (x ∷ []) → IsLegal (state_of w.past) x → IsOrderlyBut apart (seats_at seats') (log ++ x ∷ []) → AreSeated apart w' seats'
  one_comes task x e fits told_is legal orderly = subst (λ (v : Held). AreSeated apart v seats') (sym told_is) (record {
    start = a.start;
    legal = legal_then w (x ∷ []) a.start a.legal (legal, tt);
    orderly = orderly;
    once = once;
    fits = fit_now task e fits;
  })

  pub begin_seated : (request : Request) → task_of seats who ≡ Some (tasks.Asked request) → Begins who request w w' moved → AreSeated apart w' seats'
  begin_seated request at b =
      let x : LogItem = items.Begin who request in
      let task : Option Task = Some (tasks.Begun b.operation) in
      let e : moved.task ≡ task = ap (λ (m : Moved). m.task) b.moved_is in
      let m : Op = b.is_first.0 in
      let after_it : List LogItem = log ++ x ∷ [] in
      let can : IsLegal (state_of (past log)) x = subst (λ (s : State). IsLegal s x) (state_is w a.start) b.legal in
      let begun = at_begins who log request (stands_at who w seats (Some (tasks.Asked request)) a known goes at) can in
      let built = subst IsFit at (a.fits who) in
      let wants : IsAt who (where_in (asks m) (asked m) 0) after_it = wants_next who m after_it (at_machine who after_it request m built b.is_first.1 begun.1) in
      let stands : IsAt who (where_of task) after_it = subst (λ (o : Operation). IsAt who (where_of (Some (tasks.Begun o))) after_it) (sym b.is_first.2) wants in
      one_comes task x e tt b.told_is b.legal
      (own_items_pass apart who (seats_at seats) (seats_at seats') log (x ∷ []) a.orderly known (seat_self who, tt) (can, tt) (begun.0, stands_now task after_it e stands, begun.2) others)

  same_by : (task : Task) (v : Who) (b : Bool) → same_seat v who ≡ b → task_of seats who ≡ Some task → cond b (Some task) (task_of seats v) ≡ task_of seats v
  same_by task v true e at = sym (ap (task_of seats) (same_seat-true v who e) ∙ at)
  same_by task v false e at = refl

  pub wait_seated : (request : Request) → task_of seats who ≡ Some (tasks.Asked request) → Waits request w w' moved → AreSeated apart w' seats'
  wait_seated request at x =
      let task : Option Task = Some (tasks.Asked request) in
      let e : moved.task ≡ task = ap (λ (m : Moved). m.task) x.moved_is in
      let same : (v : Who) → task_of seats' v ≡ task_of seats v = λ v. changes v ∙ ap (λ (t : Option Task). cond (same_seat v who) t (task_of seats v)) e ∙ same_by (tasks.Asked request) v (same_seat v who) refl at in
      subst (λ (v : Held). AreSeated apart v seats') (sym x.same) (record {
        start = a.start;
        legal = a.legal;
        orderly = stopped_move apart (seats_at seats) (seats_at seats') log (λ v alive. ap where_of (same v)) a.orderly;
        once = once;
        fits = λ v. subst IsFit (sym (same v)) (a.fits v);
      })

  pub end_seated : (given : Answer) → IsAt who (Where.Ending given) log → Ends who given w w' moved → AreSeated apart w' seats'
  end_seated given s x =
      let item : LogItem = items.End who x.answer in
      let e : moved.task ≡ None = ap (λ (m : Moved). m.task) x.moved_is in
      let can : IsLegal (state_of (past log)) item = subst (λ (s : State). IsLegal s item) (state_is w a.start) x.legal in
      let ended = at_ends who log given x.answer s x.answer_is can in
      one_comes None item e tt x.told_is x.legal
      (own_items_pass apart who (seats_at seats) (seats_at seats') log (item ∷ []) a.orderly known (seat_self who, tt) (can, tt) (ended.0, stands_now None (log ++ item ∷ []) e ended.1, ended.2) others)

  -- what a step tells while its operation is open
  abbrev pub news : Progress → Call → ℕ → List LogItem
  news progress call done = step_items progress who true call done

  pub told_inside : (progress : Progress) (call : Call) (done : ℕ) → is_inside who w ≡ true → Stepped who call done progress w w' → w' ≡ told w (news progress call done)
  told_inside progress call done inside s = subst (λ (b : Bool). w' ≡ told w (step_items progress who b call done)) inside s.items

  legal_inside : (progress : Progress) (call : Call) (done : ℕ) → is_inside who w ≡ true → Stepped who call done progress w w' → Legal (state_of w.past) (news progress call done)
  legal_inside progress call done inside s = subst (λ (b : Bool). Legal (state_of w.past) (step_items progress who b call done)) inside s.legal

  goes_still : (progress : Progress) (call : Call) (done : ℕ) → is_inside who w ≡ true → Stepped who call done progress w w' → (state_of w'.past).halted who.process ≡ false
  goes_still progress call done inside s =
      (leaves_told w w' (news progress call done) (told_inside progress call done inside s) (step_leaves who progress true call done (state_of w.past))).halted who.process ∙ goes

  -- the seat between two calls, and all others where they stand
  abbrev between : Op → Who → Where
  between m v = cond (same_seat v who) (Where.Between m) (seats_at seats v)

  between_here : (m : Op) → between m who ≡ Where.Between m
  between_here m = ap (λ (b : Bool). cond b (Where.Between m) (seats_at seats who)) (seat_self who)

  between_others : (m : Op) → OnlyMoves who (seats_at seats) (between m)
  between_others m v other = ap (λ (b : Bool). cond b (Where.Between m) (seats_at seats v)) (seat_flip v who ∙ other)

  from_between : (m : Op) → OnlyMoves who (between m) (seats_at seats')
  from_between m v other = others v other ∙ sym (between_others m v other)

  orderly_by : (n : Op) (call : Call) (done : ℕ) (progress : Progress) (operation : Operation) → seats_at seats who ≡ Where.Within n call done → is_inside who w ≡ true → Stepped who call done progress w w' → GoesTo n call done progress operation
      → moved.task ≡ Some (tasks.Begun operation) → (w'.past.start ≡ []) × IsOrderlyBut apart (seats_at seats') w'.past.log
  orderly_by n call done progresses.More operation at inside s to e =
      let here : seats_at seats' who ≡ Where.Within n call (done + 1) = at_me (Some (tasks.Begun operation)) e ∙ ap (λ (o : Operation). where_of (Some (tasks.Begun o))) to in
      stepped_passes apart who (seats_at seats) (seats_at seats') w w' n call done progresses.More a.start a.orderly known goes at s (subst (Leads n call done progresses.More) (sym here) (refl, refl, refl)) others
  orderly_by n call done (progresses.Reply reply) operation at inside s to e =
      let m : Op = to.0 in
      let leads : Leads n call done (progresses.Reply reply) (between m who) = subst (Leads n call done (progresses.Reply reply)) (sym (between_here m)) to.1 in
      let mid = stepped_passes apart who (seats_at seats) (between m) w w' n call done (progresses.Reply reply) a.start a.orderly known goes at s leads (between_others m) in
      let log' : List LogItem = w'.past.log in
      let alive : (state_of (past log')).halted who.process ≡ false = sym (ap (λ (s : State). s.halted who.process) (state_is w' mid.0)) ∙ goes_still (progresses.Reply reply) call done inside s in
      let stands : IsAt who (Where.Between m) log' = subst (λ (place : Where). IsAt who place log') (between_here m) (mid.1.there who known alive) in
      let wants : IsAt who (where_in (asks m) (asked m) 0) log' = wants_next who m log' stands in
      let now : IsAt who (where_of (Some (tasks.Begun operation))) log' = subst (λ (o : Operation). IsAt who (where_of (Some (tasks.Begun o))) log') (sym to.2) wants in
      (mid.0, seat_moves apart who (between m) (seats_at seats') log' mid.1 known (stands_now (Some (tasks.Begun operation)) log' e now) (from_between m))

  pub ask_seated : (n : Op) (call : Call) (done : ℕ) (failing : Option Bool) → seats_at seats who ≡ Where.Within n call done → is_inside who w ≡ true → Asks who n call done failing w w' moved → AreSeated apart w' seats'
  ask_seated n call done failing at inside x =
      let e : moved.task ≡ Some (tasks.Begun x.operation) = ap (λ (m : Moved). m.task) x.moved_is in
      let orderly = orderly_by n call done x.progress x.operation at inside x.stepped x.goes_to e in
      let told_is = told_inside x.progress call done inside x.stepped in
      record {
        start = orderly.0;
        legal = subst (λ (v : Held). Legal (first []) v.past.log) (sym told_is) (legal_then w (news x.progress call done) a.start a.legal (legal_inside x.progress call done inside x.stepped));
        orderly = orderly.1;
        once = once;
        fits = fit_now (Some (tasks.Begun x.operation)) e tt;
      }
