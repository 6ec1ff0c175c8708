-- What each turn but a step keeps, and that it is the schedule's.
use Rattle.std.proofs.Common.{◌≡◌, ◌↔◌, ◌<◌, inl, inr, ℕ, ◌+◌, cond, nat_eq, not, ◌||◌, Bool, true, false, IsTrue, List, [], ◌∷◌, ◌++◌, length, map, drop, Option, Some, None, Result, Ok, Err, OnOk, OnErr, refl, sym, ap, subst, ◌∙◌, arith}
use Rattle.std.specs.Prelude.{option_map}
use Rattle.std.specs.List.{Contains, AllByRecursion}
use Rattle.std.proofs.lemmas.Bool.{false≢true, eqb-true}
use Rattle.std.proofs.lemmas.List.Sums.{fold-append}
use Rattle.cache_types.specs.declared.name.Name.TheVariants.{Ro, RoIdx}
use Rattle.cache_types.specs.declared.request.Request.{Request}
use Rattle.cache_types.specs.declared.seat.Who.{Who}
use Rattle.cache_types.specs.Seats.{same_seat}
use Rattle.file_log.specs.declared.item.LogItem.{LogItem}
use Rattle.file_log.specs.declared.item.LogItem.TheVariants as items
use Rattle.file_log.specs.declared.ticket.Ticket.{Ticket}
use Rattle.file_log.specs.Legal.{IsLegal, IsPut, IsFront, MayQueue}
use Rattle.file_log.specs.Fits.{RequestFits}
use Rattle.file_log.specs.Log.{seat_of}
use Rattle.file_log.specs.State.{State, first, after, state_of}
use Rattle.file_model.specs.Held.{Held}
use Rattle.file_model.specs.Held as held
use Rattle.seat_rules.specs.Places.{past}
use Rattle.op_machine.specs.Requests.{IsBuilt}
use Rattle.seat_order.proofs.Coming.{apart_at_first, taken_passes, stopped_move}
use Rattle.world_tables.proofs.Finds.{same_seat-true}
use Rattle.world_tables.proofs.Listings.{first_or_later}
use Rattle.sim_world.specs.declared.failing.Failing.{Failing}
use Rattle.sim_world.specs.declared.jobs.Job.{Job}
use Rattle.sim_world.specs.declared.jobs.Offered.{Offered}
use Rattle.sim_world.specs.declared.seats.Seat.{Seat}
use Rattle.sim_world.specs.declared.seats.Task.{Task}
use Rattle.sim_world.specs.declared.seats.Task.TheVariants as tasks
use Rattle.sim_world.specs.Played.{Turns, IsFree, IsAbsent, MayOffer, offered, taken}
use Rattle.sim_world.specs.Scene.{Scene, Idle, Asked, Waiting, told, with_seat, with_queue, next_ticket}
use Rattle.sim_world.specs.Stages.{activity_of, scene_from, where_of, seats_at, IsFit, AreSeated, AreJobs, IsJob}
use Rattle.sim_world.specs.Tables.{task_of, Once, seats_with, jobs_of, waiting_of, front, offered_to}
use Rattle.sim_world.proofs.JobTable.{one_more}
use Rattle.sim_world.proofs.Ordered.{state_is, legal_then, put_new, fits_then, unseated_seated}
use Rattle.sim_world.proofs.Scenes.{same_scene, activity_then}
use Rattle.sim_world.proofs.Stepping.{state_told}

-- ---- turns that apply, and others

pub turn_applied : {P Q : Type 0} (old new : Scene) → P → Q → Turns P old new Q
turn_applied old new p does = record { applied = λ again. does; passed = λ none. absurd (none p) }

-- ---- before any turn

pub first_seated : (apart : Who → Bool) (w : Held) → w ≡ record { past = record { start = []; log = [] }; clock = 0 } → AreSeated apart w []
first_seated apart w e = subst (λ (v : Held). AreSeated apart v []) (sym e) (record { start = refl; legal = tt; orderly = apart_at_first apart; once = tt; fits = λ who. tt })

pub first_jobs : (w : Held) → w ≡ record { past = record { start = []; log = [] }; clock = 0 } → AreJobs (state_of w.past) [] []
first_jobs w e = subst (λ (v : Held). AreJobs (state_of v.past) [] []) (sym e) (record { tickets = λ p. refl; fit = λ p. tt; count = λ p. refl; lower = λ p ticket there. absurd (omega (arith, there.1)) })

-- ---- tests

not_decides : (h x : Bool) → h ≡ x → IsTrue (not h) ↔ (x ≡ false)
not_decides true x e = (λ clash. absurd cc, λ never. absurd (false≢true (sym never ∙ sym e)))
not_decides false x e = (λ yes. sym e, λ never. refl)

pub goes_on_scene : (w : Held) (p : ℕ) (h : Bool) → w.past.start ≡ [] → h ≡ (state_of w.past).halted p → IsTrue (not h) ↔ ((state_of (past w.past.log)).halted p ≡ false)
goes_on_scene w p h start e = not_decides h _ (e ∙ ap (λ (s : State). s.halted p) (state_is w start))

idle_is : (task : Option Task) → activity_of task ≡ Idle → task ≡ None
idle_is None e = refl
idle_is (Some (tasks.Asked request)) e = absurd cc
idle_is (Some (tasks.Begun operation)) e = absurd cc

pub free_none : (seats : List Seat) (who : Who) → activity_of (task_of seats who) ≡ Idle → task_of seats who ≡ None
free_none seats who e = idle_is (task_of seats who) e

-- ---- a request that is given

asked_by : (b : Bool) (request : Request) (task : Option Task) → (b ≡ true → task ≡ None) → where_of (cond b (Some (tasks.Asked request)) task) ≡ where_of task
asked_by true request task none = sym (ap where_of (none refl))
asked_by false request task none = refl

asked_where : (who : Who) (request : Request) (seats : List Seat) → task_of seats who ≡ None → (v : Who) → seats_at (seats_with who (Some (tasks.Asked request)) seats) v ≡ seats_at seats v
asked_where who request seats none v = asked_by (same_seat v who) request (task_of seats v) (λ e. ap (task_of seats) (same_seat-true v who e) ∙ none)

pub asked_seated : {apart : Who → Bool} (w : Held) (seats : List Seat) (who : Who) (request : Request) → AreSeated apart w seats → task_of seats who ≡ None → IsBuilt request → AreSeated apart w (seats_with who (Some (tasks.Asked request)) seats)
asked_seated {apart = apart} w seats who request a none built = record {
  start = a.start;
  legal = a.legal;
  orderly = stopped_move apart (seats_at seats) (seats_at (seats_with who (Some (tasks.Asked request)) seats)) w.past.log (λ v alive. asked_where who request seats none v) a.orderly;
  once = (none, a.once);
  fits = fits_then who (Some (tasks.Asked request)) seats (seats_with who (Some (tasks.Asked request)) seats) (put_new who (tasks.Asked request) seats) built a.fits;
}

-- ---- queues that stay

pub jobs_same : (s s' : State) (jobs : List Job) (offered : List Offered) → ((p : ℕ) → s'.waiting p ≡ s.waiting p) → ((p : ℕ) → s'.used p ≡ s.used p) → AreJobs s jobs offered → AreJobs s' jobs offered
jobs_same s s' jobs offered waiting used j = record {
  tickets = λ p. waiting p ∙ j.tickets p;
  fit = j.fit;
  count = λ p. j.count p ∙ ap length (sym (used p));
  lower = λ p. subst (λ (tickets : List Ticket). (ticket : Ticket) → Contains tickets ticket → ticket.number < length tickets) (sym (used p)) (j.lower p);
}

-- after an item that is neither a Queued nor a Taken
pub jobs_told : (w : Held) (x : LogItem) (jobs : List Job) (offered : List Offered) → ((p : ℕ) → (after (state_of w.past) x).waiting p ≡ (state_of w.past).waiting p) → ((p : ℕ) → (after (state_of w.past) x).used p ≡ (state_of w.past).used p)
    → AreJobs (state_of w.past) jobs offered → AreJobs (state_of (held.told w (x ∷ [])).past) jobs offered
jobs_told w x jobs offered waiting used j =
    subst (λ (s : State). AreJobs s jobs offered) (sym (state_told w (x ∷ []))) (jobs_same (state_of w.past) (after (state_of w.past) x) jobs offered waiting used j)

-- ---- a process that is stopped

or_none : (a b : Bool) → (a || b) ≡ false → a ≡ false
or_none true b e = absurd cc
or_none false b e = refl

nat_flip : (a b : ℕ) → nat_eq a b ≡ nat_eq b a
nat_flip a b = grind arith

goes_elsewhere : (log : List LogItem) (p q : ℕ) → (state_of (past (log ++ items.Stop p ∷ []))).halted q ≡ false → nat_eq q p ≡ false
goes_elsewhere log p q e =
    nat_flip q p ∙ or_none (nat_eq p q) ((state_of (past log)).halted q) (sym (ap (λ (s : State). s.halted q) (fold-append after (first []) log (items.Stop p ∷ []))) ∙ e)

-- the seats of the process have nothing any more
abbrev pub Clears : ℕ → List Seat → List Seat → Type 0
Clears p old new = (v : Who) → task_of new v ≡ cond (nat_eq v.process p) None (task_of old v)

cleared_fit : (b : Bool) (task : Option Task) → IsFit task → IsFit (cond b None task)
cleared_fit true task fits = tt
cleared_fit false task fits = fits

pub stopped_seated : {apart : Who → Bool} (w : Held) (p : ℕ) (seats seats' : List Seat) → AreSeated apart w seats → Clears p seats seats' → Once seats' → AreSeated apart (held.told w (items.Stop p ∷ [])) seats'
stopped_seated {apart = apart} w p seats seats' a clears once =
    let stopped = unseated_seated w seats (items.Stop p) a refl (tt, tt) in
    record {
      start = stopped.start;
      legal = stopped.legal;
      orderly = stopped_move apart (seats_at seats) (seats_at seats') (w.past.log ++ items.Stop p ∷ [])
          (λ v goes. ap where_of (clears v ∙ ap (λ (b : Bool). cond b None (task_of seats v)) (goes_elsewhere w.past.log p v.process goes))) stopped.orderly;
      once = once;
      fits = λ v. subst IsFit (sym (clears v)) (cleared_fit (nat_eq v.process p) (task_of seats v) (a.fits v));
    }

-- ---- the clock

pub clock_seated : {apart : Who → Bool} (w : Held) (now : ℕ) (seats : List Seat) → AreSeated apart w seats → AreSeated apart (record w { clock = now }) seats
clock_seated w now seats a = record { start = a.start; legal = a.legal; orderly = a.orderly; once = a.once; fits = a.fits }

-- ---- a job that is offered

length_tickets : (jobs : List Waiting) → length (map (λ (job : Waiting). job.ticket) jobs) ≡ length jobs
length_tickets [] = refl
length_tickets (job ∷ jobs) = omega (arith, length_tickets jobs)

pub may_queue : (w : Held) (p : ℕ) (request : Request) (ticket : Ticket) (jobs : List Job) (offered' : List Offered) → AreJobs (state_of w.past) jobs offered' → ticket.number ≡ offered_to offered' p
    → (state_of w.past).halted p ≡ false → length (jobs_of p jobs) < 32 → IsPut request → RequestFits request → MayQueue (state_of w.past) p ticket request
may_queue w p request ticket jobs offered' j number goes room put fits = record {
  alive = goes;
  room = omega (arith, room, ap length (j.tickets p), length_tickets (jobs_of p jobs));
  new = λ there. omega (arith, j.lower p ticket there, number, j.count p);
  put = put;
  fits = fits;
}

map_more : (jobs : List Waiting) (job : Waiting) → map (λ (x : Waiting). x.ticket) (jobs ++ job ∷ []) ≡ map (λ (x : Waiting). x.ticket) jobs ++ job.ticket ∷ []
map_more [] job = refl
map_more (x ∷ jobs) job = ap (λ (ts : List Ticket). x.ticket ∷ ts) (map_more jobs job)

all_more : (jobs : List Waiting) (job : Waiting) → AllByRecursion IsJob jobs → IsJob job → AllByRecursion IsJob (jobs ++ job ∷ [])
all_more [] job all one = (one, tt)
all_more (x ∷ jobs) job all one = (all.0, all_more jobs job all.1 one)

-- where another process's queue is as before
tickets_by : (b k : Bool) (before : List Ticket) (jobs : List Waiting) (job : Waiting) → b ≡ k → before ≡ map (λ (x : Waiting). x.ticket) jobs → cond b (before ++ job.ticket ∷ []) before ≡ map (λ (x : Waiting). x.ticket) (cond k (jobs ++ job ∷ []) jobs)
tickets_by true true before jobs job e same = ap (λ (ts : List Ticket). ts ++ job.ticket ∷ []) same ∙ sym (map_more jobs job)
tickets_by false false before jobs job e same = same
tickets_by true false before jobs job e same = absurd cc
tickets_by false true before jobs job e same = absurd cc

fit_by : (k : Bool) (jobs : List Waiting) (job : Waiting) → AllByRecursion IsJob jobs → IsJob job → AllByRecursion IsJob (cond k (jobs ++ job ∷ []) jobs)
fit_by true jobs job all one = all_more jobs job all one
fit_by false jobs job all one = all

count_by : (b k : Bool) (count old : ℕ) (ticket : Ticket) (used : List Ticket) → b ≡ k → (k ≡ true → count ≡ length used + 1) → old ≡ length used → cond k count old ≡ length (cond b (ticket ∷ used) used)
count_by true true count old ticket used e more same = omega (arith, more refl)
count_by false false count old ticket used e more same = same
count_by true false count old ticket used e more same = absurd cc
count_by false true count old ticket used e more same = absurd cc

lower_by : (b : Bool) (new : Ticket) (used : List Ticket) → (b ≡ true → new.number ≡ length used) → ((ticket : Ticket) → Contains used ticket → ticket.number < length used) → (ticket : Ticket) → Contains (cond b (new ∷ used) used) ticket → ticket.number < length (cond b (new ∷ used) used)
lower_by true new used number lower ticket there = elim (first_or_later new ticket used there) [
  | inl e ↦ (let same : new.number ≡ ticket.number = ap (λ (t : Ticket). t.number) e in omega (arith, same, number refl))
  | inr later ↦ omega (arith, lower ticket later)
]
lower_by false new used number lower ticket there = lower ticket there

pub offered_jobs : (w : Held) (p : ℕ) (request : Request) (ticket : Ticket) (jobs : List Job) (offered' offered'' : List Offered) (count : ℕ) → AreJobs (state_of w.past) jobs offered' → ticket.number ≡ offered_to offered' p → count ≡ ticket.number + 1 → IsBuilt request
    → ((q : ℕ) → offered_to offered'' q ≡ cond (nat_eq q p) count (offered_to offered' q))
    → AreJobs (state_of (held.told w (items.Queued p ticket request ∷ [])).past) (jobs ++ (record { process = p; ticket = ticket; request = request }) ∷ []) offered''
offered_jobs w p request ticket jobs offered' offered'' count j number more built counted =
    let s : State = state_of w.past in
    let job : Job = record { process = p; ticket = ticket; request = request } in
    let number_at : (q : ℕ) → nat_eq q p ≡ true → ticket.number ≡ length (s.used q) = λ q e. number ∙ j.count p ∙ ap (λ (n : ℕ). length (s.used n)) (sym (eqb-true q p e)) in
    subst (λ (s : State). AreJobs s (jobs ++ job ∷ []) offered'') (sym (state_told w (items.Queued p ticket request ∷ []))) (record {
      tickets = λ q. tickets_by (nat_eq p q) (nat_eq q p) (s.waiting q) (jobs_of q jobs) (waiting_of job) (nat_flip p q) (j.tickets q) ∙ ap (map (λ (x : Waiting). x.ticket)) (sym (one_more q jobs job));
      fit = λ q. subst (AllByRecursion IsJob) (sym (one_more q jobs job)) (fit_by (nat_eq q p) (jobs_of q jobs) (waiting_of job) (j.fit q) built);
      count = λ q. counted q ∙ count_by (nat_eq p q) (nat_eq q p) count (offered_to offered' q) ticket (s.used q) (nat_flip p q) (λ e. omega (arith, more, number_at q e)) (j.count q);
      lower = λ q. lower_by (nat_eq p q) ticket (s.used q) (λ e. number_at q (nat_flip q p ∙ e)) (j.lower q);
    })

other_queue : (k : Bool) (q p : ℕ) (jobs : List Job) (x : Waiting) → nat_eq q p ≡ k → cond k (jobs_of q jobs ++ x ∷ []) (jobs_of q jobs) ≡ cond k (jobs_of p jobs ++ x ∷ []) (jobs_of q jobs)
other_queue true q p jobs x e = ap (λ (n : ℕ). jobs_of n jobs ++ x ∷ []) (eqb-true q p e)
other_queue false q p jobs x e = refl

pub offered_scene : (w : Held) (seats : List Seat) (failing : List Failing) (p : ℕ) (request : Request) (ticket : Ticket) (jobs : List Job) (offered' : List Offered) → AreJobs (state_of w.past) jobs offered' → w.past.start ≡ [] → ticket ≡ record { side = 0; number = offered_to offered' p }
    → scene_from (held.told w (items.Queued p ticket request ∷ [])) seats failing (jobs ++ (record { process = p; ticket = ticket; request = request }) ∷ []) ≡ offered (scene_from w seats failing jobs) p request
offered_scene w seats failing p request ticket jobs offered' j start e =
    let old : Scene = scene_from w seats failing jobs in
    let same : ticket ≡ next_ticket old p = e ∙ ap (λ (n : ℕ). record { side = 0; number = n }) (j.count p ∙ ap (λ (s : State). length (s.used p)) (state_is w start)) in
    let job : Job = record { process = p; ticket = ticket; request = request } in
    subst (λ (t : Ticket). scene_from (held.told w (items.Queued p ticket request ∷ [])) seats failing (jobs ++ job ∷ []) ≡ with_queue (told old (items.Queued p t request)) p (old.queue p ++ (record { ticket = t; request = request }) ∷ [])) same
    (same_scene (scene_from (held.told w (items.Queued p ticket request ∷ [])) seats failing (jobs ++ job ∷ [])) (with_queue (told old (items.Queued p ticket request)) p (old.queue p ++ waiting_of job ∷ [])) refl refl (λ v. refl) (λ v. refl)
    (λ q. one_more q jobs job ∙ other_queue (nat_eq q p) q p jobs (waiting_of job) refl))

-- ---- a job that is taken

-- the front job
pub front_is : (jobs : List Waiting) (ticket : Ticket) → Some ticket ≡ option_map (λ (x : Waiting). x.ticket) (front jobs) → IsFront (map (λ (x : Waiting). x.ticket) jobs) ticket
front_is [] ticket e = absurd cc
front_is (job ∷ jobs) ticket e = cc

front_fits : (jobs : List Waiting) (job : Waiting) → AllByRecursion IsJob jobs → Some job ≡ front jobs → IsBuilt job.request
front_fits [] job all e = absurd cc
front_fits (x ∷ jobs) job all e = let same : job ≡ x = cc in subst (λ (y : Waiting). IsBuilt y.request) (sym same) all.0

pub job_fits : (s : State) (jobs : List Job) (offered' : List Offered) (p : ℕ) (job : Job) → AreJobs s jobs offered' → option_map waiting_of (Some job) ≡ front (jobs_of p jobs) → IsBuilt job.request
job_fits s jobs offered' p job j e = front_fits (jobs_of p jobs) (waiting_of job) (j.fit p) e

drop_by : (b k : Bool) (before : List Ticket) (jobs : List Waiting) → b ≡ k → before ≡ map (λ (x : Waiting). x.ticket) jobs → cond b (drop 1 before) before ≡ map (λ (x : Waiting). x.ticket) (cond k (drop 1 jobs) jobs)
drop_by true true before [] e same = ap (drop 1) same
drop_by true true before (x ∷ jobs) e same = ap (drop 1) same
drop_by false false before jobs e same = same
drop_by true false before jobs e same = absurd cc
drop_by false true before jobs e same = absurd cc

fit_drop : (k : Bool) (jobs : List Waiting) → AllByRecursion IsJob jobs → AllByRecursion IsJob (cond k (drop 1 jobs) jobs)
fit_drop true [] all = tt
fit_drop true (x ∷ jobs) all = all.1
fit_drop false jobs all = all

pub taken_jobs : (w : Held) (who : Who) (ticket : Ticket) (jobs jobs' : List Job) (offered' : List Offered) → AreJobs (state_of w.past) jobs offered' → ((q : ℕ) → jobs_of q jobs' ≡ cond (nat_eq q who.process) (drop 1 (jobs_of q jobs)) (jobs_of q jobs))
    → AreJobs (state_of (held.told w (items.Taken who ticket ∷ [])).past) jobs' offered'
taken_jobs w who ticket jobs jobs' offered' j left =
    let s : State = state_of w.past in
    subst (λ (s : State). AreJobs s jobs' offered') (sym (state_told w (items.Taken who ticket ∷ []))) (record {
      tickets = λ q. drop_by (nat_eq who.process q) (nat_eq q who.process) (s.waiting q) (jobs_of q jobs) (nat_flip who.process q) (j.tickets q) ∙ ap (map (λ (x : Waiting). x.ticket)) (sym (left q));
      fit = λ q. subst (AllByRecursion IsJob) (sym (left q)) (fit_drop (nat_eq q who.process) (jobs_of q jobs) (j.fit q));
      count = λ q. j.count q;
      lower = λ q. j.lower q;
    })

pub taken_seated : {apart : Who → Bool} (w : Held) (seats : List Seat) (who : Who) (ticket : Ticket) → AreSeated apart w seats → apart who ≡ false → (state_of w.past).halted who.process ≡ false → task_of seats who ≡ None → IsLegal (state_of w.past) (items.Taken who ticket) → AreSeated apart (held.told w (items.Taken who ticket ∷ [])) seats
taken_seated {apart = apart} w seats who ticket a known goes none legal =
    let x : LogItem = items.Taken who ticket in
    let alive : (state_of (past w.past.log)).halted who.process ≡ false = sym (ap (λ (s : State). s.halted who.process) (state_is w a.start)) ∙ goes in
    record {
      start = a.start;
      legal = legal_then w (x ∷ []) a.start a.legal (legal, tt);
      orderly = taken_passes apart who (seats_at seats) (seats_at seats) w.past.log a.orderly known alive (λ v other. refl) ticket (ap where_of none) (subst (λ (s : State). IsLegal s x) (state_is w a.start) legal) (ap where_of none);
      once = a.once;
      fits = a.fits;
    }

rest_by : (k : Bool) (q p : ℕ) (jobs : List Job) → nat_eq q p ≡ k → cond k (drop 1 (jobs_of q jobs)) (jobs_of q jobs) ≡ cond k (drop 1 (jobs_of p jobs)) (jobs_of q jobs)
rest_by true q p jobs e = ap (λ (n : ℕ). drop 1 (jobs_of n jobs)) (eqb-true q p e)
rest_by false q p jobs e = refl

taken_by : (old : Scene) (who : Who) (job : Waiting) (jobs : List Waiting) → Some job ≡ front jobs → taken old who jobs ≡ with_seat (with_queue (told old (items.Taken who job.ticket)) who.process (drop 1 jobs)) who (Asked job.request)
taken_by old who job [] e = absurd cc
taken_by old who job (x ∷ jobs) e = let same : x ≡ job = cc in ap (λ (y : Waiting). with_seat (with_queue (told old (items.Taken who y.ticket)) who.process jobs) who (Asked y.request)) same

pub taken_scene : (w : Held) (seats : List Seat) (failing : List Failing) (who : Who) (job : Job) (jobs jobs' : List Job) → option_map waiting_of (Some job) ≡ front (jobs_of who.process jobs)
    → ((q : ℕ) → jobs_of q jobs' ≡ cond (nat_eq q who.process) (drop 1 (jobs_of q jobs)) (jobs_of q jobs))
    → scene_from (held.told w (items.Taken who job.ticket ∷ [])) (seats_with who (Some (tasks.Asked job.request)) seats) failing jobs' ≡ taken (scene_from w seats failing jobs) who (jobs_of who.process jobs)
taken_scene w seats failing who job jobs jobs' e left =
    let old : Scene = scene_from w seats failing jobs in
    let seats' : List Seat = seats_with who (Some (tasks.Asked job.request)) seats in
    same_scene (scene_from (held.told w (items.Taken who job.ticket ∷ [])) seats' failing jobs') (with_seat (with_queue (told old (items.Taken who job.ticket)) who.process (drop 1 (jobs_of who.process jobs))) who (Asked job.request)) refl refl
    (activity_then who (Some (tasks.Asked job.request)) seats seats' (put_new who (tasks.Asked job.request) seats)) (λ v. refl) (λ q. left q ∙ rest_by (nat_eq q who.process) q who.process jobs refl)
    ∙ sym (taken_by old who (waiting_of job) (jobs_of who.process jobs) e)

-- no job is taken from a queue without one
pub none_taken : (old : Scene) (who : Who) (jobs : List Waiting) → None ≡ option_map (λ (x : Waiting). x.ticket) (front jobs) → old ≡ taken old who jobs
none_taken old who [] e = refl
none_taken old who (x ∷ jobs) e = absurd cc

-- ---- a world that told an item of no seat

-- an item that leaves the queues as they are
abbrev pub LeavesQueues : LogItem → Type 0
LeavesQueues (items.Queued p ticket request) = ⊥
LeavesQueues (items.Taken who ticket) = ⊥
LeavesQueues x = Unit {0}

queues_wait : (s : State) (x : LogItem) → LeavesQueues x → (p : ℕ) → (after s x).waiting p ≡ s.waiting p
queues_wait s (items.Queued p' ticket request) leaves p = absurd leaves
queues_wait s (items.Taken who ticket) leaves p = absurd leaves
queues_wait s x leaves p = refl

queues_used : (s : State) (x : LogItem) → LeavesQueues x → (p : ℕ) → (after s x).used p ≡ s.used p
queues_used s (items.Queued p' ticket request) leaves p = absurd leaves
queues_used s x leaves p = refl

pub unseated_jobs : (w w' : Held) (x : LogItem) (jobs : List Job) (offered' : List Offered) → w' ≡ held.told w (x ∷ []) → LeavesQueues x → AreJobs (state_of w.past) jobs offered' → AreJobs (state_of w'.past) jobs offered'
unseated_jobs w w' x jobs offered' e leaves j =
    subst (λ (v : Held). AreJobs (state_of v.past) jobs offered') (sym e) (jobs_told w x jobs offered' (queues_wait (state_of w.past) x leaves) (queues_used (state_of w.past) x leaves) j)

pub unseated_now : {apart : Who → Bool} (w w' : Held) (seats : List Seat) (x : LogItem) → AreSeated apart w seats → w' ≡ held.told w (x ∷ []) → seat_of x ≡ None → IsLegal (state_of w.past) x → AreSeated apart w' seats
unseated_now {apart = apart} w w' seats x a e none legal = subst (λ (v : Held). AreSeated apart v seats) (sym e) (unseated_seated w seats x a none legal)

pub unseated_scene : (w w' : Held) (seats : List Seat) (failing : List Failing) (jobs : List Job) (x : LogItem) → w' ≡ held.told w (x ∷ []) → scene_from w' seats failing jobs ≡ told (scene_from w seats failing jobs) x
unseated_scene w w' seats failing jobs x e = ap (λ (v : Held). scene_from v seats failing jobs) e

-- ---- a read-only database

-- no file has either name, as the world's disk has it and as the scene does
pub absent_scene : (w : Held) (seats : List Seat) (failing : List Failing) (jobs : List Job) (root : ℕ) (name : List ℕ) → w.past.start ≡ []
    → (IsAbsent (scene_from w seats failing jobs) root name → ((state_of w.past).disk.names (Ro root name) ≡ None) × ((state_of w.past).disk.names (RoIdx root name) ≡ None))
    × (((state_of w.past).disk.names (Ro root name) ≡ None) × ((state_of w.past).disk.names (RoIdx root name) ≡ None) → IsAbsent (scene_from w seats failing jobs) root name)
absent_scene w seats failing jobs root name start =
    let e = state_is w start in
    let Names : State → Type 0 = λ s. (s.disk.names (Ro root name) ≡ None) × (s.disk.names (RoIdx root name) ≡ None) in
    (λ there. subst Names (sym e) there, λ here. subst Names e here)

-- the same where the world may have refused it, and then nothing changed
pub either_seated : {T E : Type 0} {apart : Who → Bool} (result : Result T E) (w w' : Held) (seats : List Seat) (x : LogItem) → AreSeated apart w seats → OnOk result (w' ≡ held.told w (x ∷ [])) → OnErr result (w' ≡ w) → seat_of x ≡ None → IsLegal (state_of w.past) x → AreSeated apart w' seats
either_seated (Ok v) w w' seats x a told_is same none legal = unseated_now w w' seats x a told_is none legal
either_seated {apart = apart} (Err e) w w' seats x a told_is same none legal = subst (λ (v : Held). AreSeated apart v seats) (sym same) a

pub either_jobs : {T E : Type 0} (result : Result T E) (w w' : Held) (x : LogItem) (jobs : List Job) (offered' : List Offered) → OnOk result (w' ≡ held.told w (x ∷ [])) → OnErr result (w' ≡ w) → LeavesQueues x → AreJobs (state_of w.past) jobs offered' → AreJobs (state_of w'.past) jobs offered'
either_jobs (Ok v) w w' x jobs offered' told_is same leaves j = unseated_jobs w w' x jobs offered' told_is leaves j
either_jobs (Err e) w w' x jobs offered' told_is same leaves j = subst (λ (v : Held). AreJobs (state_of v.past) jobs offered') (sym same) j

-- ---- two tests, the second made only where the first holds

pub both_hold : {P Q : Type 0} (a b r : Bool) → a ≡ true → r ≡ b → (IsTrue a ↔ P) → (IsTrue b ↔ Q) → IsTrue r ↔ (P × Q)
both_hold a b r first same decides decides' = (λ yes. (decides.0 first, decides'.0 (sym same ∙ yes)), λ both. same ∙ decides'.1 both.1)

pub first_fails : {P Q : Type 0} (a r : Bool) → a ≡ false → r ≡ false → (IsTrue a ↔ P) → IsTrue r ↔ (P × Q)
first_fails a r first same decides = (λ yes. absurd (false≢true (sym same ∙ yes)), λ both. absurd (false≢true (sym first ∙ decides.1 both.0)))

-- ---- what a job that is offered comes to

pub may_offer_queue : (w : Held) (seats : List Seat) (failing : List Failing) (jobs : List Job) (offered' : List Offered) (p : ℕ) (request told' : Request) (ticket : Ticket) → w.past.start ≡ [] → AreJobs (state_of w.past) jobs offered' → MayOffer (scene_from w seats failing jobs) p request
    → told' ≡ request → ticket.number ≡ offered_to offered' p → RequestFits told' → MayQueue (state_of w.past) p ticket told'
may_offer_queue w seats failing jobs offered' p request told' ticket start j may same number fits =
    may_queue w p told' ticket jobs offered' j number (ap (λ (s : State). s.halted p) (state_is w start) ∙ may.goes_on) may.room (subst IsPut (sym same) may.put) fits

-- the queues after it
pub offered_now : (w w' : Held) (p : ℕ) (request told' kept : Request) (ticket : Ticket) (jobs jobs' : List Job) (offered' offered'' : List Offered) (count : ℕ) → AreJobs (state_of w.past) jobs offered' → ticket.number ≡ offered_to offered' p → count ≡ ticket.number + 1 → IsBuilt request
    → w' ≡ held.told w (items.Queued p ticket told' ∷ []) → told' ≡ request → kept ≡ request → jobs' ≡ jobs ++ (record { process = p; ticket = ticket; request = kept }) ∷ []
    → ((q : ℕ) → offered_to offered'' q ≡ cond (nat_eq q p) count (offered_to offered' q)) → AreJobs (state_of w'.past) jobs' offered''
offered_now w w' p request told' kept ticket jobs jobs' offered' offered'' count j number more built e same same' put counted =
    let with_job : Request → List Job = λ r. jobs ++ (record { process = p; ticket = ticket; request = r }) ∷ [] in
    let told_is : w' ≡ held.told w (items.Queued p ticket request ∷ []) = e ∙ ap (λ (r : Request). held.told w (items.Queued p ticket r ∷ [])) same in
    let jobs_are : jobs' ≡ with_job request = put ∙ ap with_job same' in
    subst (λ (v : Held). AreJobs (state_of v.past) jobs' offered'') (sym told_is)
    (subst (λ (l : List Job). AreJobs (state_of (held.told w (items.Queued p ticket request ∷ [])).past) l offered'') (sym jobs_are)
    (offered_jobs w p request ticket jobs offered' offered'' count j number more built counted))

-- and the scene
pub offered_scene_now : (w w' : Held) (seats : List Seat) (failing : List Failing) (p : ℕ) (request told' kept : Request) (ticket : Ticket) (jobs jobs' : List Job) (offered' : List Offered) → AreJobs (state_of w.past) jobs offered' → w.past.start ≡ [] → ticket ≡ record { side = 0; number = offered_to offered' p }
    → w' ≡ held.told w (items.Queued p ticket told' ∷ []) → told' ≡ request → kept ≡ request → jobs' ≡ jobs ++ (record { process = p; ticket = ticket; request = kept }) ∷ [] → scene_from w' seats failing jobs' ≡ offered (scene_from w seats failing jobs) p request
offered_scene_now w w' seats failing p request told' kept ticket jobs jobs' offered' j start number e same same' put =
    let with_job : Request → List Job = λ r. jobs ++ (record { process = p; ticket = ticket; request = r }) ∷ [] in
    let told_is : w' ≡ held.told w (items.Queued p ticket request ∷ []) = e ∙ ap (λ (r : Request). held.told w (items.Queued p ticket r ∷ [])) same in
    ap (λ (v : Held). scene_from v seats failing jobs') told_is
    ∙ ap (λ (l : List Job). scene_from (held.told w (items.Queued p ticket request ∷ [])) seats failing l) (put ∙ ap with_job same')
    ∙ offered_scene w seats failing p request ticket jobs offered' j start number

-- ---- what a job that is taken comes to

-- the ticket in front can be taken
pub may_take : (w : Held) (seats : List Seat) (failing : List Failing) (jobs : List Job) (offered' : List Offered) (who : Who) (ticket : Ticket) → w.past.start ≡ [] → AreJobs (state_of w.past) jobs offered' → IsFree (scene_from w seats failing jobs) who
    → Some ticket ≡ option_map (λ (x : Waiting). x.ticket) (front (jobs_of who.process jobs)) → IsLegal (state_of w.past) (items.Taken who ticket)
may_take w seats failing jobs offered' who ticket start j free e =
    (ap (λ (s : State). s.halted who.process) (state_is w start) ∙ free.0, subst (λ (tickets : List Ticket). IsFront tickets ticket) (sym (j.tickets who.process)) (front_is (jobs_of who.process jobs) ticket e))

-- the job that was taken out is that in front
same_ticket : (jobs : List Waiting) (ticket : Ticket) (job : Waiting) → Some ticket ≡ option_map (λ (x : Waiting). x.ticket) (front jobs) → Some job ≡ front jobs → ticket ≡ job.ticket
same_ticket [] ticket job e at = absurd cc
same_ticket (x ∷ jobs) ticket job e at = let same : job ≡ x = cc in let front_ticket : ticket ≡ x.ticket = cc in front_ticket ∙ sym (ap (λ (y : Waiting). y.ticket) same)

module _ {apart : Who → Bool} (w w' : Held) (seats seats' out : List Seat) (failing : List Failing) (who : Who) (ticket : Ticket) (job : Job) (jobs jobs' : List Job) (offered' : List Offered) (a : AreSeated apart w seats) (known : apart who ≡ false) (j : AreJobs (state_of w.past) jobs offered') (free : IsFree (scene_from w seats failing jobs) who)
    (first : Some ticket ≡ option_map (λ (x : Waiting). x.ticket) (front (jobs_of who.process jobs))) (told_is : w' ≡ held.told w (items.Taken who ticket ∷ [])) (at : option_map waiting_of (Some job) ≡ front (jobs_of who.process jobs))
    (left : (q : ℕ) → jobs_of q jobs' ≡ cond (nat_eq q who.process) (drop 1 (jobs_of q jobs)) (jobs_of q jobs)) (kept : out ≡ seats) (put : seats' ≡ seats_with who (Some (tasks.Asked job.request)) out) where
  none : task_of seats who ≡ None
  none = free_none seats who free.1

  seats_are : seats' ≡ seats_with who (Some (tasks.Asked job.request)) seats
  seats_are = put ∙ ap (seats_with who (Some (tasks.Asked job.request))) kept

  taken_is : w' ≡ held.told w (items.Taken who job.ticket ∷ [])
  taken_is = told_is ∙ ap (λ (t : Ticket). held.told w (items.Taken who t ∷ [])) (same_ticket (jobs_of who.process jobs) ticket (waiting_of job) first at)

  pub taken_seated_now : AreSeated apart w' seats'
  taken_seated_now =
      let goes : (state_of w.past).halted who.process ≡ false = ap (λ (s : State). s.halted who.process) (state_is w a.start) ∙ free.0 in
      let mid : AreSeated apart (held.told w (items.Taken who ticket ∷ [])) seats = taken_seated w seats who ticket a known goes none (may_take w seats failing jobs offered' who ticket a.start j free first) in
      subst (λ (v : Held). AreSeated apart v seats') (sym told_is)
      (subst (AreSeated apart (held.told w (items.Taken who ticket ∷ []))) (sym seats_are)
      (asked_seated (held.told w (items.Taken who ticket ∷ [])) seats who job.request mid none (job_fits (state_of w.past) jobs offered' who.process job j at)))

  pub taken_jobs_now : AreJobs (state_of w'.past) jobs' offered'
  taken_jobs_now = subst (λ (v : Held). AreJobs (state_of v.past) jobs' offered') (sym told_is) (taken_jobs w who ticket jobs jobs' offered' j left)

  pub taken_scene_now : scene_from w' seats' failing jobs' ≡ taken (scene_from w seats failing jobs) who (jobs_of who.process jobs)
  taken_scene_now =
      ap (λ (v : Held). scene_from v seats' failing jobs') taken_is
      ∙ ap (λ (s : List Seat). scene_from (held.told w (items.Taken who job.ticket ∷ [])) s failing jobs') seats_are
      ∙ taken_scene w seats failing who job jobs jobs' at left

-- a job that was put at the end, where there was room for it
pub put_last : (ok : Bool) (jobs kept jobs' : List Job) (job : Job) → jobs' ≡ cond ok (kept ++ job ∷ []) kept → ok ≡ true → kept ≡ jobs → jobs' ≡ jobs ++ job ∷ []
put_last ok jobs kept jobs' job put fine same = put ∙ ap (λ (b : Bool). cond b (kept ++ job ∷ []) kept) fine ∙ ap (λ (l : List Job). l ++ job ∷ []) same

-- the counts of jobs that were offered, where room was made before
pub counted_so : (p count : ℕ) (offered' kept offered'' : List Offered) → kept ≡ offered' → ((q : ℕ) → offered_to offered'' q ≡ cond (nat_eq q p) count (offered_to kept q)) → (q : ℕ) → offered_to offered'' q ≡ cond (nat_eq q p) count (offered_to offered' q)
counted_so p count offered' kept offered'' same counted q = counted q ∙ ap (λ (l : List Offered). cond (nat_eq q p) count (offered_to l q)) same
