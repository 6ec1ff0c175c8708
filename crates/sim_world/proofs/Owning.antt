-- The outsider's own item: whatever it is, the stage stays in order.
use Rattle.std.proofs.Common.{◌≡◌, ℕ, List, Option, Some, sym, ap, ◌∙◌, subst}
use Rattle.cache_types.specs.declared.seat.Who.{Who}
use Rattle.file_log.specs.declared.call.Call.{Call}
use Rattle.file_log.specs.declared.item.LogItem.{LogItem}
use Rattle.file_log.specs.Legal.{Legal}
use Rattle.file_log.specs.Log.{History, is_seat}
use Rattle.file_log.specs.State.{state_of}
use Rattle.file_log.proofs.All.{seat_self}
use Rattle.file_model.specs.declared.step.Progress.{Progress}
use Rattle.file_model.specs.Held.{Held}
use Rattle.file_model.specs.Steps.{step_items, is_inside, Stepped}
use Rattle.seat_rules.specs.Places.{past}
use Rattle.folder_store.proofs.Keeping.{follow}
use Rattle.seat_order.proofs.Mine.{step_mine}
use Rattle.seat_order.proofs.Coming.{all_apart_pass}
use Rattle.sim_world.specs.declared.jobs.Job.{Job}
use Rattle.sim_world.specs.declared.jobs.Offered.{Offered}
use Rattle.sim_world.specs.declared.seats.Seat.{Seat}
use Rattle.sim_world.specs.Stages.{apart_of, seats_at, AreSeated, AreJobs}
use Rattle.sim_world.proofs.Ordered.{past_is, legal_then}
use Rattle.sim_world.proofs.Stepping.{step_leaves, leaves_told, jobs_stay}

pub own_seated : (outsider : Option Who) (me : Who) (w w' : Held) (seats : List Seat) (call : Call) (done : ℕ) (progress : Progress) → AreSeated (apart_of outsider) w seats → outsider ≡ Some me → Stepped me call done progress w w' → AreSeated (apart_of outsider) w' seats
own_seated outsider me w w' seats call done progress a is s =
    let news : List LogItem = step_items progress me (is_inside me w) call done in
    let legal : Legal (state_of (past w.past.log)) news = subst (λ (h : History). Legal (state_of h) news) (past_is w a.start) s.legal in
    subst (λ (v : Held). AreSeated (apart_of outsider) v seats) (sym s.items) (record {
      start = a.start;
      legal = legal_then w news a.start a.legal s.legal;
      orderly = all_apart_pass (apart_of outsider) me (seats_at seats) w.past.log news a.orderly (ap (is_seat me) is ∙ seat_self me) (step_mine me progress (is_inside me w) call done) (follow (past w.past.log) news legal);
      once = a.once;
      fits = a.fits;
    })

pub own_jobs : (me : Who) (w w' : Held) (jobs : List Job) (offered : List Offered) (call : Call) (done : ℕ) (progress : Progress) → Stepped me call done progress w w' → AreJobs (state_of w.past) jobs offered → AreJobs (state_of w'.past) jobs offered
own_jobs me w w' jobs offered call done progress s j =
    jobs_stay (state_of w.past) (state_of w'.past) jobs offered
    (leaves_told w w' (step_items progress me (is_inside me w) call done) s.items (step_leaves me progress (is_inside me w) call done (state_of w.past))) j
