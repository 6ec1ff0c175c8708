-- A step of a busy seat, whose task is taken out of the table and put back after it; and one of a seat that is at nothing.
use Rattle.std.proofs.Common.{◌≡◌, ◌⊎◌, cond, ◌&&◌, Bool, true, false, List, Option, Some, None, refl, sym, ap, subst, ◌∙◌}
use Rattle.cache_types.specs.declared.seat.Who.{Who}
use Rattle.cache_types.specs.Seats.{same_seat}
use Rattle.file_log.specs.State.{state_of}
use Rattle.file_model.specs.Held.{Held}
use Rattle.world_tables.proofs.Finds.{same_seat-true}
use Rattle.sim_world.specs.declared.failing.Failing.{Failing}
use Rattle.sim_world.specs.declared.jobs.Job.{Job}
use Rattle.sim_world.specs.declared.jobs.Offered.{Offered}
use Rattle.file_log.specs.declared.item.LogItem.TheVariants as items
use Rattle.sim_world.specs.declared.operation.Brought.TheVariants as brings
use Rattle.sim_world.specs.declared.operation.Moved.{Moved}
use Rattle.sim_world.specs.declared.seats.Seat.{Seat}
use Rattle.sim_world.specs.declared.seats.Task.{Task}
use Rattle.sim_world.specs.Played.{Steps}
use Rattle.sim_world.specs.Scene.{Activity, told}
use Rattle.sim_world.specs.Stages.{activity_of, where_of, seats_at, IsFit, scene_from, AreSeated, AreJobs}
use Rattle.sim_world.specs.Steps.{Advances, IsBrought, is_failure}
use Rattle.sim_world.specs.Tables.{task_of, Once, failing_of, seats_with}
use Rattle.seat_order.proofs.Coming.{stopped_move}
use Rattle.sim_world.proofs.Ordered.{Changes, put_back, once_back}
use Rattle.sim_world.proofs.Scenes.{same_scene}
use Rattle.sim_world.proofs.Advancing.{advance_seated, advance_jobs, advance_plays, advance_lacks}

-- the seat was taken out of the table
abbrev pub TakesOut : Who → List Seat → List Seat → Type 0
TakesOut who seats out = (v : Who) → task_of out v ≡ cond (same_seat v who) None (task_of seats v)

module _ {apart : Who → Bool} (who : Who) (w w' : Held) (seats out seats' : List Seat) (task : Task) (moved : Moved) (a : AreSeated apart w seats) (known : apart who ≡ false) (goes : (state_of w.past).halted who.process ≡ false) (at : Some task ≡ task_of seats who) (taken : TakesOut who seats out) (once : Once out) (put : seats' ≡ seats_with who moved.task out) where
  back : Changes who moved.task seats seats'
  back = subst (Changes who moved.task seats) (sym put) (put_back who moved.task seats out taken)

  once_now : Once seats'
  once_now = subst Once (sym put) (once_back who moved.task seats out taken once)

  pub moved_seated : (failing : Option Bool) → Advances who task failing w w' moved → AreSeated apart w' seats'
  moved_seated failing x = advance_seated who w w' seats seats' moved a known goes back once_now task failing (sym at) x

  pub moved_jobs : (failing : Option Bool) (jobs : List Job) (offered : List Offered) → Advances who task failing w w' moved → AreJobs (state_of w.past) jobs offered → AreJobs (state_of w'.past) jobs offered
  moved_jobs failing jobs offered x j = advance_jobs who w w' seats seats' moved a known goes back once_now task failing jobs offered (sym at) x j

  pub moved_plays : (failing failing' : List Failing) (jobs : List Job) (waits : Option Bool) → waits ≡ failing_of failing who → ((v : Who) → failing_of failing' v ≡ cond (is_failure moved.brought && same_seat v who) None (failing_of failing v)) → IsBrought moved.brought
      → Advances who task waits w w' moved → Steps (scene_from w seats failing jobs) who ((scene_from w seats failing jobs).seats who) (scene_from w' seats' failing' jobs)
  moved_plays failing failing' jobs waits is settled brought x =
      advance_plays who w w' seats seats' moved a known goes back once_now failing failing' jobs settled task (sym at) brought (subst (λ (f : Option Bool). Advances who task f w w' moved) is x)

  pub moved_lacks : (failing failing' : List Failing) (jobs : List Job) (waits : Option Bool) → waits ≡ failing_of failing who → ((v : Who) → failing_of failing' v ≡ cond (is_failure moved.brought && same_seat v who) None (failing_of failing v)) → moved.brought ≡ brings.Lack
      → Advances who task waits w w' moved → (scene_from w' seats' failing' jobs ≡ scene_from w seats failing jobs) ⊎ (scene_from w' seats' failing' jobs ≡ told (scene_from w seats failing jobs) (items.Failed who true))
  moved_lacks failing failing' jobs waits is settled lack x =
      advance_lacks who w w' seats seats' moved a known goes back once_now failing failing' jobs settled task (sym at) lack (subst (λ (f : Option Bool). Advances who task f w w' moved) is x)

-- ---- a seat that is at nothing

same_by : (seats : List Seat) (who v : Who) (b : Bool) → same_seat v who ≡ b → None ≡ task_of seats who → cond b None (task_of seats v) ≡ task_of seats v
same_by seats who v true e none = none ∙ sym (ap (task_of seats) (same_seat-true v who e))
same_by seats who v false e none = refl

pub none_out : (who : Who) (seats out : List Seat) → None ≡ task_of seats who → TakesOut who seats out → (v : Who) → task_of out v ≡ task_of seats v
none_out who seats out none taken v = taken v ∙ same_by seats who v (same_seat v who) refl none

pub idle_seated : {apart : Who → Bool} (who : Who) (w : Held) (seats out : List Seat) → AreSeated apart w seats → None ≡ task_of seats who → TakesOut who seats out → Once out → AreSeated apart w out
idle_seated {apart = apart} who w seats out a none taken once = record {
  start = a.start;
  legal = a.legal;
  orderly = stopped_move apart (seats_at seats) (seats_at out) w.past.log (λ v alive. ap where_of (none_out who seats out none taken v)) a.orderly;
  once = once;
  fits = λ v. subst IsFit (sym (none_out who seats out none taken v)) (a.fits v);
}

pub idle_scene : (who : Who) (w : Held) (seats out : List Seat) (failing : List Failing) (jobs : List Job) → None ≡ task_of seats who → TakesOut who seats out → scene_from w out failing jobs ≡ scene_from w seats failing jobs
idle_scene who w seats out failing jobs none taken =
    same_scene (scene_from w out failing jobs) (scene_from w seats failing jobs) refl refl (λ v. ap activity_of (none_out who seats out none taken v)) (λ v. refl) (λ p. refl)

-- its step does nothing
pub idle_plays : (who : Who) (w : Held) (seats out : List Seat) (failing : List Failing) (jobs : List Job) → None ≡ task_of seats who → TakesOut who seats out → Steps (scene_from w seats failing jobs) who ((scene_from w seats failing jobs).seats who) (scene_from w out failing jobs)
idle_plays who w seats out failing jobs none taken =
    subst (λ (activity : Activity). Steps (scene_from w seats failing jobs) who activity (scene_from w out failing jobs)) (ap activity_of none) (idle_scene who w seats out failing jobs none taken)
