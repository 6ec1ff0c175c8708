-- What a stage means: the scene that it is, where each seat stands, and what is kept from turn to turn.
use Rattle.std.specs.Prelude.{◌≡◌, ◌<◌, ℕ, Bool, List, [], map, length, Option, Some, None}
use Rattle.std.specs.List.{AllByRecursion, Contains}
use Rattle.cache_types.specs.declared.seat.Who.{Who}
use Rattle.file_log.specs.declared.ticket.Ticket.{Ticket}
use Rattle.file_log.specs.Legal.{Legal}
use Rattle.file_log.specs.Log.{is_seat}
use Rattle.file_log.specs.State.{State, first, state_of}
use Rattle.file_log.specs.Told.{Grows, Owns}
use Rattle.file_model.specs.Held.{Held}
use Rattle.files_api.specs.declared.machine.Step.{Step}
use Rattle.files_api.specs.declared.machine.Step.TheVariants.{Ask, Done}
use Rattle.op_machine.specs.declared.op.Op.{Op}
use Rattle.op_machine.specs.Requests.{IsBuilt}
use Rattle.seat_order.specs.Places.{Where, Outside, Within, Ending}
use Rattle.seat_order.specs.Apart.{IsOrderlyBut}
use Rattle.sim_world.specs.declared.failing.Failing.{Failing}
use Rattle.sim_world.specs.declared.jobs.Job.{Job}
use Rattle.sim_world.specs.declared.jobs.Offered.{Offered}
use Rattle.sim_world.specs.declared.seats.Seat.{Seat}
use Rattle.sim_world.specs.declared.seats.Task.{Task}
use Rattle.sim_world.specs.declared.seats.Task.TheVariants as tasks
use Rattle.sim_world.specs.declared.stage.Stage.{Stage}
use Rattle.sim_world.specs.Scene.{Scene, Activity, Idle, Asked, Inside, Waiting}
use Rattle.sim_world.specs.Tables.{task_of, Once, failing_of, jobs_of, offered_to}

-- ---- the scene

-- what a seat is at
abbrev pub activity_of : Option Task → Activity
activity_of None = Idle
activity_of (Some (tasks.Asked request)) = Asked request
activity_of (Some (tasks.Begun operation)) = Inside

abbrev pub scene_from : Held → List Seat → List Failing → List Job → Scene
scene_from world seats failing jobs = record {
  log = world.past.log;
  clock = world.clock;
  seats = λ who. activity_of (task_of seats who);
  failing = λ who. failing_of failing who;
  queue = λ process. jobs_of process jobs;
}

abbrev pub scene_of : Stage → Scene
scene_of stage = scene_from stage.world stage.seats.items stage.failing.items stage.jobs.items

-- ---- where each seat stands

-- within the call that its machine wants, or at the end with its answer
abbrev pub where_in : Step → Op → ℕ → Where
where_in (Ask call) machine done = Within machine call done
where_in (Done answer) machine done = Ending answer

abbrev pub where_of : Option Task → Where
where_of None = Outside
where_of (Some (tasks.Asked request)) = Outside
where_of (Some (tasks.Begun operation)) = where_in operation.wants operation.machine operation.done

abbrev pub seats_at : List Seat → Who → Where
seats_at seats = λ who. where_of (task_of seats who)

-- ---- what is kept

-- a request that a seat hasn't begun is built
abbrev pub IsFit : Option Task → Type 0
IsFit None = Unit {0}
IsFit (Some (tasks.Asked request)) = IsBuilt request
IsFit (Some (tasks.Begun operation)) = Unit {0}

-- the seat calls from outside of the schedule
abbrev pub apart_of : Option Who → Who → Bool
apart_of outsider = λ who. is_seat who outsider

-- The log can be, and each seat that isn't set apart is never the first to break a rule and is in the world where its machine has it.
pub record AreSeated (apart : Who → Bool) (world : Held) (seats : List Seat) : Type 0 where
  pub start : world.past.start ≡ []
  pub legal : Legal (first []) world.past.log
  pub orderly : IsOrderlyBut apart (seats_at seats) world.past.log
  pub once : Once seats
  pub fits : (who : Who) → IsFit (task_of seats who)

-- a job that waits is a put that is built
abbrev pub IsJob : Waiting → Type 0
IsJob job = IsBuilt job.request

-- The tickets that wait are those of the jobs, and of each process so many were used as jobs were offered, with lower numbers.
pub record AreJobs (s : State) (jobs : List Job) (offered : List Offered) : Type 0 where
  pub tickets : (process : ℕ) → s.waiting process ≡ map (λ job. job.ticket) (jobs_of process jobs)
  pub fit : (process : ℕ) → AllByRecursion IsJob (jobs_of process jobs)
  pub count : (process : ℕ) → offered_to offered process ≡ length (s.used process)
  pub lower : (process : ℕ) (ticket : Ticket) → Contains (s.used process) ticket → ticket.number < length (s.used process)

pub record InOrder (stage : Stage) : Type 0 where
  pub seated : AreSeated (apart_of stage.outsider) stage.world stage.seats.items
  pub queues : AreJobs (state_of stage.world.past) stage.jobs.items stage.offered.items

-- ---- what the outsider sees of it

-- the log went on by items that can come, none of which is the outsider's or stops its process
abbrev pub PassesBy : Option Who → Held → Held → Type 0
PassesBy outsider old new = (me : Who) → outsider ≡ Some me → Grows (Some old.past) (Some new.past) (Owns me [])
