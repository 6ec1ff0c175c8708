-- What stands in the tables of a stage: the busy seats, the failures that wait, the jobs that wait.
use Rattle.std.specs.Prelude.{◌≡◌, ℕ, ◌+◌, nat_eq, Bool, List, [], ◌∷◌, Option, Some, None, if◌then◌else◌}
use Rattle.cache_types.specs.declared.seat.Who.{Who}
use Rattle.cache_types.specs.Seats.{same_seat}
use Rattle.world_tables.specs.Find.{find_by}
use Rattle.sim_world.specs.declared.failing.Failing.{Failing}
use Rattle.sim_world.specs.declared.jobs.Job.{Job}
use Rattle.sim_world.specs.declared.jobs.Offered.{Offered}
use Rattle.sim_world.specs.declared.seats.Seat.{Seat}
use Rattle.sim_world.specs.declared.seats.Task.{Task}
use Rattle.sim_world.specs.Scene.{Waiting}

-- ---- seats

-- what a seat is at, if it is at anything
abbrev pub task_of : List Seat → Who → Option Task
task_of seats who = find_by (λ seat. same_seat who seat.who) (λ seat. seat.task) seats

-- how many seats stand before this one, all where it is at nothing
abbrev pub place_in : Who → List Seat → ℕ
place_in who [] = 0
place_in who (seat ∷ seats) = if same_seat who seat.who then 0 else 1 + place_in who seats

-- each seat stands once
abbrev pub Once : List Seat → Type 0
Once [] = Unit {0}
Once (seat ∷ seats) = (task_of seats seat.who ≡ None) × Once seats

-- with a seat's task in front, if there is one
abbrev pub seats_with : Who → Option Task → List Seat → List Seat
seats_with who None seats = seats
seats_with who (Some task) seats = (record { who = who; task = task }) ∷ seats

-- ---- failures

-- the failure that waits for a seat's next call
abbrev pub failing_of : List Failing → Who → Option Bool
failing_of failing who = find_by (λ waiting. same_seat who waiting.who) (λ waiting. waiting.memory) failing

-- ---- jobs

-- what a queue knows of a job
abbrev pub waiting_of : Job → Waiting
waiting_of job = record { ticket = job.ticket; request = job.request }

-- the jobs of a process, in their order
abbrev pub jobs_of : ℕ → List Job → List Waiting
jobs_of process [] = []
jobs_of process (job ∷ jobs) = if nat_eq process job.process then waiting_of job ∷ jobs_of process jobs else jobs_of process jobs

-- the first of a list, if there is one
abbrev pub front : List Waiting → Option Waiting
front [] = None
front (job ∷ jobs) = Some job

-- how many jobs stand before a process's front job, all where it has none
abbrev pub job_place : ℕ → List Job → ℕ
job_place process [] = 0
job_place process (job ∷ jobs) = if nat_eq process job.process then 0 else 1 + job_place process jobs

-- how many jobs a process was offered
abbrev pub count_from : Option ℕ → ℕ
count_from None = 0
count_from (Some count) = count

abbrev pub offered_to : List Offered → ℕ → ℕ
offered_to offered process = count_from (find_by (λ x. nat_eq process x.process) (λ x. x.count) offered)
