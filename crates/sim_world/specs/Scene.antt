-- What a schedule has come to.
use Rattle.std.specs.Prelude.{ℕ, nat_eq, Bool, List, [], ◌∷◌, ◌++◌, Option, None, length, if◌then◌else◌}
use Rattle.cache_types.specs.declared.request.Request.{Request}
use Rattle.cache_types.specs.declared.seat.Who.{Who}
use Rattle.cache_types.specs.Seats.{same_seat}
use Rattle.file_log.specs.declared.item.LogItem.{LogItem}
use Rattle.file_log.specs.declared.ticket.Ticket.{Ticket}
use Rattle.file_log.specs.State.{State, state_of}
use Rattle.seat_rules.specs.Places.{past}

-- what a seat is at: nothing, a request that it was given and hasn't begun, or an operation that it has begun and not ended
pub data Activity : Type 0 where
  Idle : Activity
  Asked : Request → Activity
  Inside : Activity

-- a job that waits in a process's queue
pub record Waiting : Type 0 where
  pub ticket : Ticket
  pub request : Request

-- The log so far, the clock, what each seat is at, the failure that waits for its next call, if one does (with `true` it is one for want of
-- memory), and the jobs that wait in each process's queue, in their order.
pub record Scene : Type 0 where
  pub log : List LogItem
  pub clock : ℕ
  pub seats : Who → Activity
  pub failing : Who → Option Bool
  pub queue : ℕ → List Waiting

-- before any turn
abbrev pub opening : Scene
opening = record { log = []; clock = 0; seats = λ who. Idle; failing = λ who. None; queue = λ process. [] }

-- what the log says: the disk, the stopped processes, the tickets that were used
abbrev pub state_at : Scene → State
state_at scene = state_of (past scene.log)

-- ---- how it goes on

-- with one item more
abbrev pub told : Scene → LogItem → Scene
told scene item = record scene { log = scene.log ++ item ∷ [] }

-- with a seat at something else
abbrev pub with_seat : Scene → Who → Activity → Scene
with_seat scene who activity = record scene { seats = λ w. if same_seat w who then activity else scene.seats w }

-- with a failure that waits for a seat's next call, or none
abbrev pub with_failing : Scene → Who → Option Bool → Scene
with_failing scene who failing = record scene { failing = λ w. if same_seat w who then failing else scene.failing w }

-- with other jobs in a process's queue
abbrev pub with_queue : Scene → ℕ → List Waiting → Scene
with_queue scene process jobs = record scene { queue = λ p. if nat_eq p process then jobs else scene.queue p }

-- no seat of the process is at anything
abbrev pub without_seats : Scene → ℕ → Scene
without_seats scene process = record scene { seats = λ w. if nat_eq w.process process then Idle else scene.seats w }

-- the ticket of a process's next job: side 0, and the number of those that it used before
abbrev pub next_ticket : Scene → ℕ → Ticket
next_ticket scene process = record { side = 0; number = length ((state_at scene).used process) }
