-- What each turn of a schedule comes to, and which logs follow a schedule. Nothing is said here of which file calls are made.
use Rattle.std.specs.Prelude.{◌≡◌, ◌⊎◌, ◌<◌, ℕ, nat_eq, Bool, true, false, List, [], ◌∷◌, ◌++◌, length, Option, Some, None}
use Rattle.cache_types.specs.declared.name.Name.TheVariants.{Ro, RoIdx}
use Rattle.cache_types.specs.declared.request.Request.{Request}
use Rattle.cache_types.specs.declared.seat.Who.{Who}
use Rattle.file_log.specs.declared.call.Call.{Call}
use Rattle.file_log.specs.declared.call.Call.TheVariants as calls
use Rattle.file_log.specs.declared.item.LogItem.{LogItem}
use Rattle.file_log.specs.declared.item.LogItem.TheVariants as items
use Rattle.file_log.specs.Legal.{IsPut}
use Rattle.file_log.specs.Log.{is_own}
use Rattle.op_machine.specs.Requests.{IsBuilt}
use Rattle.world_tables.specs.Calls.{TellsClock}
use Rattle.sim_world.specs.Scene.{Scene, Activity, Idle, Asked, Inside, Waiting, opening, state_at, told, with_seat, with_failing, with_queue, without_seats, next_ticket}
use Rattle.sim_world.specs.declared.turn.Turn.{Turn}
use Rattle.sim_world.specs.declared.turn.Turn.TheVariants as turns

-- ---- when a turn applies

-- the process wasn't stopped
abbrev pub GoesOn : Scene → ℕ → Type 0
GoesOn scene process = (state_at scene).halted process ≡ false

-- a seat of such a process that is at nothing
abbrev pub IsFree : Scene → Who → Type 0
IsFree scene who = GoesOn scene who.process × (scene.seats who ≡ Idle)

-- a turn that applies does this, and another nothing
pub record Turns (applies : Type 0) (old new : Scene) (does : Type 0) : Type 0 where
  pub applied : applies → does
  pub passed : (applies → ⊥) → new ≡ old

-- ---- a step

-- a call that never fails
abbrev pub NeverFails : Call → Type 0
NeverFails (calls.Close slot) = Unit {0}
NeverFails call = ⊥

-- An item of a seat that is within an operation: of a call, an Evict, or its End. A Failed uses up a failure of its kind that waits; where one
-- waits, only a Close, an Evict and an End come before it.
abbrev pub MayCome : Scene → Option Bool → LogItem → Type 0
MayCome scene failing (items.Did who call reply) = (NeverFails call ⊎ (failing ≡ None)) × TellsClock call scene.clock reply
MayCome scene failing (items.Byte who slot at value) = failing ≡ None
MayCome scene failing (items.Failed who memory) = failing ≡ Some memory
MayCome scene failing (items.Evict who store driver key) = Unit {0}
MayCome scene failing (items.End who answer) = Unit {0}
MayCome scene failing item = ⊥

-- what the item makes of the scene: an End leaves the seat at nothing, and a Failed leaves no failure that waits
abbrev pub stepped : Scene → Who → LogItem → Scene
stepped scene who (items.End by answer) = with_seat (told scene (items.End by answer)) who Idle
stepped scene who (items.Failed by memory) = with_failing (told scene (items.Failed by memory)) who None
stepped scene who item = told scene item

-- one item of the seat: first the Begin of its request, then those of its operation, last the End of that
abbrev pub Steps : Scene → Who → Activity → Scene → Type 0
Steps old who Idle new = new ≡ old
Steps old who (Asked request) new = new ≡ with_seat (told old (items.Begin who request)) who Inside
Steps old who Inside new = (item : LogItem) × (is_own who item ≡ true) × MayCome old (old.failing who) item × (new ≡ stepped old who item)

-- ---- the other turns

-- a failure waits for the seat's next call: of several the first stays, and the others are lost
abbrev pub first_of : Option Bool → Bool → Option Bool
first_of None memory = Some memory
first_of (Some earlier) memory = Some earlier

-- a job comes to the end of a queue in which fewer than 32 wait
pub record MayOffer (scene : Scene) (process : ℕ) (request : Request) : Type 0 where
  pub goes_on : GoesOn scene process
  pub room : length (scene.queue process) < 32
  pub put : IsPut request
  pub built : IsBuilt request

abbrev pub offered : Scene → ℕ → Request → Scene
offered scene process request =
    with_queue (told scene (items.Queued process (next_ticket scene process) request)) process (scene.queue process ++ (record { ticket = next_ticket scene process; request = request }) ∷ [])

-- the seat takes the front job, if there is one, and is given its request
abbrev pub taken : Scene → Who → List Waiting → Scene
taken scene who [] = scene
taken scene who (job ∷ jobs) = with_seat (with_queue (told scene (items.Taken who job.ticket)) who.process jobs) who (Asked job.request)

-- no file has either name of the read-only database
abbrev pub IsAbsent : Scene → ℕ → List ℕ → Type 0
IsAbsent scene root name = ((state_at scene).disk.names (Ro root name) ≡ None) × ((state_at scene).disk.names (RoIdx root name) ≡ None)

-- ---- a turn, and a schedule

-- what the turn makes of the scene
abbrev pub Plays : Scene → Turn → Scene → Type 0
Plays old (turns.Start who request) new = Turns (IsFree old who × IsBuilt request) old new (new ≡ with_seat old who (Asked request))
Plays old (turns.Step who) new = Turns (GoesOn old who.process) old new (Steps old who (old.seats who) new)
Plays old (turns.Fail who memory) new = Turns (GoesOn old who.process) old new (new ≡ with_failing old who (first_of (old.failing who) memory))
Plays old (turns.Offer process request) new = Turns (MayOffer old process request) old new (new ≡ offered old process request)
Plays old (turns.Take who) new = Turns (IsFree old who) old new (new ≡ taken old who (old.queue who.process))
Plays old (turns.Stop process) new = Turns (GoesOn old process) old new (new ≡ without_seats (told old (items.Stop process)) process)
Plays old (turns.Install root name main index) new = Turns (IsAbsent old root name) old new (new ≡ told old (items.Install root name main index))
Plays old (turns.SetList text) new = new ≡ told old (items.SetList text)
Plays old (turns.Clock now) new = new ≡ record old { clock = now }
Plays old turns.Own new = new ≡ old

-- a turn that was refused for want of memory leaves all as it was; but where a step's call was refused it, the log may have that
abbrev pub Refused : Scene → Turn → Scene → Type 0
Refused old (turns.Step who) new = (new ≡ old) ⊎ (new ≡ told old (items.Failed who true))
Refused old turn new = new ≡ old

-- one turn after another
abbrev pub Comes : Scene → List Turn → Scene → Type 0
Comes old [] new = new ≡ old
Comes old (turn ∷ schedule) new = (next : Scene) × Plays old turn next × Comes next schedule new

-- the log follows the schedule
abbrev pub Played : List Turn → List LogItem → Type 0
Played schedule log = (last : Scene) × Comes opening schedule last × (last.log ≡ log)

-- ---- an outsider's process

-- the process whose seat or queue it is
abbrev pub process_of : Turn → Option ℕ
process_of (turns.Start who request) = Some who.process
process_of (turns.Step who) = Some who.process
process_of (turns.Fail who memory) = Some who.process
process_of (turns.Offer process request) = Some process
process_of (turns.Take who) = Some who.process
process_of (turns.Stop process) = Some process
process_of turn = None

-- it is the process of the seat that calls from outside of the schedule
abbrev pub is_outside : Option Who → Option ℕ → Bool
is_outside None process = false
is_outside (Some me) None = false
is_outside (Some me) (Some process) = nat_eq process me.process

-- a turn of that process
abbrev pub concerns : Option Who → Turn → Bool
concerns outsider turn = is_outside outsider (process_of turn)
