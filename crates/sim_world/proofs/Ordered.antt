-- What is kept of a world and its seats when items come.
use Rattle.std.proofs.Common.{◌≡◌, ℕ, cond, nat_eq, ◌&&◌, Bool, true, false, List, [], ◌∷◌, ◌++◌, Option, Some, None, refl, sym, ap, subst, ◌∙◌, arith}
use Rattle.cache_types.specs.declared.seat.Who.{Who}
use Rattle.cache_types.specs.Seats.{same_seat}
use Rattle.file_log.specs.declared.item.LogItem.{LogItem}
use Rattle.file_log.specs.Disk.{Start}
use Rattle.file_log.specs.Legal.{Legal, IsLegal}
use Rattle.file_log.specs.Log.{History, seat_of}
use Rattle.file_log.specs.State.{State, first, after, state_of}
use Rattle.file_log.proofs.All.{seat_self}
use Rattle.file_log.proofs.Logs.{All-append}
use Rattle.file_model.specs.Held.{Held, told}
use Rattle.files_api.specs.declared.machine.Step.{Step}
use Rattle.files_api.specs.declared.machine.Step.TheVariants.{Ask, Done}
use Rattle.seat_rules.specs.Places.{past}
use Rattle.layout_rules.specs.Places.{Cooperating}
use Rattle.op_machine.specs.declared.op.Op.{Op}
use Rattle.op_machine.specs.Machine.{asks, asked}
use Rattle.seat_order.specs.Places.{Where}
use Rattle.seat_order.proofs.Orderly.{OnlyMoves}
use Rattle.seat_order.specs.Apart.{IsAt, IsOrderlyBut}
use Rattle.seat_order.specs.Operating.{Operates}
use Rattle.seat_order.specs.Ready.{IsReady}
use Rattle.seat_order.proofs.Readying.{ready_may_call, ready_place, ready_ending}
use Rattle.seat_order.proofs.Moving.{at_asks, at_gives}
use Rattle.seat_order.proofs.Coming.{unseated_passes, none_is_apart}
use Rattle.sim_world.specs.declared.seats.Seat.{Seat}
use Rattle.sim_world.specs.declared.seats.Task.{Task}
use Rattle.sim_world.specs.declared.seats.Task.TheVariants as tasks
use Rattle.sim_world.specs.Stages.{where_in, where_of, seats_at, apart_of, IsFit, AreSeated}
use Rattle.sim_world.specs.Steps.{MayGo, MayAdvance}
use Rattle.sim_world.specs.Tables.{task_of, Once, seats_with}

-- ---- the log of a world

pub past_is : (w : Held) → w.past.start ≡ [] → w.past ≡ past w.past.log
past_is w empty = ap (λ (start : Start). record { start = start; log = w.past.log }) empty

pub state_is : (w : Held) → w.past.start ≡ [] → state_of w.past ≡ state_of (past w.past.log)
state_is w empty = ap state_of (past_is w empty)

pub legal_then : (w : Held) (news : List LogItem) → w.past.start ≡ [] → Legal (first []) w.past.log → Legal (state_of w.past) news → Legal (first []) (w.past.log ++ news)
legal_then w news empty legal more = All-append after IsLegal (first []) w.past.log news legal (subst (λ (s : State). Legal s news) (state_is w empty) more)

-- ---- seats that change

pub seat_flip : (a b : Who) → same_seat a b ≡ same_seat b a
seat_flip a b = ap (λ (x : Bool). x && nat_eq a.seat b.seat) (flip a.process b.process) ∙ ap (λ (x : Bool). nat_eq b.process a.process && x) (flip a.seat b.seat)
  where
    flip : (m n : ℕ) → nat_eq m n ≡ nat_eq n m
    flip m n = grind arith

-- the table has this for the seat, and for others what it had
abbrev pub Changes : Who → Option Task → List Seat → List Seat → Type 0
Changes who task old new = (w : Who) → task_of new w ≡ cond (same_seat w who) task (task_of old w)

pub changed_here : (who : Who) (task : Option Task) (old new : List Seat) → Changes who task old new → task_of new who ≡ task
changed_here who task old new changes = changes who ∙ ap (λ (b : Bool). cond b task (task_of old who)) (seat_self who)

pub changed_elsewhere : (who w : Who) (task : Option Task) (old new : List Seat) → Changes who task old new → same_seat who w ≡ false → task_of new w ≡ task_of old w
changed_elsewhere who w task old new changes other = changes w ∙ ap (λ (b : Bool). cond b task (task_of old w)) (seat_flip w who ∙ other)

pub others_stay : (who : Who) (task : Option Task) (old new : List Seat) → Changes who task old new → OnlyMoves who (seats_at old) (seats_at new)
others_stay who task old new changes = λ w other. ap where_of (changed_elsewhere who w task old new changes other)

fit_by : (b : Bool) (task other : Option Task) → IsFit task → IsFit other → IsFit (cond b task other)
fit_by true task other fits others = fits
fit_by false task other fits others = others

pub fits_then : (who : Who) (task : Option Task) (old new : List Seat) → Changes who task old new → IsFit task → ((w : Who) → IsFit (task_of old w)) → (w : Who) → IsFit (task_of new w)
fits_then who task old new changes fits others w = subst IsFit (sym (changes w)) (fit_by (same_seat w who) task (task_of old w) fits (others w))

-- the table from which the seat was taken out gets its task back
put_by : (b : Bool) (task : Task) (out rest : Option Task) → out ≡ cond b None rest → cond b (Some task) out ≡ cond b (Some task) rest
put_by true task out rest e = refl
put_by false task out rest e = e

pub put_back : (who : Who) (task : Option Task) (old out : List Seat) → ((w : Who) → task_of out w ≡ cond (same_seat w who) None (task_of old w)) → Changes who task old (seats_with who task out)
put_back who None old out taken = taken
put_back who (Some task) old out taken = λ w. put_by (same_seat w who) task (task_of out w) (task_of old w) (taken w)

pub once_back : (who : Who) (task : Option Task) (old out : List Seat) → ((w : Who) → task_of out w ≡ cond (same_seat w who) None (task_of old w)) → Once out → Once (seats_with who task out)
once_back who None old out taken once = once
once_back who (Some task) old out taken once = (changed_here who None old out taken, once)

pub put_new : (who : Who) (task : Task) (old : List Seat) → Changes who (Some task) old (seats_with who (Some task) old)
put_new who task old = λ w. refl

-- ---- where a machine leads

want_by : (me : Who) (m : Op) (log : List LogItem) (step : Step) → asks m ≡ step → IsAt me (Where.Between m) log → IsAt me (where_in step (asked m) 0) log
want_by me m log (Ask call) e s = at_asks me log m call e s
want_by me m log (Done given) e s = at_gives me log m given e s

-- a machine that comes to its next want
pub wants_next : (me : Who) (m : Op) (log : List LogItem) → IsAt me (Where.Between m) log → IsAt me (where_in (asks m) (asked m) 0) log
wants_next me m log s = want_by me m log (asks m) refl s

-- ---- what a seat may do

goes_by : (who : Who) (w : Held) (step : Step) (n : Op) (done : ℕ) → IsReady who (where_in step n done) w.past → MayGo who step done w
goes_by who w (Ask call) n done s = (ready_may_call who n call done w.past s, ready_place who n call done w.past s)
goes_by who w (Done given) n done s = ready_ending who given w.past s

advances_by : (who : Who) (w : Held) (task : Task) → IsReady who (where_of (Some task)) w.past → IsFit (Some task) → MayAdvance who task w
advances_by who w (tasks.Asked request) s fits = fits
advances_by who w (tasks.Begun operation) s fits = goes_by who w operation.wants operation.machine operation.done s

-- where the seat stands in the world
pub stands_at : {apart : Who → Bool} (who : Who) (w : Held) (seats : List Seat) (task : Option Task) → AreSeated apart w seats → apart who ≡ false → (state_of w.past).halted who.process ≡ false → task_of seats who ≡ task → IsAt who (where_of task) w.past.log
stands_at who w seats task a known goes at =
    subst (λ (t : Option Task). IsAt who (where_of t) w.past.log) at
    (a.orderly.there who known (sym (ap (λ (s : State). s.halted who.process) (state_is w a.start)) ∙ goes))

pub may_advance : {apart : Who → Bool} (who : Who) (w : Held) (seats : List Seat) (task : Task) → AreSeated apart w seats → apart who ≡ false → (state_of w.past).halted who.process ≡ false → task_of seats who ≡ Some task → MayAdvance who task w
may_advance who w seats task a known goes at =
    advances_by who w task
    (subst (λ (h : History). IsReady who (where_of (Some task)) h) (sym (past_is w a.start)) (stands_at who w seats (Some task) a known goes at).ready)
    (subst IsFit at (a.fits who))

-- ---- items of no seat

pub unseated_seated : {apart : Who → Bool} (w : Held) (seats : List Seat) (x : LogItem) → AreSeated apart w seats → seat_of x ≡ None → IsLegal (state_of w.past) x → AreSeated apart (told w (x ∷ [])) seats
unseated_seated {apart = apart} w seats x a none legal = record {
  start = a.start;
  legal = legal_then w (x ∷ []) a.start a.legal (legal, tt);
  orderly = unseated_passes apart (seats_at seats) w.past.log x a.orderly none (subst (λ (h : History). IsLegal (state_of h) x) (past_is w a.start) legal);
  once = a.once;
  fits = a.fits;
}

-- ---- no outsider

-- then no place breaks a rule
pub alone_cooperate : (outsider : Option Who) (w : Held) (seats : List Seat) → AreSeated (apart_of outsider) w seats → outsider ≡ None → Cooperating w.past.log
alone_cooperate outsider w seats a none =
    (none_is_apart (seats_at seats) w.past.log (subst (λ (o : Option Who). IsOrderlyBut (apart_of o) (seats_at seats) w.past.log) none a.orderly)).cooperating

-- and each operation does what its request asks for
pub alone_operate : (outsider : Option Who) (w : Held) (seats : List Seat) → AreSeated (apart_of outsider) w seats → outsider ≡ None → (who : Who) → Operates who w.past.log
alone_operate outsider w seats a none who = a.orderly.operate who (ap (λ (o : Option Who). apart_of o who) none)
