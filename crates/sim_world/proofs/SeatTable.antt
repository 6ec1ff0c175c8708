-- What is found in the table of busy seats from which one was taken out.
use Rattle.std.proofs.Common.{subst, ◌≡◌, ◌≤◌, ◌<◌, ℕ, suc, ◌+◌, List, [], ◌∷◌, cond, Bool, true, false, not, nat_eq, Option, Some, None, refl, sym, ap, ◌∙◌, filter, arith, length, get_or}
use Rattle.std.specs.List.{remove}
use Rattle.cache_types.specs.declared.seat.Who.{Who}
use Rattle.cache_types.specs.Seats.{same_seat}
use Rattle.world_tables.proofs.Finds.{dropped_if, same_seat-true}
use Rattle.sim_world.specs.declared.seats.Seat.{Seat}
use Rattle.sim_world.specs.declared.seats.Task.{Task}
use Rattle.sim_world.specs.declared.failing.Failing.{Failing}
use Rattle.sim_world.specs.Tables.{task_of, place_in, Once, failing_of}

abbrev nothing : Option Task
nothing = None

-- ---- where a seat stands

found_by : (who : Who) (seat : Seat) (seats : List Seat) (d : Seat) (b : Bool) → (place_in who seats < length seats → task_of seats who ≡ Some (get_or seats (place_in who seats) d).task)
    → cond b 0 (1 + place_in who seats) < length (seat ∷ seats) → cond b (Some seat.task) (task_of seats who) ≡ Some (get_or (seat ∷ seats) (cond b 0 (1 + place_in who seats)) d).task
found_by who seat seats d true more less = refl
found_by who seat seats d false more less =
    let next : 1 + place_in who seats ≡ suc (place_in who seats) = omega arith in
    more (omega (arith, less)) ∙ ap (λ (n : ℕ). Some (get_or (seat ∷ seats) n d).task) (sym next)

pub found_at : (who : Who) (seats : List Seat) (d : Seat) → place_in who seats < length seats → task_of seats who ≡ Some (get_or seats (place_in who seats) d).task
found_at who [] d less = absurd (omega (arith, less))
found_at who (seat ∷ seats) d less = found_by who seat seats d (same_seat who seat.who) (found_at who seats d) less

missed_by : (who : Who) (seat : Seat) (seats : List Seat) (b : Bool) → (length seats ≤ place_in who seats → task_of seats who ≡ None)
    → length (seat ∷ seats) ≤ cond b 0 (1 + place_in who seats) → cond b (Some seat.task) (task_of seats who) ≡ None
missed_by who seat seats true more past = absurd (omega (arith, past))
missed_by who seat seats false more past = more (omega (arith, past))

pub missed : (who : Who) (seats : List Seat) → length seats ≤ place_in who seats → task_of seats who ≡ None
missed who [] past = refl
missed who (seat ∷ seats) past = missed_by who seat seats (same_seat who seat.who) (missed who seats) past

-- ---- a seat that is taken out

none_of : (w : Who) (seats : List Seat) (other : Who) (b : Bool) → same_seat w other ≡ b → task_of seats other ≡ None → task_of seats w ≡ cond b nothing (task_of seats w)
none_of w seats other true e none = ap (task_of seats) (same_seat-true w other e) ∙ none
none_of w seats other false e none = refl

-- the one that goes
goes : (w who : Who) (seat : Seat) (seats : List Seat) (k : Bool) → same_seat w who ≡ k → same_seat who seat.who ≡ true → task_of seats seat.who ≡ None
    → task_of seats w ≡ cond k nothing (cond (same_seat w seat.who) (Some seat.task) (task_of seats w))
goes w who seat seats true e here none = none_of w seats seat.who true (ap (same_seat w) (sym (same_seat-true who seat.who here)) ∙ e) none
goes w who seat seats false e here none =
    ap (λ (b : Bool). cond b (Some seat.task) (task_of seats w)) (sym (ap (same_seat w) (sym (same_seat-true who seat.who here)) ∙ e))

-- one that stays before it
stays : (k b : Bool) (x rest now : Option Task) → (k ≡ true → b ≡ false) → now ≡ cond k nothing rest → cond b x now ≡ cond k nothing (cond b x rest)
stays true true x rest now h e = let clash : true ≡ false = h refl in absurd cc
stays true false x rest now h e = e
stays false true x rest now h e = refl
stays false false x rest now h e = e

apart : (w who other : Who) → same_seat who other ≡ false → same_seat w who ≡ true → same_seat w other ≡ false
apart w who other e k = ap (λ (v : Who). same_seat v other) (same_seat-true w who k) ∙ e

out_by : (who w : Who) (seat : Seat) (seats : List Seat) (b : Bool) → same_seat who seat.who ≡ b → Once (seat ∷ seats)
    → (place_in who seats < length seats → task_of (remove seats (place_in who seats)) w ≡ cond (same_seat w who) nothing (task_of seats w))
    → cond b 0 (1 + place_in who seats) < length (seat ∷ seats)
    → task_of (remove (seat ∷ seats) (cond b 0 (1 + place_in who seats))) w ≡ cond (same_seat w who) nothing (task_of (seat ∷ seats) w)
out_by who w seat seats true e once more less = goes w who seat seats (same_seat w who) refl e once.0
out_by who w seat seats false e once more less =
    let next : 1 + place_in who seats ≡ suc (place_in who seats) = omega arith in
    ap (λ (n : ℕ). task_of (remove (seat ∷ seats) n) w) next
    ∙ stays (same_seat w who) (same_seat w seat.who) (Some seat.task) (task_of seats w) (task_of (remove seats (place_in who seats)) w) (apart w who seat.who e) (more (omega (arith, less)))

pub taken_out : (who : Who) (seats : List Seat) (w : Who) → Once seats → place_in who seats < length seats → task_of (remove seats (place_in who seats)) w ≡ cond (same_seat w who) nothing (task_of seats w)
taken_out who [] w once less = absurd (omega (arith, less))
taken_out who (seat ∷ seats) w once less = out_by who w seat seats (same_seat who seat.who) refl once (taken_out who seats w once.1) less

still_none : (k : Bool) (o : Option Task) → o ≡ None → cond k nothing o ≡ None
still_none true o e = refl
still_none false o e = e

once_by : (who : Who) (seat : Seat) (seats : List Seat) (b : Bool) → Once (seat ∷ seats) → (place_in who seats < length seats → Once (remove seats (place_in who seats)))
    → cond b 0 (1 + place_in who seats) < length (seat ∷ seats) → Once (remove (seat ∷ seats) (cond b 0 (1 + place_in who seats)))
once_by who seat seats true once more less = once.1
once_by who seat seats false once more less =
    let next : 1 + place_in who seats ≡ suc (place_in who seats) = omega arith in
    let within : place_in who seats < length seats = omega (arith, less) in
    let none : task_of (remove seats (place_in who seats)) seat.who ≡ None = taken_out who seats seat.who once.1 within ∙ still_none (same_seat seat.who who) (task_of seats seat.who) once.0 in
    subst (λ (n : ℕ). Once (remove (seat ∷ seats) n)) (sym next) (none, more within)

pub once_out : (who : Who) (seats : List Seat) → Once seats → place_in who seats < length seats → Once (remove seats (place_in who seats))
once_out who [] once less = absurd (omega (arith, less))
once_out who (seat ∷ seats) once less = once_by who seat seats (same_seat who seat.who) once (once_out who seats once.1) less

-- the same at a place that was counted
pub found_there : (who : Who) (seats : List Seat) (d : Seat) (n : ℕ) → n ≡ place_in who seats → n < length seats → task_of seats who ≡ Some (get_or seats n d).task
found_there who seats d n e less = found_at who seats d (omega (arith, e, less)) ∙ ap (λ (k : ℕ). Some (get_or seats k d).task) (sym e)

pub out_there : (who : Who) (seats : List Seat) (w : Who) (n : ℕ) → n ≡ place_in who seats → n < length seats → Once seats → task_of (remove seats n) w ≡ cond (same_seat w who) None (task_of seats w)
out_there who seats w n e less once = ap (λ (k : ℕ). task_of (remove seats k) w) e ∙ taken_out who seats w once (omega (arith, e, less))

pub once_there : (who : Who) (seats : List Seat) (n : ℕ) → n ≡ place_in who seats → n < length seats → Once seats → Once (remove seats n)
once_there who seats n e less once = subst (λ (k : ℕ). Once (remove seats k)) (sym e) (once_out who seats once (omega (arith, e, less)))

-- a seat that isn't there isn't taken out
not_there : (who w : Who) (seats : List Seat) (b : Bool) → same_seat w who ≡ b → task_of seats who ≡ None → task_of seats w ≡ cond b nothing (task_of seats w)
not_there who w seats true e none = ap (task_of seats) (same_seat-true w who e) ∙ none
not_there who w seats false e none = refl

pub none_out : (who : Who) (seats : List Seat) (w : Who) → task_of seats who ≡ None → task_of seats w ≡ cond (same_seat w who) None (task_of seats w)
none_out who seats w none = not_there who w seats (same_seat w who) refl none

-- ---- a process that was stopped

not_not : (b : Bool) → b ≡ not (not b)
not_not true = refl
not_not false = refl

abbrev pub is_elsewhere : ℕ → Seat → Bool
is_elsewhere process seat = not (nat_eq seat.who.process process)

pub stopped_out : (process : ℕ) (seats : List Seat) (w : Who) → task_of (filter (is_elsewhere process) seats) w ≡ cond (nat_eq w.process process) None (task_of seats w)
stopped_out process seats w = dropped_if (nat_eq w.process process) (λ (seat : Seat). same_seat w seat.who) (λ seat. seat.task) (is_elsewhere process) seats
    (λ seat e. ap (λ (v : Who). nat_eq v.process process) (same_seat-true w seat.who e) ∙ not_not (nat_eq seat.who.process process))

once_cond : (k : Bool) (seat : Seat) (kept : List Seat) → task_of kept seat.who ≡ None → Once kept → Once (cond k (seat ∷ kept) kept)
once_cond true seat kept none once = (none, once)
once_cond false seat kept none once = once

pub once_stopped : (process : ℕ) (seats : List Seat) → Once seats → Once (filter (is_elsewhere process) seats)
once_stopped process [] once = tt
once_stopped process (seat ∷ seats) once =
    once_cond (is_elsewhere process seat) seat (filter (is_elsewhere process) seats)
    (stopped_out process seats seat.who ∙ still_none (nat_eq seat.who.process process) (task_of seats seat.who) once.0)
    (once_stopped process seats once.1)

-- ---- a failure that was used up

abbrev pub is_anothers : Who → Failing → Bool
is_anothers who waiting = not (same_seat waiting.who who)

pub used_up : (who : Who) (failing : List Failing) (w : Who) → failing_of (filter (is_anothers who) failing) w ≡ cond (same_seat w who) None (failing_of failing w)
used_up who failing w = dropped_if (same_seat w who) (λ (waiting : Failing). same_seat w waiting.who) (λ waiting. waiting.memory) (is_anothers who) failing
    (λ waiting e. ap (λ (v : Who). same_seat v who) (same_seat-true w waiting.who e) ∙ not_not (same_seat waiting.who who))
