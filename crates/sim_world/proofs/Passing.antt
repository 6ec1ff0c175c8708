-- What a turn leaves to the seat that calls from outside of the schedule: none of the items that come is its own, and its process goes on.
use Rattle.std.proofs.Common.{◌≡◌, inl, inr, ◌&&◌, ℕ, cond, nat_eq, Bool, true, false, List, [], ◌∷◌, Option, Some, None, refl, sym, ap, subst, ◌∙◌, arith}
use Rattle.std.proofs.lemmas.Bool.{false≢true}
use Rattle.cache_types.specs.declared.seat.Who.{Who}
use Rattle.cache_types.specs.Seats.{same_seat}
use Rattle.file_log.specs.declared.item.LogItem.{LogItem}
use Rattle.file_log.specs.declared.item.LogItem.TheVariants as items
use Rattle.file_log.specs.Legal.{Legal, IsLegal}
use Rattle.file_log.specs.Log.{seat_of, is_seat, is_own, own, is_stop, NoStop}
use Rattle.file_log.specs.State.{state_of}
use Rattle.file_log.specs.Told.{Grows, Owns}
use Rattle.file_log.proofs.All.{seat_self}
use Rattle.file_log.proofs.Logs.{nothing_yet}
use Rattle.file_model.specs.Held.{Held, told}
use Rattle.file_model.specs.Steps.{step_items, is_inside}
use Rattle.files_api.specs.declared.machine.Step.{Step}
use Rattle.files_api.specs.declared.machine.Step.TheVariants.{Ask, Done}
use Rattle.op_machine.specs.declared.op.Op.{Op}
use Rattle.seat_order.proofs.Orderly.{AreMine}
use Rattle.seat_order.proofs.Mine.{not_others, step_mine}
use Rattle.sim_world.specs.declared.operation.Moved.{Moved}
use Rattle.sim_world.specs.declared.seats.Task.{Task}
use Rattle.sim_world.specs.declared.seats.Task.TheVariants as tasks
use Rattle.sim_world.specs.Played.{is_outside}
use Rattle.sim_world.specs.Stages.{apart_of, PassesBy}
use Rattle.sim_world.specs.Steps.{Goes, Advances}

-- ---- a seat of another process

same_process : (who me : Who) (b : Bool) → b ≡ false → (b && nat_eq who.seat me.seat) ≡ false
same_process who me true e = absurd (false≢true (sym e))
same_process who me false e = refl

-- it isn't set apart
pub known_apart : (outsider : Option Who) (who : Who) → is_outside outsider (Some who.process) ≡ false → apart_of outsider who ≡ false
known_apart None who e = refl
known_apart (Some me) who e = same_process who me (nat_eq who.process me.process) e

elsewhere : (outsider : Option Who) (who me : Who) → is_outside outsider (Some who.process) ≡ false → outsider ≡ Some me → same_seat who me ≡ false
elsewhere outsider who me e is = sym (ap (is_seat who) is) ∙ known_apart outsider who e

-- ---- items that come

-- nothing came
pub nothing_passes : (outsider : Option Who) (w w' : Held) → w' ≡ w → PassesBy outsider w w'
nothing_passes outsider w w' e = λ me is. subst (λ (v : Held). Grows (Some w.past) (Some v.past) (Owns me [])) (sym e) (nothing_yet me (Some w.past))

all_pass : (outsider : Option Who) (w w' : Held) (news : List LogItem) → w' ≡ told w news → Legal (state_of w.past) news → ((me : Who) → outsider ≡ Some me → (own me news ≡ []) × NoStop me.process news) → PassesBy outsider w w'
all_pass outsider w w' news e legal others = λ me is. (news, ap (λ (v : Held). Some v.past) e, record { own_items = (others me is).0; legal = legal; goes_on = (others me is).1 })

no_own : (me : Who) (x : LogItem) (news : List LogItem) → is_own me x ≡ false → own me news ≡ [] → own me (x ∷ news) ≡ []
no_own me x news e rest = ap (λ (b : Bool). cond b (x ∷ own me news) (own me news)) e ∙ rest

-- an item of no seat
pub unseated_pass : (outsider : Option Who) (w w' : Held) (x : LogItem) → w' ≡ told w (x ∷ []) → IsLegal (state_of w.past) x → seat_of x ≡ None → ((me : Who) → outsider ≡ Some me → is_stop me.process x ≡ false) → PassesBy outsider w w'
unseated_pass outsider w w' x e legal none goes = all_pass outsider w w' (x ∷ []) e (legal, tt) (λ me is. (no_own me x [] (ap (is_seat me) none) refl, (goes me is, tt)))

nat_flip : (a b : ℕ) → nat_eq a b ≡ nat_eq b a
nat_flip a b = grind arith

-- the stop of another process
pub stop_passes : (outsider : Option Who) (w w' : Held) (p : ℕ) → w' ≡ told w (items.Stop p ∷ []) → IsLegal (state_of w.past) (items.Stop p) → is_outside outsider (Some p) ≡ false → PassesBy outsider w w'
stop_passes outsider w w' p e legal known = unseated_pass outsider w w' (items.Stop p) e legal refl (λ me is. nat_flip me.process p ∙ sym (ap (λ (o : Option Who). is_outside o (Some p)) is) ∙ known)

-- items of a seat of another process
own_is_no_stop : (who : Who) (x : LogItem) (p : ℕ) → is_own who x ≡ true → is_stop p x ≡ false
own_is_no_stop who (items.Stop q) p e = absurd (false≢true e)
own_is_no_stop who x p e = refl

others_own : (who me : Who) (news : List LogItem) → same_seat who me ≡ false → AreMine who news → (own me news ≡ []) × NoStop me.process news
others_own who me [] other mine = (refl, tt)
others_own who me (x ∷ news) other mine =
    let rest = others_own who me news other mine.1 in
    (no_own me x news (not_others who me x mine.0 other) rest.0, (own_is_no_stop who x me.process mine.0, rest.1))

pub seat_passes : (outsider : Option Who) (who : Who) (w w' : Held) (news : List LogItem) → is_outside outsider (Some who.process) ≡ false → w' ≡ told w news → Legal (state_of w.past) news → AreMine who news → PassesBy outsider w w'
seat_passes outsider who w w' news known e legal mine = all_pass outsider w w' news e legal (λ me is. others_own who me news (elsewhere outsider who me known is) mine)

-- ---- a step

goes_passes : (outsider : Option Who) (who : Who) (w w' : Held) (step : Step) (n : Op) (done : ℕ) (failing : Option Bool) (moved : Moved) → is_outside outsider (Some who.process) ≡ false → Goes who step n done failing w w' moved → PassesBy outsider w w'
goes_passes outsider who w w' (Ask call) n done failing moved known x =
    seat_passes outsider who w w' (step_items x.progress who (is_inside who w) call done) known x.stepped.items x.stepped.legal (step_mine who x.progress (is_inside who w) call done)
goes_passes outsider who w w' (Done given) n done failing moved known x = seat_passes outsider who w w' (items.End who x.answer ∷ []) known x.told_is (x.legal, tt) (seat_self who, tt)

pub advance_passes : (outsider : Option Who) (who : Who) (w w' : Held) (task : Task) (failing : Option Bool) (moved : Moved) → is_outside outsider (Some who.process) ≡ false → Advances who task failing w w' moved → PassesBy outsider w w'
advance_passes outsider who w w' (tasks.Asked request) failing moved known (inl x) = seat_passes outsider who w w' (items.Begin who request ∷ []) known x.told_is (x.legal, tt) (seat_self who, tt)
advance_passes outsider who w w' (tasks.Asked request) failing moved known (inr x) = nothing_passes outsider w w' x.same
advance_passes outsider who w w' (tasks.Begun operation) failing moved known x = goes_passes outsider who w w' operation.wants operation.machine operation.done failing moved known x
