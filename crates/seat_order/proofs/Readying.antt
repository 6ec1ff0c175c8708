-- How a seat's own items and those of others lead on from where it is ready. No rule among seats is asked for.
use Rattle.std.proofs.Common.{◌≡◌, ◌<◌, ◌+◌, inr, ℕ, true, false, List, [], length, get_or, refl, sym, subst}
use Rattle.cache_types.specs.declared.answer.Answer.{Answer}
use Rattle.cache_types.specs.declared.answer.Answer.TheVariants as answers
use Rattle.cache_types.specs.declared.request.Request.{Request}
use Rattle.cache_types.specs.declared.seat.Who.{Who}
use Rattle.file_log.specs.declared.call.Call.{Call}
use Rattle.file_log.specs.declared.call.Call.TheVariants as calls
use Rattle.file_log.specs.declared.item.LogItem.{LogItem}
use Rattle.file_log.specs.declared.item.LogItem.TheVariants as items
use Rattle.file_log.specs.declared.reply.Reply.{Reply}
use Rattle.file_log.specs.declared.ticket.Ticket.{Ticket}
use Rattle.file_log.specs.Legal.{Legal}
use Rattle.file_log.specs.Log.{History, with_items, is_own, is_stop}
use Rattle.file_log.specs.Seat.{MayCall, course_of}
use Rattle.file_log.specs.State.{state_of}
use Rattle.file_model.specs.declared.step.Progress.{Progress}
use Rattle.file_model.specs.declared.step.Progress.TheVariants as progresses
use Rattle.file_model.specs.Seeing.{seen_of}
use Rattle.file_model.specs.Steps.{step_items, StepFits, IsPlace}
use Rattle.files_api.specs.declared.machine.Step.TheVariants.{Ask, Done}
use Rattle.seat_rules.specs.Changes.{with_item}
use Rattle.seat_rules.specs.Places.{past}
use Rattle.op_machine.specs.declared.op.Op.{Op}
use Rattle.op_machine.specs.Machine.{asks, asked, Fed, slots, hurt}
use Rattle.op_machine.specs.Requests.{IsOpOf}
use Rattle.seat_order.specs.Places.{Where, Leads}
use Rattle.seat_order.proofs.Starting.{starts_empty}
use Rattle.seat_order.specs.Slots.{HasThose}
use Rattle.seat_order.proofs.Slots.{other_keeps, those_stay, those_write, none_other, none_still, begun_has, machine_may, machine_done, machine_goes}
use Rattle.seat_order.specs.Ready.{IsCalling, IsReady}
use Rattle.seat_order.proofs.Making.{place_at_first, answers_so}

-- a step after which the call goes on leads to the call's next item
pub leads_more : (n : Op) (call : Call) (done : ℕ) (place : Where) → Leads n call done progresses.More place → Where.Within n call (done + 1) ≡ place
leads_more n call done (Where.Within n' call' done') leads = rw (leads.0, leads.1, leads.2) refl
leads_more n call done place leads = absurd leads

module _ (me : Who) where
  -- before any item it is in no operation
  pub ready_at_first : IsReady me Where.Outside (past [])
  ready_at_first = λ at. refl

  -- ---- others' items

  -- an item of another that stops no process of the seat
  pub ready_stays : (place : Where) (h : History) (x : LogItem) → IsReady me place h → is_own me x ≡ false → is_stop me.process x ≡ false → IsReady me place (with_item h x)
  ready_stays Where.Outside h x s other goes = none_other me h x s other goes
  ready_stays (Where.Begun request) h x s other goes = other_keeps me (λ at. false) false h x s other goes
  ready_stays (Where.Between m) h x s other goes = those_stay me m h x s other goes
  ready_stays (Where.Within n call done) h x s other goes = record { m = s.m; asked_is = s.asked_is; asks_so = s.asks_so; place = s.place; seen = those_stay me s.m h x s.seen other goes }
  ready_stays (Where.Ending given) h x s other goes = other_keeps me (λ at. false) true h x s other goes

  -- ---- its own

  pub ready_begins : (request : Request) (h : History) → IsReady me Where.Outside h → IsReady me (Where.Begun request) (with_item h (items.Begin me request))
  ready_begins request h s = begun_has me request h s

  -- the machine that was made for the request
  pub ready_machine : (request : Request) (m : Op) (h : History) → IsOpOf request m → IsReady me (Where.Begun request) h → IsReady me (Where.Between m) h
  ready_machine request m h new s = starts_empty me request m h new s

  -- there was no memory for one
  pub ready_none : (request : Request) (h : History) → IsReady me (Where.Begun request) h → IsReady me (Where.Ending answers.NoMemory) h
  ready_none request h s = record { filled = s.filled; inside = s.inside; covers = λ e. refl }

  -- it asks for a call, of which nothing is made yet
  pub ready_asks : (m : Op) (call : Call) (h : History) → asks m ≡ Ask call → IsReady me (Where.Between m) h → IsReady me (Where.Within (asked m) call 0) h
  ready_asks m call h e s = record { m = m; asked_is = refl; asks_so = e; place = place_at_first me call; seen = s }

  -- it gives its answer
  pub ready_gives : (m : Op) (given : Answer) (h : History) → asks m ≡ Done given → IsReady me (Where.Between m) h → IsReady me (Where.Ending given) h
  ready_gives m given h e s = machine_done me m given h e s

  answered : (n : Op) (call : Call) (done : ℕ) (reply : Reply) (n' : Op) (h : History) → IsCalling me n call done h → StepFits (progresses.Reply reply) true call done → Legal (state_of h) (step_items (progresses.Reply reply) me true call done) → Fed n reply n'
      → HasThose me n' (with_items h (step_items (progresses.Reply reply) me true call done))
  answered n call done reply n' h w fits legal fed =
      machine_goes me w.m n' call reply done h w.asks_so w.seen (subst (λ (z : Op). Fed z reply n') (sym w.asked_is) fed) (answers_so me true call done reply fits) legal

  byte_made : (n : Op) (slot at : ℕ) (bytes : List ℕ) (done : ℕ) (h : History) → IsCalling me n (calls.WriteAt slot at bytes) done h → done + 1 < length bytes
      → IsCalling me n (calls.WriteAt slot at bytes) (done + 1) (with_item h (items.Byte me slot (at + done) (get_or bytes done 0)))
  byte_made n slot at bytes done h w more = record {
    m = w.m;
    asked_is = w.asked_is;
    asks_so = w.asks_so;
    place = inr more;
    seen = those_write me w.m h slot (at + done) (get_or bytes done 0) w.seen;
  }

  goes_more : (n : Op) (call : Call) (done : ℕ) (place : Where) (h : History) → IsReady me (Where.Within n call done) h → StepFits progresses.More true call done → Leads n call done progresses.More place
      → IsReady me place (with_items h (step_items progresses.More me true call done))
  goes_more n (calls.WriteAt slot at bytes) done place h w more leads =
      subst (λ (p : Where). IsReady me p (with_item h (items.Byte me slot (at + done) (get_or bytes done 0)))) (leads_more n (calls.WriteAt slot at bytes) done place leads) (byte_made n slot at bytes done h w more)
  goes_more n call done place h w more leads = absurd more

  -- one step of a call
  pub ready_steps : (n : Op) (call : Call) (done : ℕ) (progress : Progress) (place : Where) (h : History) → IsReady me (Where.Within n call done) h → StepFits progress true call done → Legal (state_of h) (step_items progress me true call done) → Leads n call done progress place
      → IsReady me place (with_items h (step_items progress me true call done))
  ready_steps n call done progresses.More place h w fits legal leads = goes_more n call done place h w fits leads
  ready_steps n call done (progresses.Reply reply) (Where.Between n') h w fits legal leads = answered n call done reply n' h w fits legal leads
  ready_steps n call done (progresses.Reply reply) place h w fits legal leads = absurd leads

  pub ready_ends : (given answer : Answer) (h : History) → IsReady me (Where.Ending given) h → IsReady me Where.Outside (with_item h (items.End me answer))
  ready_ends given answer h s = none_still me h (items.End me answer) s.filled refl

  pub ready_takes : (ticket : Ticket) (h : History) → IsReady me Where.Outside h → IsReady me Where.Outside (with_item h (items.Taken me ticket))
  ready_takes ticket h s = none_still me h (items.Taken me ticket) s refl

  -- ---- what it may do there

  -- the call that its machine asked for
  pub ready_may_call : (n : Op) (call : Call) (done : ℕ) (h : History) → IsReady me (Where.Within n call done) h → MayCall (seen_of me h) call
  ready_may_call n call done h s = machine_may me s.m call h s.asks_so s.seen

  -- the byte that comes next is one of the write's
  pub ready_place : (n : Op) (call : Call) (done : ℕ) (h : History) → IsReady me (Where.Within n call done) h → IsPlace call done
  ready_place n call done h s = s.place

  -- its operation is open
  pub ready_inside : (n : Op) (call : Call) (done : ℕ) (h : History) → IsReady me (Where.Within n call done) h → (course_of me h.log).inside ≡ true
  ready_inside n call done h s = s.seen.1.inside

  pub ready_ending : (given : Answer) (h : History) → IsReady me (Where.Ending given) h → (course_of me h.log).inside ≡ true
  ready_ending given h s = s.inside
