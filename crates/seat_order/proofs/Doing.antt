-- How a seat's own items and those of others lead on from what it has done. No rule among seats is asked for.
use Rattle.std.proofs.Common.{◌≡◌, ◌+◌, ℕ, cond, ◌&&◌, Bool, true, false, nat_eq, List, [], ◌∷◌, ◌++◌, length, get_or, refl, sym, ap, ◌∙◌, subst, append_assoc, append-nil, arith}
use Rattle.std.proofs.lemmas.Bool.{false≢true}
use Rattle.std.proofs.lemmas.List.Concat.{flat_map-append}
use Rattle.cache_types.specs.declared.answer.Answer.{Answer}
use Rattle.cache_types.specs.declared.answer.Answer.TheVariants as answers
use Rattle.cache_types.specs.declared.request.Request.{Request}
use Rattle.cache_types.specs.declared.seat.Who.{Who}
use Rattle.file_log.specs.declared.call.Call.{Call}
use Rattle.file_log.specs.declared.call.Call.TheVariants as calls
use Rattle.file_log.specs.declared.item.LogItem.{LogItem}
use Rattle.file_log.specs.declared.item.LogItem.TheVariants as items
use Rattle.file_log.specs.declared.note.Note.TheVariants as notes
use Rattle.file_log.specs.declared.reply.Reply.{Reply}
use Rattle.file_log.specs.declared.reply.Reply.TheVariants as replies
use Rattle.file_log.specs.declared.ticket.Ticket.{Ticket}
use Rattle.file_log.specs.Exchange.{Exchange, items_before, items_refused}
use Rattle.file_log.specs.Log.{is_own, own}
use Rattle.file_log.proofs.All.{seat_self}
use Rattle.file_model.specs.declared.step.Progress.{Progress}
use Rattle.file_model.specs.declared.step.Progress.TheVariants as progresses
use Rattle.file_model.specs.Steps.{byte_item, done_items, step_items, StepFits}
use Rattle.files_api.specs.declared.machine.Step.TheVariants.{Ask, Done}
use Rattle.files_api.specs.Drive.{IsWithin, IsEndOf, items_of_all}
use Rattle.seat_rules.proofs.Courses.{outside_then, outside_end}
use Rattle.op_machine.specs.declared.op.Op.{Op}
use Rattle.op_machine.specs.Machine.{asks, asked, Fed}
use Rattle.op_machine.specs.Requests.{IsOpOf}
use Rattle.seat_order.specs.Places.{Where, Leads}
use Rattle.seat_order.specs.Doing.{HasCome, IsAmid, HasDone}
use Rattle.seat_order.specs.Operating.{AreFew, EndsFor, AreFewAfter, FitsAfter}
use Rattle.seat_order.proofs.Insides.{IsOfCall, IsOneOfCall, few_in, in_then, other_in, news_in}
use Rattle.seat_order.proofs.Giving.{come_ends, none_ends, told_ends}
use Rattle.seat_order.proofs.Making.{none_before, more_made, made_all, answers_so}
use Rattle.seat_order.proofs.Mine.{step_mine}
use Rattle.seat_order.proofs.Readying.{leads_more}
use Rattle.seat_order.proofs.Running.{asks_inside, runs_more, come_few, amid_few}

module _ (me : Who) where
  -- an item of another
  pub done_stays : (place : Where) (log : List LogItem) (x : LogItem) → is_own me x ≡ false → HasDone me place log → HasDone me place (log ++ x ∷ [])
  done_stays Where.Outside log x other d = outside_then log x me (λ request e. false≢true (sym other ∙ (ap (is_own me) e ∙ seat_self me))) d
  done_stays (Where.Begun request) log x other d = other_in me log x other d
  done_stays (Where.Between m) log x other d = other_in me log x other d
  done_stays (Where.Within n call done) log x other d = other_in me log x other d
  done_stays (Where.Ending given) log x other d = other_in me log x other d

  -- ---- a Begin, a machine

  pub done_begins : (request : Request) (log : List LogItem) → HasDone me (Where.Begun request) (log ++ items.Begin me request ∷ [])
  done_begins request log = record { request = request; inside = record { before = log; since = []; log_is = refl; goes_on = tt }; so = (refl, refl) }

  pub done_machine : (request : Request) (m : Op) (log : List LogItem) → IsOpOf request m → HasDone me (Where.Begun request) log → HasDone me (Where.Between m) log
  done_machine request m log new d =
      in_then me log (λ asked made is. record { first = m; is_of = subst (λ (r : Request). IsOpOf r m) (sym is.0) new; exchanges = []; runs = refl; made_are = is.1 }) d

  nothing_few : (request : Request) (made : List LogItem) → made ≡ [] → AreFew request made
  nothing_few request made e = subst (AreFew request) (sym e) (record { few = omega arith; within = tt })

  -- there was no memory for one
  pub done_none : (request : Request) (log : List LogItem) → HasDone me (Where.Begun request) log → HasDone me (Where.Ending answers.NoMemory) log
  done_none request log d = in_then me log (λ asked made is. record { few = nothing_few asked made is.1; ends = subst (EndsFor asked answers.NoMemory) (sym is.1) (none_ends me asked) }) d

  -- it asks for a call, of which nothing is made yet
  pub done_asks : (m : Op) (call : Call) (log : List LogItem) → asks m ≡ Ask call → HasDone me (Where.Between m) log → HasDone me (Where.Within (asked m) call 0) log
  done_asks m call log e d =
      in_then me log
      (λ request made c. record { m = m; asked_is = refl; asks_so = e; before = made; come = c; made_are = sym (ap (λ (l : List LogItem). made ++ l) (none_before me call) ∙ append-nil made) }) d

  -- it gives its answer
  pub done_gives : (m : Op) (given : Answer) (log : List LogItem) → asks m ≡ Done given → HasDone me (Where.Between m) log → HasDone me (Where.Ending given) log
  done_gives m given log e d = in_then me log (λ request made c. record { few = come_few me request m made c; ends = come_ends me request m made given c e }) d

  -- ---- a step of a call

  is_within : (m : Op) (call : Call) → asks m ≡ Ask call → IsWithin call
  is_within m call e = asks_inside m call e

  byte_one : (call : Call) (done : ℕ) → IsOneOfCall (byte_item me call done)
  byte_one (calls.WriteAt slot at bytes) done = tt
  byte_one call done = tt

  done_one : (call : Call) (done : ℕ) → IsWithin call → IsOneOfCall (done_items me call done)
  done_one (calls.WriteAt slot at bytes) done within = by_test (nat_eq (length bytes) 0)
    where
      by_test : (b : Bool) → IsOneOfCall (cond b (items.Did me (calls.WriteAt slot at bytes) replies.Done ∷ []) (items.Byte me slot (at + done) (get_or bytes done 0) ∷ []))
      by_test true = tt
      by_test false = tt
  done_one (calls.Tell (notes.Begin request)) done within = absurd within
  done_one (calls.Tell (notes.Evict store driver key)) done within = tt
  done_one (calls.Tell (notes.End answer)) done within = absurd within
  done_one call done within = tt

  refused_one : (call : Call) → IsOneOfCall (items_refused me true call)
  refused_one (calls.Tell note) = tt
  refused_one call = tt

  within_one : (progress : Progress) (call : Call) (done : ℕ) → IsWithin call → IsOneOfCall (step_items progress me true call done)
  within_one progresses.More call done within = byte_one call done
  within_one (progresses.Reply replies.Done) call done within = done_one call done within
  within_one (progresses.Reply replies.Failed) call done within = tt
  within_one (progresses.Reply replies.NoMemory) call done within = refused_one call
  within_one (progresses.Reply reply) call done within = tt

  -- a step makes one item of its call, or none
  pub step_one : (n : Op) (call : Call) (done : ℕ) (progress : Progress) (log : List LogItem) → HasDone me (Where.Within n call done) log → IsOneOfCall (step_items progress me true call done)
  step_one n call done progress log d = within_one progress call done (is_within d.so.m call d.so.asks_so)

  -- the next byte of a write
  byte_comes : (n : Op) (call : Call) (done : ℕ) (request : Request) (made : List LogItem) → StepFits progresses.More true call done → IsAmid me n call done request made → IsAmid me n call (done + 1) request (made ++ byte_item me call done)
  byte_comes n call done request made earlier d = record {
    m = d.m;
    asked_is = d.asked_is;
    asks_so = d.asks_so;
    before = d.before;
    come = d.come;
    made_are =
        ap (λ (l : List LogItem). l ++ byte_item me call done) d.made_are
        ∙ (append_assoc d.before (items_before me call done) (byte_item me call done) ∙ ap (λ (l : List LogItem). d.before ++ l) (more_made me call done earlier));
  }

  -- its reply
  reply_comes : (n : Op) (call : Call) (done : ℕ) (reply : Reply) (n' : Op) (request : Request) (made : List LogItem) → StepFits (progresses.Reply reply) true call done → Fed n reply n' → IsAmid me n call done request made → HasCome me request n' (made ++ step_items (progresses.Reply reply) me true call done)
  reply_comes n call done reply n' request made fits fed d =
      let c = d.come in
      let news = step_items (progresses.Reply reply) me true call done in
      let all : List LogItem = items_before me call done ++ news in
      let x : Exchange = record { call = call; reply = reply; items = all } in
      let fed' : Fed (asked d.m) reply n' = subst (λ (z : Op). Fed z reply n') (sym d.asked_is) fed in
      record {
        first = c.first;
        is_of = c.is_of;
        exchanges = c.exchanges ++ x ∷ [];
        runs = runs_more me c.first d.m c.exchanges x n' c.runs d.asks_so (answers_so me true call done reply fits) (made_all me true call done reply fits) fed';
        made_are =
            ap (λ (l : List LogItem). l ++ news) d.made_are
            ∙ (append_assoc d.before (items_before me call done) news
            ∙ (ap (λ (l : List LogItem). l ++ all) c.made_are
            ∙ (ap (λ (l : List LogItem). items_of_all c.exchanges ++ l) (sym (append-nil all)) ∙ sym (flat_map-append (λ (y : Exchange). y.items) c.exchanges (x ∷ [])))));
      }

  pub done_steps : (n : Op) (call : Call) (done : ℕ) (progress : Progress) (place : Where) (log : List LogItem) → HasDone me (Where.Within n call done) log → StepFits progress true call done → Leads n call done progress place
      → HasDone me place (log ++ step_items progress me true call done)
  done_steps n call done progresses.More place log d fits leads =
      subst (λ (p : Where). HasDone me p (log ++ byte_item me call done)) (leads_more n call done place leads)
      (news_in me log (byte_item me call done) (step_mine me progresses.More true call done) (byte_one call done) (λ request made so. byte_comes n call done request made fits so) d)
  done_steps n call done (progresses.Reply reply) (Where.Between n') log d fits leads =
      news_in me log (step_items (progresses.Reply reply) me true call done) (step_mine me (progresses.Reply reply) true call done) (step_one n call done (progresses.Reply reply) log d)
      (λ request made so. reply_comes n call done reply n' request made fits leads so) d
  done_steps n call done (progresses.Reply reply) place log d fits leads = absurd leads

  -- ---- an End, a job that it takes

  pub done_ends : (answer : Answer) (log : List LogItem) → HasDone me Where.Outside (log ++ items.End me answer ∷ [])
  done_ends answer log = outside_end log (items.End me answer) me (ap (λ (b : Bool). b && true) (seat_self me)) (λ request e. absurd cc)

  pub done_takes : (ticket : Ticket) (log : List LogItem) → HasDone me Where.Outside log → HasDone me Where.Outside (log ++ items.Taken me ticket ∷ [])
  done_takes ticket log d = outside_then log (items.Taken me ticket) me (λ request e. absurd cc) d

  -- ---- what is known wherever it is

  pub done_few : (place : Where) (log : List LogItem) → HasDone me place log → AreFewAfter me log
  done_few Where.Outside log d = λ request i. absurd (d request i)
  done_few (Where.Begun request) log d = few_in me log (λ asked made is. nothing_few asked made is.1) d
  done_few (Where.Between m) log d = few_in me log (λ request made c. come_few me request m made c) d
  done_few (Where.Within n call done) log d = few_in me log (λ request made c. amid_few me request c.m c.before c.come call done made c.asks_so c.made_are) d
  done_few (Where.Ending given) log d = few_in me log (λ request made c. c.few) d

  -- ---- which items fit there

  -- an item of a call
  pub call_fits : (n : Op) (call : Call) (done : ℕ) (log : List LogItem) → HasDone me (Where.Within n call done) log → (x : LogItem) → IsOfCall x → FitsAfter me log x
  call_fits n call done log d (items.Did who c reply) is = (d.request, d.inside)
  call_fits n call done log d (items.Byte who slot at value) is = (d.request, d.inside)
  call_fits n call done log d (items.Failed who memory) is = (d.request, d.inside)
  call_fits n call done log d (items.Evict who store driver key) is = (d.request, d.inside)
  call_fits n call done log d x is = absurd is

  -- the End with what was given, or want of memory in its place
  pub end_fits : (given answer : Answer) (log : List LogItem) → HasDone me (Where.Ending given) log → IsEndOf given answer → FitsAfter me log (items.End me answer)
  end_fits given answer log d is = (d.request, d.inside, told_ends d.request given answer (own me d.inside.since) is d.so.ends)
