-- Where a seat stands between two items of the log among seats that keep the rules, and how its own items and those of others lead on.
use Rattle.std.proofs.Common.{◌≡◌, ◌<◌, ◌+◌, inr, ℕ, true, false, List, [], ◌∷◌, ◌++◌, length, get_or, Some, refl, sym, ap, ◌∙◌, subst, append_assoc, arith}
use Rattle.cache_types.specs.declared.answer.Answer.{Answer}
use Rattle.cache_types.specs.declared.answer.Answer.TheVariants as answers
use Rattle.cache_types.specs.declared.request.Request.{Request}
use Rattle.cache_types.specs.declared.seat.Who.{Who}
use Rattle.file_log.specs.declared.call.Call.{Call}
use Rattle.file_log.specs.declared.call.Call.TheVariants as calls
use Rattle.file_log.specs.declared.item.LogItem.{LogItem}
use Rattle.file_log.specs.declared.item.LogItem.TheVariants as items
use Rattle.file_log.specs.declared.reply.Reply.{Reply}
use Rattle.file_log.specs.declared.reply.Reply.TheVariants as replies
use Rattle.file_log.specs.declared.ticket.Ticket.{Ticket}
use Rattle.file_log.specs.Along.{All}
use Rattle.file_log.specs.Exchange.{items_before}
use Rattle.file_log.specs.Legal.{Legal}
use Rattle.file_log.specs.Log.{History, with_items, is_own, is_stop}
use Rattle.file_log.specs.Seat.{MayCall, course_of}
use Rattle.file_log.specs.State.{state_of}
use Rattle.file_model.specs.declared.step.Progress.{Progress}
use Rattle.file_model.specs.declared.step.Progress.TheVariants as progresses
use Rattle.file_model.specs.Seeing.{seen_of}
use Rattle.file_model.specs.Steps.{step_items, StepFits, IsPlace}
use Rattle.files_api.specs.declared.machine.Step.TheVariants.{Ask, Done}
use Rattle.files_api.specs.Drive.{IsEndOf}
use Rattle.seat_rules.specs.Changes.{with_item}
use Rattle.seat_rules.specs.Places.{past}
use Rattle.layout_rules.specs.Rules.{KeepsRules}
use Rattle.folder_changes.proofs.Earning.{earns}
use Rattle.folder_changes.proofs.Ordering.{stays_in_order}
use Rattle.folder_store.proofs.Keeping.{CanFollow, out_other, out_ended, in_then, within_other, begin_rules, begun}
use Rattle.op_machine.specs.declared.op.Op.{Op}
use Rattle.op_machine.specs.declared.op.Op.TheVariants.{Refuse}
use Rattle.op_machine.specs.Machine.{asks, asked, Fed, slots, hurt}
use Rattle.op_machine.specs.Requests.{IsBuilt, IsOpOf}
use Rattle.op_machine.proofs.Known as known
use Rattle.seat_order.specs.Places.{Where, Leads}
use Rattle.seat_order.specs.Standing.{Stands, IsWithin}
use Rattle.seat_order.proofs.Making.{none_before, place_at_first, made_all, answers_so}
use Rattle.seat_order.proofs.Starting.{starts, starts_empty}
use Rattle.seat_order.proofs.Slots.{other_keeps, those_stay, those_write, none_other, none_still, begun_has, machine_may, machine_done, machine_goes}
use Rattle.std.proofs.lemmas.List.Sums.{fold-append}
use Rattle.std.specs.Prelude.{fold}
use Rattle.file_log.specs.Seat.{Course, course_after}
use Rattle.file_log.proofs.All.{seat_self}
use Rattle.world_tables.proofs.Runs.{byte_items-next}
use Rattle.seat_rules.proofs.Histories.{goes_by}
use Rattle.folder_store.proofs.Keeping.{follow, still_rules, within_inner}

module _ (me : Who) where
  -- ---- a Begin

  -- before any item it is in no operation
  pub out_at_first : Stands me Where.Outside (past [])
  out_at_first = (record { order = stays_in_order.0; idle = refl }, λ at. refl)

  -- its Begin keeps the rules
  pub begins : (request : Request) (h : History) → Stands me Where.Outside h → CanFollow h (items.Begin me request) → KeepsRules h (items.Begin me request) × Stands me (Where.Begun request) (with_item h (items.Begin me request))
  begins request h out legal = (begin_rules me request h out.0, record { fits = legal.1; inside = begun me request h out.0 legal; seen = begun_has me request h out.1 })

  -- ---- its machine

  -- the machine that was made for the request
  pub gets_machine : (request : Request) (m : Op) (h : History) → IsBuilt request → IsOpOf request m → Stands me (Where.Begun request) h → Stands me (Where.Between m) h
  gets_machine request m h built new b = (request, starts me request m h built new b.fits b.inside, starts_empty me request m h new b.seen)

  -- there was no memory for one
  pub gets_none : (request : Request) (h : History) → Stands me (Where.Begun request) h → Stands me (Where.Ending answers.NoMemory) h
  gets_none request h b = record {
    request = request;
    m = Refuse (record { answer = Some answers.NoMemory });
    gives = refl;
    knows = known.given_starts me request (record { answer = Some answers.NoMemory }) h b.inside (λ at i. (earns at me).no_memory request i);
    seen = record { filled = b.seen.filled; inside = b.seen.inside; covers = λ e. refl };
  }

  -- ---- its calls

  -- it asks for a call, of which nothing is made yet
  pub asks_call : (m : Op) (call : Call) (h : History) → asks m ≡ Ask call → Stands me (Where.Between m) h → Stands me (Where.Within (asked m) call 0) h
  asks_call m call h e b = record {
    request = b.0;
    m = m;
    asked_is = refl;
    inside = known.is_in me b.0 m h b.1;
    making = record {
      asks_so = e;
      goes = λ reply made rest fits makes is.
          let all : made ≡ rest = is ∙ ap (λ (l : List LogItem). l ++ rest) (none_before me call) in
          subst (λ (l : List LogItem). known.During me b.0 m call reply l h) all ((known.inductive me b.0).enters m call reply made h b.1 e fits makes);
    };
    place = place_at_first me call;
    seen = b.2;
  }

  -- it gives its answer
  pub gives_answer : (m : Op) (given : Answer) (h : History) → asks m ≡ Done given → Stands me (Where.Between m) h → Stands me (Where.Ending given) h
  gives_answer m given h e b = record { request = b.0; m = m; gives = e; knows = b.1; seen = machine_done me m given h e b.2 }

  -- ---- one item of a call

  -- the items that a call with a reply still makes keep the rules, one after another
  go_over : (request : Request) (m : Op) (call : Call) (reply : Reply) (news : List LogItem) (h : History) → known.During me request m call reply news h → All with_item CanFollow h news → All with_item KeepsRules h news × known.During me request m call reply [] (fold with_item h news)
  go_over request m call reply [] h d legal = (tt, d)
  go_over request m call reply (x ∷ news) h d legal =
      let g = (known.inductive me request).steps m call reply x news h d legal.0 in
      let on = go_over request m call reply news (with_item h x) g.1 legal.1 in
      ((g.0, on.0), on.1)

  byte : ℕ → ℕ → List ℕ → ℕ → LogItem
  byte slot at bytes done = items.Byte me slot (at + done) (get_or bytes done 0)

  -- what a step did: its items keep the rules, and the seat stands at the place that it leads to
  abbrev pub Steps : Op → Call → ℕ → Progress → Where → History → Type 0
  Steps n call done progress place h =
      All with_item KeepsRules h (step_items progress me true call done) × Stands me place (with_items h (step_items progress me true call done))

  -- the call is answered
  answered : (n : Op) (call : Call) (done : ℕ) (reply : Reply) (n' : Op) (h : History) → IsWithin me n call done h → StepFits (progresses.Reply reply) true call done → Legal (state_of h) (step_items (progresses.Reply reply) me true call done) → Fed n reply n'
      → Steps n call done (progresses.Reply reply) (Where.Between n') h
  answered n call done reply n' h w fits legal fed =
      let news = step_items (progresses.Reply reply) me true call done in
      let d = w.making.goes reply (items_before me call done ++ news) news (answers_so me true call done reply fits) (made_all me true call done reply fits) refl in
      let g = go_over w.request w.m call reply news h d (follow h news legal) in
      let fed' : Fed (asked w.m) reply n' = subst (λ (z : Op). Fed z reply n') (sym w.asked_is) fed in
      let knows = (known.inductive me w.request).leaves w.m n' call reply (fold with_item h news) g.1 fed' in
      (g.0, (w.request, subst (known.Between me w.request n') (goes_by h news) knows, machine_goes me w.m n' call reply done h w.making.asks_so w.seen fed' (answers_so me true call done reply fits) legal))

  -- a byte of the write is made, and others are left
  byte_made : (n : Op) (slot at : ℕ) (bytes : List ℕ) (done : ℕ) (h : History) → IsWithin me n (calls.WriteAt slot at bytes) done h → done + 1 < length bytes → CanFollow h (byte slot at bytes done)
      → KeepsRules h (byte slot at bytes done) × IsWithin me n (calls.WriteAt slot at bytes) (done + 1) (with_item h (byte slot at bytes done))
  unfolding byte
  byte_made n slot at bytes done h w more legal =
      let call : Call = calls.WriteAt slot at bytes in
      let x : LogItem = byte slot at bytes done in
      let next : items_before me call (done + 1) ≡ items_before me call done ++ x ∷ [] = byte_items-next me slot at done (done + 1) bytes (omega (arith, more)) refl in
      let apart : (rest : List LogItem) → items_before me call (done + 1) ++ rest ≡ items_before me call done ++ x ∷ rest = λ rest. ap (λ (l : List LogItem). l ++ rest) next ∙ append_assoc (items_before me call done) (x ∷ []) rest in
      let failed : List LogItem = items.Failed me false ∷ [] in
      let rules : KeepsRules h x =
      ((known.inductive me w.request).steps w.m call replies.Failed x failed h (w.making.goes replies.Failed (items_before me call (done + 1) ++ failed) (x ∷ failed) tt (done + 1, refl) (apart failed)) legal).0 in (
        rules,
        record {
          request = w.request;
          m = w.m;
          asked_is = w.asked_is;
          inside = in_then me w.request h x w.inside (within_inner me x refl) legal rules;
          making = record {
            asks_so = w.making.asks_so;
            goes = λ reply made rest fits makes e. ((known.inductive me w.request).steps w.m call reply x rest h (w.making.goes reply made (x ∷ rest) fits makes (e ∙ apart rest)) legal).1;
          };
          place = inr more;
          seen = those_write me w.m h slot (at + done) (get_or bytes done 0) w.seen;
        },
      )

  place_is : (place : Where) (n : Op) (call : Call) (done : ℕ) (h : History) → Leads n call done progresses.More place → Stands me (Where.Within n call (done + 1)) h → Stands me place h
  place_is (Where.Within n' call' done') n call done h leads s =
      subst (λ (k : ℕ). Stands me (Where.Within n' call' k) h) (sym leads.2) (subst (λ (c : Call). Stands me (Where.Within n' c (done + 1)) h) (sym leads.1) (subst (λ (m : Op). Stands me (Where.Within m call (done + 1)) h) (sym leads.0) s))
  place_is place n call done h leads s = absurd leads

  goes_more : (n : Op) (call : Call) (done : ℕ) (place : Where) (h : History) → Stands me (Where.Within n call done) h → StepFits progresses.More true call done → Legal (state_of h) (step_items progresses.More me true call done) → Leads n call done progresses.More place
      → Steps n call done progresses.More place h
  unfolding byte
  goes_more n (calls.WriteAt slot at bytes) done place h w more legal leads =
      let made = byte_made n slot at bytes done h w more legal.0 in
      ((made.0, tt), place_is place n (calls.WriteAt slot at bytes) done (with_item h (byte slot at bytes done)) leads made.1)
  goes_more n call done place h w more legal leads = absurd more

  -- One step of a call: the item that it makes, if it makes one, keeps the rules.
  pub steps : (n : Op) (call : Call) (done : ℕ) (progress : Progress) (place : Where) (h : History) → Stands me (Where.Within n call done) h → StepFits progress true call done → Legal (state_of h) (step_items progress me true call done) → Leads n call done progress place
      → Steps n call done progress place h
  steps n call done progresses.More place h w fits legal leads = goes_more n call done place h w fits legal leads
  steps n call done (progresses.Reply reply) (Where.Between n') h w fits legal leads = answered n call done reply n' h w fits legal leads
  steps n call done (progresses.Reply reply) place h w fits legal leads = absurd leads

  -- ---- its End

  pub ends : (given answer : Answer) (h : History) → Stands me (Where.Ending given) h → IsEndOf given answer → CanFollow h (items.End me answer) → KeepsRules h (items.End me answer) × Stands me Where.Outside (with_item h (items.End me answer))
  ends given answer h s is legal =
      let rules = known.ends me s.request s.m given answer h s.knows s.gives is in
      (rules, (out_ended me h answer (known.is_in me s.request s.m h s.knows).order legal rules, none_still me h (items.End me answer) s.seen.filled refl))

  -- ---- a job that is taken outside of operations

  pub takes : (ticket : Ticket) (h : History) → Stands me Where.Outside h → CanFollow h (items.Taken me ticket) → KeepsRules h (items.Taken me ticket) × Stands me Where.Outside (with_item h (items.Taken me ticket))
  takes ticket h out legal =
      let x : LogItem = items.Taken me ticket in
      let rules = still_rules h x out.0.order tt (record { names = λ name. refl; files = λ file. refl }) in (
        rules,
        (
          record {
            order = stays_in_order.1 h x out.0.order legal rules;
            idle = ap (λ (c : Course). c.inside) (fold-append (course_after me) (record { inside = false; hurt = false }) h.log (x ∷ [])) ∙ rw (seat_self me) out.0.idle;
          },
          none_still me h x out.1 refl,
        ),
      )

  -- ---- others' items

  -- an item of another that keeps the rules and stops no process of the seat
  pub stays : (place : Where) (h : History) (x : LogItem) → Stands me place h → is_own me x ≡ false → is_stop me.process x ≡ false → CanFollow h x → KeepsRules h x → Stands me place (with_item h x)
  stays Where.Outside h x s other goes legal rules = (out_other me h x s.0 other legal rules, none_other me h x s.1 other goes)
  stays (Where.Begun request) h x s other goes legal rules = record { fits = s.fits; inside = in_then me request h x s.inside (within_other me x other) legal rules; seen = other_keeps me (λ at. false) false h x s.seen other goes }
  stays (Where.Between m) h x s other goes legal rules = (s.0, (known.inductive me s.0).between m x h s.1 other goes legal rules, those_stay me m h x s.2 other goes)
  stays (Where.Within n call done) h x s other goes legal rules = record {
    request = s.request;
    m = s.m;
    asked_is = s.asked_is;
    inside = in_then me s.request h x s.inside (within_other me x other) legal rules;
    making = record {
      asks_so = s.making.asks_so;
      goes = λ reply made rest fits makes e. (known.inductive me s.request).others s.m call reply rest x h (s.making.goes reply made rest fits makes e) other goes legal rules;
    };
    place = s.place;
    seen = those_stay me s.m h x s.seen other goes;
  }
  stays (Where.Ending given) h x s other goes legal rules = record {
    request = s.request;
    m = s.m;
    gives = s.gives;
    knows = (known.inductive me s.request).between s.m x h s.knows other goes legal rules;
    seen = other_keeps me (λ at. false) true h x s.seen other goes;
  }

  -- ---- what it may do there

  -- the call that its machine asked for
  pub may_call : (n : Op) (call : Call) (done : ℕ) (h : History) → Stands me (Where.Within n call done) h → MayCall (seen_of me h) call
  may_call n call done h s = machine_may me s.m call h s.making.asks_so s.seen

  -- the byte that comes next is one of the write's
  pub is_place : (n : Op) (call : Call) (done : ℕ) (h : History) → Stands me (Where.Within n call done) h → IsPlace call done
  is_place n call done h s = s.place

  -- its operation is open
  pub is_inside : (n : Op) (call : Call) (done : ℕ) (h : History) → Stands me (Where.Within n call done) h → (course_of me h.log).inside ≡ true
  is_inside n call done h s = s.seen.1.inside

  pub ending_inside : (given : Answer) (h : History) → Stands me (Where.Ending given) h → (course_of me h.log).inside ≡ true
  ending_inside given h s = s.seen.inside

  pub begun_inside : (request : Request) (h : History) → Stands me (Where.Begun request) h → (course_of me h.log).inside ≡ true
  begun_inside request h s = s.seen.inside

  -- or none is
  pub out_idle : (h : History) → Stands me Where.Outside h → (course_of me h.log).inside ≡ false
  out_idle h s = s.0.idle
