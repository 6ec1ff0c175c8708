-- A put of a blob that is too large makes no call.
use Rattle.std.proofs.Common.{◌≡◌, ◌<◌, ◌⊎◌, inl, inr, ℕ, true, false, List, [], ◌∷◌, ◌++◌, length, Option, Some, None, refl, sym, ap, ◌∙◌, subst}
use Rattle.std.proofs.lemmas.Bool.{lt-ltb, eq-eqb}
use Rattle.cache_types.specs.declared.answer.Answer.{Answer}
use Rattle.cache_types.specs.declared.answer.Answer.TheVariants.{TooLarge, NoMemory}
use Rattle.cache_types.specs.declared.limits.TheConstants.{MAX_BLOB}
use Rattle.cache_types.specs.declared.request.Request.{Request}
use Rattle.cache_types.specs.declared.request.Request.TheVariants as requests
use Rattle.cache_types.specs.declared.seat.Who.{Who}
use Rattle.file_log.specs.declared.call.Call.{Call}
use Rattle.file_log.specs.declared.item.LogItem.{LogItem}
use Rattle.file_log.specs.declared.item.LogItem.TheVariants.{Begin, End}
use Rattle.file_log.specs.Exchange.{Exchange}
use Rattle.file_log.specs.Log.{History}
use Rattle.file_log.specs.Operation.{LeavesAll}
use Rattle.file_log.specs.State.{after, state_of}
use Rattle.file_log.proofs.All.{none_keeps}
use Rattle.files_api.specs.declared.machine.Step.TheVariants.{Ask}
use Rattle.files_api.specs.Drive.{Runs, items_of_all, IsEndOf, Refused, Unmade, Operated}
use Rattle.folder_changes.proofs.Earning.{earns}
use Rattle.seat_rules.specs.Answers.{is_too_large}
use Rattle.seat_rules.specs.Changes.{with_item}
use Rattle.seat_rules.specs.Operations.{IsInside}
use Rattle.layout_rules.specs.Rules.{AnswersAreEarned, KeepsRules}
use Rattle.folder_store.proofs.Calls.{done_is, not_ask}
use Rattle.folder_store.proofs.Keeping.{IsIdleIn, order_of, no_calls_keep, unmade_keeps}
use Rattle.folder_store.proofs.Operations.{Grows-map, Grows-from}
use Rattle.folder_store.proofs.Still.{all_as_own, looking_stays, nothing_stays}
use Rattle.op_machine.specs.declared.given.Given.{Given}
use Rattle.op_machine.specs.Given.{given_step, given_asks, given_asked, GivenFed}
use Rattle.op_union.specs.Requests.{AsksLarge, RefusedLarge}

-- ---- an answer that is given makes no call

never_asks : {P : Type 0} (answer : Option Answer) (call : Call) → given_step answer ≡ Ask call → P
never_asks None call e = not_ask call NoMemory e
never_asks (Some answer) call e = not_ask call answer e

no_call : (me : Who) (m last : Given) (xs : List Exchange) (a given : Answer) → m.answer ≡ Some a → Runs given_asks given_asked GivenFed me m xs given last → (given ≡ a) × (items_of_all xs ≡ [])
no_call me m last [] a given e runs = (sym (done_is a given (ap given_step (sym e) ∙ runs.0)), refl)
no_call me m last (x ∷ xs) a given e runs = never_asks m.answer x.call runs.0

-- ---- its answer is earned

is_large : (blob : List ℕ) (n : ℕ) → length blob ≡ n → MAX_BLOB < length blob → is_too_large blob n ≡ true
is_large blob n same large = rw (lt-ltb MAX_BLOB (length blob) large, eq-eqb n (length blob) (sym same)) refl

large_earned : (me : Who) (request : Request) (n : ℕ) → AsksLarge request n → (h : History) → IsInside h.log me request → AnswersAreEarned h (End me (TooLarge n))
large_earned me (requests.Put store driver key meta blob limit) n large h i = (earns h me).too_large store driver key meta blob limit n i (is_large blob n large.0 large.1)
large_earned me request n large h i = absurd large

end_earned : (me : Who) (request : Request) (n : ℕ) (answer : Answer) → AsksLarge request n → (answer ≡ TooLarge n) ⊎ (answer ≡ NoMemory) → (h : History) → IsInside h.log me request → AnswersAreEarned h (End me answer)
end_earned me request n answer large (inl e) h i = subst (λ (a : Answer). AnswersAreEarned h (End me a)) (sym e) (large_earned me request n large h i)
end_earned me request n answer large (inr e) h i = subst (λ (a : Answer). AnswersAreEarned h (End me a)) (sym e) ((earns h me).no_memory request i)

module _ (me : Who) (request : Request) (n : ℕ) (old new : Option History) (before now : ℕ) (answer : Answer) (large : AsksLarge request n) (idle : IsIdleIn me old) where
  abbrev IsRefused : Type 0
  IsRefused = RefusedLarge me request n old new answer

  refused : Refused me old new answer → IsRefused
  refused r = record {
    answer_is = inr r.answer_is;
    told = Grows-map old new _ _ r.told (λ h news o. record {
      operation = inl (o.own_items, r.answer_is);
      keeps = λ kept. none_keeps with_item KeepsRules me h news o.own_items;
      still = all_as_own after (LeavesAll me) me (λ s item other mine. let clash : false ≡ true = sym other ∙ mine in absurd cc) (state_of h) news (none_keeps after (LeavesAll me) me (state_of h) news o.own_items);
    });
  }

  unmade : Unmade me request old new answer → IsRefused
  unmade r = record {
    answer_is = inr r.answer_is;
    told = Grows-from old new _ _ r.told (λ h news is_old o. record {
      keeps = unmade_keeps me request h news o.owns.own_items o.owns.legal o.owns.goes_on (idle h is_old);
      operation = inr (o.owns.own_items ∙ ap (λ (a : Answer). Begin me request ∷ End me a ∷ []) (sym r.answer_is));
      still = nothing_stays me request news (state_of h) o.owns.own_items o.owns.legal o.owns.goes_on;
    });
  }

  ended : (given : Answer) → given ≡ TooLarge n → IsEndOf given answer → (answer ≡ TooLarge n) ⊎ (answer ≡ NoMemory)
  ended given e (inl is) = inl (is ∙ e)
  ended given e (inr lack) = inr lack.0

  operated : (IsMade : Given → Type 0) → ((m : Given) → IsMade m → m ≡ record { answer = Some (TooLarge n) }) → Operated given_asks given_asked GivenFed (λ m. 0) IsMade me request old new before now answer → IsRefused
  operated IsMade is_new r =
      let none = no_call me r.first r.last r.exchanges (TooLarge n) r.given (ap (λ (m : Given). m.answer) (is_new r.first r.made)) r.runs in
      let ends = ended r.given none.0 r.answer_is in
      record {
        answer_is = ends;
        told = Grows-from old new _ _ r.told (λ h news is_old o. let whole = o.owns.own_items ∙ ap (λ (made : List LogItem). Begin me request ∷ (made ++ End me answer ∷ [])) none.1 in record {
          operation = inr whole;
          keeps = λ kept. no_calls_keep me request answer h news (end_earned me request n answer large ends) whole o.owns.legal o.owns.goes_on (record { order = order_of h kept; idle = idle h is_old });
          still = looking_stays given_asks given_asked GivenFed me (λ m call e. never_asks m.answer call e) r.first request answer news (state_of h) r.exchanges r.given r.last r.runs r.answer_is o.owns.own_items o.owns.legal o.owns.goes_on;
        });
      }

  -- However it ended, it changed nothing.
  pub refused_large : (IsMade : Given → Type 0) → ((m : Given) → IsMade m → m ≡ record { answer = Some (TooLarge n) })
      → Refused me old new answer ⊎ (Unmade me request old new answer ⊎ Operated given_asks given_asked GivenFed (λ m. 0) IsMade me request old new before now answer) → IsRefused
  refused_large IsMade is_new (inl r) = refused r
  refused_large IsMade is_new (inr (inl r)) = unmade r
  refused_large IsMade is_new (inr (inr r)) = operated IsMade is_new r
