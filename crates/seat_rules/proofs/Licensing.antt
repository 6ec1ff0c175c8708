-- A hit gives what was put there, where each layout's part satisfies the laws.
use Rattle.std.proofs.Common.{◌≡◌, inl, inr, ℕ, true, List, [], ◌∷◌, ◌++◌, Option, Some, None, refl, sym, ap, ◌∙◌, subst, append_assoc}
use Rattle.std.specs.List.{Contains}
use Rattle.std.proofs.lemmas.List.Elements.{Contains-append_left, Contains-push_cases}
use Rattle.cache_types.specs.Driver.{DriverKeys, IsDriver}
use Rattle.cache_types.specs.declared.answer.Answer.{Answer}
use Rattle.cache_types.specs.declared.answer.Answer.TheVariants as answers
use Rattle.cache_types.specs.declared.key.Key.{Key}
use Rattle.cache_types.specs.declared.request.Request.TheVariants as requests
use Rattle.cache_types.specs.declared.request.RoPlan.{RoPlan}
use Rattle.cache_types.specs.declared.seat.Who.{Who}
use Rattle.cache_types.specs.declared.store.Layout.{Layout}
use Rattle.cache_types.specs.declared.store.Store.{Store}
use Rattle.file_log.specs.Legal.{Legal}
use Rattle.file_log.specs.Log.{History, WasPut, seat_of, is_own, is_seat}
use Rattle.file_log.specs.State.{first}
use Rattle.file_log.specs.declared.item.LogItem.{LogItem}
use Rattle.file_log.specs.declared.item.LogItem.TheVariants as items
use Rattle.seat_rules.specs.Address.{Address}
use Rattle.seat_rules.specs.Operations.{IsInside}
use Rattle.seat_rules.specs.Places.{AtEach, past}
use Rattle.seat_rules.specs.Promises.{IsLicensed, Licensed}
use Rattle.seat_rules.proofs.Puts.{fits_there, fits_in, PutIn, put_goes_on}
use Rattle.seat_rules.proofs.Along.{there, everywhere}
use Rattle.seat_rules.specs.Judged.{Conforms, KeepsRules, Cooperating}
use Rattle.seat_rules.specs.Part.{Parts, After, anywhere, Gives}
use Rattle.seat_rules.proofs.Finding.{earned_at}
use Rattle.seat_rules.specs.Served.{IsServed}

-- an End puts nothing
put_before : (xs : List LogItem) (who : Who) (answer : Answer) (store : Store) (driver : DriverKeys) (key : Key) (blob : List ℕ) → WasPut (xs ++ items.End who answer ∷ []) store driver key blob → WasPut xs store driver key blob
put_before xs who answer store driver key blob put = elim (Contains-push_cases xs (items.End who answer) _ put.3) [
  | inl there ↦ (put.0, put.1, put.2, there)
  | inr clash ↦ absurd cc
]

module _ (parts : Parts) (laws : (l : Layout) → IsServed l (parts l)) where
  -- an item of a seat keeps the rules
  seat_keeps : (h : History) (item : LogItem) (who : Who) → is_own who item ≡ true → KeepsRules parts h item → (me : Who) × Conforms parts h item me
  seat_keeps h item who mine keeps = by_seat (seat_of item) refl mine
    where
      by_seat : (seat : Option Who) → seat_of item ≡ seat → is_seat who seat ≡ true → (me : Who) × Conforms parts h item me
      by_seat None e mine = absurd cc
      by_seat (Some me) e mine = (me, keeps me e)

  hit_put : (log xs ys : List LogItem) (who : Who) (blob : List ℕ) (at : Address) (ro : RoPlan) → log ≡ xs ++ items.End who (answers.Hit blob) ∷ ys → Legal (first []) log → Cooperating parts log
      → (i : IsInside xs who (requests.Get at.store at.driver at.key ro))
      → After (anywhere at.store.root who) (λ d. Gives parts d at blob) who (past i.before) (items.Begin who (requests.Get at.store at.driver at.key ro) ∷ (i.since ++ items.End who (answers.Hit blob) ∷ [])) → PutIn xs at blob
  hit_put log xs ys who blob at ro e legal keeps i t = put_before xs who (answers.Hit blob) at.store at.driver at.key blob (subst (λ (l : List LogItem). PutIn l at blob) all_is (put_goes_on front t.later at.store at.driver at.key blob put))
    where
      begin : LogItem
      begin = items.Begin who (requests.Get at.store at.driver at.key ro)

      done : LogItem
      done = items.End who (answers.Hit blob)

      front : List LogItem
      front = (i.before ++ t.earlier) ++ t.item ∷ []

      -- the log up to and with the End falls apart there
      all_is : front ++ t.later ≡ xs ++ done ∷ []
      all_is =
          append_assoc (i.before ++ t.earlier) (t.item ∷ []) t.later
          ∙ append_assoc i.before t.earlier (t.item ∷ t.later)
          ∙ ap (λ (l : List LogItem). i.before ++ l) (sym t.made_are)
          ∙ sym (append_assoc i.before (begin ∷ i.since) (done ∷ []))
          ∙ ap (λ (l : List LogItem). l ++ done ∷ []) (sym i.log_is)

      whole_log : log ≡ (i.before ++ t.earlier) ++ t.item ∷ (t.later ++ ys)
      whole_log =
          e ∙ sym (append_assoc xs (done ∷ []) ys)
          ∙ ap (λ (l : List LogItem). l ++ ys) (sym all_is)
          ∙ append_assoc front t.later ys
          ∙ append_assoc (i.before ++ t.earlier) (t.item ∷ []) (t.later ++ ys)

      kept : (me : Who) × Conforms parts (past (i.before ++ t.earlier)) t.item me
      kept = seat_keeps (past (i.before ++ t.earlier)) t.item who t.mine (there (KeepsRules parts) (i.before ++ t.earlier) (t.later ++ ys) t.item (subst (AtEach (KeepsRules parts)) whole_log keeps))

      begin_fits : IsDriver at.driver
      begin_fits = (fits_there (first []) i.before (i.since ++ done ∷ ys) begin (subst (Legal (first [])) (e ∙ ap (λ (l : List LogItem). l ++ done ∷ ys) i.log_is ∙ append_assoc i.before (begin ∷ i.since) (done ∷ ys)) legal)).0

      front_later : log ≡ front ++ (t.later ++ ys)
      front_later = whole_log ∙ sym (append_assoc (i.before ++ t.earlier) (t.item ∷ []) (t.later ++ ys))

      put_fits : (driver : DriverKeys) (b : List ℕ) → WasPut front at.store driver at.key b → IsDriver driver
      put_fits driver b put =
          let begun : LogItem = items.Begin put.0 (requests.Put at.store driver at.key put.1 b put.2) in
          (fits_in (first []) log begun legal (subst (λ (l : List LogItem). Contains l begun) (sym front_later) (Contains-append_left front (t.later ++ ys) begun put.3))).0

      put : PutIn front at blob
      put = (laws at.store.layout).given_put front at.store.root at.driver at.key blob ((kept.1).whole at.store.layout) put_fits begin_fits t.so

  licensed_there : (log xs ys : List LogItem) (item : LogItem) → log ≡ xs ++ item ∷ ys → Legal (first []) log → Cooperating parts log → IsLicensed (past xs) item
  licensed_there log xs ys (items.End who (answers.Hit blob)) e legal keeps = λ at ro inside.
      let conform = there (KeepsRules parts) xs ys (items.End who (answers.Hit blob)) (subst (AtEach (KeepsRules parts)) e keeps) who refl in
      inl (hit_put log xs ys who blob at ro e legal keeps inside (earned_at parts (past xs) who (answers.Hit blob) (requests.Get at.store at.driver at.key ro) conform.earned inside).1)
  licensed_there log xs ys item e legal keeps = tt

  -- each hit of a cooperating log is licensed
  pub licensed : (log : List LogItem) → Legal (first []) log → Cooperating parts log → Licensed log
  licensed log legal keeps = everywhere IsLicensed log (λ xs ys item e. licensed_there log xs ys item e legal keeps)
