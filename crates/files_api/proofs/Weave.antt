-- The lemma on every interleaving: a whole operation, whose items stand among those of others, is never the first to
-- break a rule, whole or cut off after any item. It is generic in the fold, in what is legal and in the rule.
use Rattle.std.proofs.Common.{◌≡◌, Bool, true, false, cond, List, [], ◌∷◌, ◌++◌, fold, refl, sym, subst, ◌∙◌, ◌⊎◌, append_assoc}
use Rattle.cache_types.specs.declared.seat.Who.{Who}
use Rattle.cache_types.specs.declared.answer.Answer.{Answer}
use Rattle.cache_types.specs.declared.request.Request.{Request}
use Rattle.file_log.specs.declared.call.Call.{Call}
use Rattle.file_log.specs.declared.reply.Reply.{Reply}
use Rattle.file_log.specs.declared.item.LogItem.{LogItem}
use Rattle.file_log.specs.declared.item.LogItem.TheVariants.{Begin, End}
use Rattle.files_api.specs.declared.machine.Step.{Step}
use Rattle.files_api.specs.declared.machine.Step.TheVariants.{Ask, Done}
use Rattle.file_log.specs.Log.{own, is_own, is_stop, NoStop}
use Rattle.file_log.specs.Along.{All, Keeps}
use Rattle.file_log.specs.Exchange.{Answers, Makes, Exchange}
use Rattle.files_api.specs.Drive.{Runs, items_of_all, IsEndOf}

-- What is known between calls (Inv) and within one (During, with the items that it still makes).
pub record Inductive {M S : Type 0} (asks : M → Step) (asked : M → M) (fed : M → Reply → M → Type 0) (me : Who) (step : S → LogItem → S) (IsLegal Rule : S → LogItem → Type 0) (Inv : M → S → Type 0) (During : M → Call → Reply → List LogItem → S → Type 0) : Type 0 where
  pub enters : (m : M) (call : Call) (reply : Reply) (made : List LogItem) (s : S) → Inv m s → asks m ≡ Ask call → Answers true call reply → Makes me true call reply made → During m call reply made s
  pub steps : (m : M) (call : Call) (reply : Reply) (item : LogItem) (made : List LogItem) (s : S) → During m call reply (item ∷ made) s → IsLegal s item → Rule s item × During m call reply made (step s item)
  pub others : (m : M) (call : Call) (reply : Reply) (made : List LogItem) (other : LogItem) (s : S) → During m call reply made s → is_own me other ≡ false → is_stop me.process other ≡ false → IsLegal s other → Rule s other → During m call reply made (step s other)
  pub between : (m : M) (other : LogItem) (s : S) → Inv m s → is_own me other ≡ false → is_stop me.process other ≡ false → IsLegal s other → Rule s other → Inv m (step s other)
  pub leaves : (m n : M) (call : Call) (reply : Reply) (s : S) → During m call reply [] s → fed (asked m) reply n → Inv n s

-- what is known outside of operations (Out), and how an operation leads from it and back to it
pub record Outer {M S : Type 0} (asks : M → Step) (me : Who) (step : S → LogItem → S) (IsLegal Rule : S → LogItem → Type 0) (Inv : M → S → Type 0) (Out : S → Type 0) (first : M) (request : Request) (answer : Answer) : Type 0 where
  pub begins : (s : S) → Out s → IsLegal s (Begin me request) → Rule s (Begin me request) × Inv first (step s (Begin me request))
  pub ends : (m : M) (given : Answer) (s : S) → Inv m s → asks m ≡ Done given → IsEndOf given answer → IsLegal s (End me answer) → Rule s (End me answer) × Out (step s (End me answer))
  pub outside : (other : LogItem) (s : S) → Out s → is_own me other ≡ false → is_stop me.process other ≡ false → IsLegal s other → Rule s other → Out (step s other)

module _ {M S : Type 0} (asks : M → Step) (asked : M → M) (fed : M → Reply → M → Type 0) (me : Who) (step : S → LogItem → S) (IsLegal Rule : S → LogItem → Type 0) (Inv : M → S → Type 0) (During : M → Call → Reply → List LogItem → S → Type 0) (ind : Inductive asks asked fed me step IsLegal Rule Inv During)
    (Out : S → Type 0) (first : M) (request : Request) (answer : Answer) (outer : Outer asks me step IsLegal Rule Inv Out first request answer) where
  abbrev tail : List LogItem
  tail = End me answer ∷ []

  -- the rest of the machine's run, and of the operation
  pub record Rest (m : M) (left : List LogItem) : Type 0 where
    pub xs : List Exchange
    pub given : Answer
    pub last : M
    pub runs : Runs asks asked fed me m xs given last
    pub answer_is : IsEndOf given answer
    pub left_is : left ≡ items_of_all xs ++ tail

  -- where an operation stands
  pub data Stands (s : S) (left : List LogItem) : Type 0 where
    Before : (left' : List LogItem) → Out s → Rest first left' → left ≡ Begin me request ∷ left' → Stands s left
    Within : (m n : M) (call : Call) (reply : Reply) (made left' : List LogItem) → During m call reply made s → fed (asked m) reply n → Rest n left' → left ≡ made ++ left' → Stands s left
    Between : (m : M) → Inv m s → Rest m left → Stands s left
    Over : Out s → left ≡ [] → Stands s left

  -- an item that comes next keeps the rule
  abbrev Gives : S → LogItem → List LogItem → Type 0
  Gives s item left = IsLegal s item → Rule s item × Stands (step s item) left

  within : (s : S) (left : List LogItem) (item : LogItem) (m n : M) (call : Call) (reply : Reply) (made left' : List LogItem) → (Inv n s → item ∷ left ≡ left' → Gives s item left)
      → During m call reply made s → fed (asked m) reply n → Rest n left' → item ∷ left ≡ made ++ left' → Gives s item left
  within s left item m n call reply [] left' again during f r e = again (ind.leaves m n call reply s during f) e
  within s left item m n call reply (y ∷ ys) left' again during f r e = λ legal.
      let same : y ≡ item = cc in
      let more : left ≡ ys ++ left' = cc in
      let g = ind.steps m call reply item ys s (subst (λ (z : LogItem). During m call reply (z ∷ ys) s) same during) legal in
      (g.0, Within m n call reply ys left' g.1 f r more)

  between_calls : (xs : List Exchange) (s : S) (left : List LogItem) (item : LogItem) (m : M) (given : Answer) (last : M) → Inv m s → Runs asks asked fed me m xs given last → IsEndOf given answer → item ∷ left ≡ items_of_all xs ++ tail → Gives s item left
  between_calls [] s left item m given last inv runs is e = λ legal.
      let same : End me answer ≡ item = cc in
      let none : left ≡ [] = cc in
      let g = outer.ends m given s inv runs.0 is (subst (λ (i : LogItem). IsLegal s i) (sym same) legal) in
      subst (λ (i : LogItem). Rule s i × Stands (step s i) left) same (g.0, Over g.1 none)
  between_calls (x ∷ xs) s left item m given last inv runs is e =
      let n = runs.3.0 in
      within s left item m n x.call x.reply x.items (items_of_all xs ++ tail) (λ inv' e'. between_calls xs s left item n given last inv' runs.3.2 is e') (ind.enters m x.call x.reply x.items s inv runs.0 runs.1 runs.2) runs.3.1
      (record { xs = xs; given = given; last = last; runs = runs.3.2; answer_is = is; left_is = refl }) (e ∙ append_assoc x.items (items_of_all xs) tail)

  rest_gives : (s : S) (left all : List LogItem) (item : LogItem) (m : M) → Inv m s → Rest m all → item ∷ left ≡ all → Gives s item left
  rest_gives s left all item m inv r e = between_calls r.xs s left item m r.given r.last inv r.runs r.answer_is (e ∙ r.left_is)

  stands_gives : (s : S) (left : List LogItem) (item : LogItem) (all : List LogItem) → Stands s all → all ≡ item ∷ left → Gives s item left
  stands_gives s left item all (Before left' out r e) is = λ legal.
      let both : item ∷ left ≡ Begin me request ∷ left' = sym is ∙ e in
      let same : Begin me request ≡ item = cc in
      let more : left' ≡ left = cc in
      let g = outer.begins s out (subst (λ (i : LogItem). IsLegal s i) (sym same) legal) in
      subst (λ (i : LogItem). Rule s i × Stands (step s i) left) same (g.0, Between first g.1 (subst (Rest first) more r))
  stands_gives s left item all (Within m n call reply made left' during f r e) is = within s left item m n call reply made left' (λ inv e'. rest_gives s left left' item n inv r e') during f r (sym is ∙ e)
  stands_gives s left item all (Between m inv r) is = rest_gives s left all item m inv r (sym is)
  stands_gives s left item all (Over out e) is = let clash : item ∷ left ≡ [] = sym is ∙ e in absurd cc

  stays : (s : S) (left : List LogItem) (other : LogItem) → Stands s left → is_own me other ≡ false → is_stop me.process other ≡ false → IsLegal s other → Rule s other → Stands (step s other) left
  stays s left other (Before left' out r e) o p l k = Before left' (outer.outside other s out o p l k) r e
  stays s left other (Within m n call reply made left' during f r e) o p l k = Within m n call reply made left' (ind.others m call reply made other s during o p l k) f r e
  stays s left other (Between m inv r) o p l k = Between m (ind.between m other s inv o p l k) r
  stays s left other (Over out e) o p l k = Over (outer.outside other s out o p l k) e

  -- The seat is not the first to break the rule, and where none breaks it the operation stands at the end, with so many items left.
  abbrev pub Woven : S → List LogItem → List LogItem → Type 0
  Woven s news more = Keeps step Rule me s news × (All step Rule s news → Stands (fold step s news) more)

  one_item : (item : LogItem) (news : List LogItem) (s : S) (left more : List LogItem) (b : Bool) → is_own me item ≡ b → Stands s left → cond b (item ∷ own me news) (own me news) ++ more ≡ left → IsLegal s item → is_stop me.process item ≡ false
      → ((left' : List LogItem) → Stands (step s item) left' → own me news ++ more ≡ left' → Woven (step s item) news more) → Woven s (item ∷ news) more
  one_item item news s left more true mine stands e legal goes again =
      let g = stands_gives s (own me news ++ more) item left stands (sym e) legal in
      let on = again (own me news ++ more) g.1 refl in
      ((λ own'. g.0, λ rule. on.0), λ all. on.1 all.1)
  one_item item news s left more false mine stands e legal goes again =
      ((λ own'. absurd cc, λ rule. (again left (stays s left item stands mine goes legal rule) e).0), λ all. (again left (stays s left item stands mine goes legal all.0) e).1 all.1)

  weave_from : (news : List LogItem) (s : S) (left more : List LogItem) → Stands s left → own me news ++ more ≡ left → All step IsLegal s news → NoStop me.process news → Woven s news more
  weave_from [] s left more stands e legal goes = (tt, λ all. subst (λ (l : List LogItem). Stands s l) (sym e) stands)
  weave_from (item ∷ news) s left more stands e legal goes =
      one_item item news s left more (is_own me item) refl stands e legal.0 goes.0 (λ left' stands' e'. weave_from news (step s item) left' more stands' e' legal.1 goes.1)

  -- An operation is never the first to break the rule.
  pub weave_operation : (news : List LogItem) (s : S) (more : List LogItem) (xs : List Exchange) (given : Answer) (last : M) → Out s → Runs asks asked fed me first xs given last → IsEndOf given answer
      → own me news ++ more ≡ Begin me request ∷ (items_of_all xs ++ tail) → All step IsLegal s news → NoStop me.process news → Woven s news more
  weave_operation news s more xs given last out runs is e legal goes =
      weave_from news s _ more (Before (items_of_all xs ++ tail) out (record { xs = xs; given = given; last = last; runs = runs; answer_is = is; left_is = refl }) e) refl legal goes
