-- How a run of a whole machine ends: its part came to its end, or a call failed or was refused memory; then what was open was closed.
use Rattle.std.proofs.Common.{◌≡◌, ◌⊎◌, inl, inr, ℕ, true, List, [], ◌∷◌, ◌++◌, Option, Some, None, refl, sym, ap, subst, ◌∙◌}
use Rattle.std.specs.List.{AllByRecursion}
use Rattle.cache_types.specs.declared.answer.Answer.{Answer}
use Rattle.cache_types.specs.declared.answer.Answer.TheVariants as answers
use Rattle.cache_types.specs.declared.seat.Who.{Who}
use Rattle.file_log.specs.declared.call.Call.{Call}
use Rattle.file_log.specs.declared.call.Call.TheVariants as calls
use Rattle.file_log.specs.declared.item.LogItem.{LogItem}
use Rattle.file_log.specs.declared.item.LogItem.TheVariants as items
use Rattle.file_log.specs.declared.reply.Reply.{Reply}
use Rattle.file_log.specs.declared.reply.Reply.TheVariants as replies
use Rattle.file_log.specs.Exchange.{Answers, Makes, Exchange}
use Rattle.files_api.specs.declared.machine.Step.TheVariants.{Ask, Done}
use Rattle.files_api.specs.Drive.{Runs, SomeFailed}
use Rattle.machine_parts.specs.declared.judged.Judged.{Judged}
use Rattle.machine_parts.specs.declared.open.Open.{Open}
use Rattle.machine_parts.specs.declared.part.After.{After}
use Rattle.machine_parts.specs.declared.part.After.TheVariants.{More, Over}
use Rattle.machine_parts.specs.declared.whole.Whole.{Whole}
use Rattle.machine_parts.specs.declared.whole.Whole.TheVariants.{Going, Closing, Spent}
use Rattle.machine_parts.specs.Ending.{close_at, closing_at, whole_asks, whole_asked, whole_of, GoingFed, WholeFed}
use Rattle.machine_parts.specs.Judging.{judged_asks, judged_asked, JudgedTo, JudgedFed}
use Rattle.machine_parts.specs.Parts.{IsGood}
use Rattle.machine_parts.specs.Slots.{lowest}

module _ {P T : Type 0} (asks : P → Call) (asked : P → P) (fed : P → Reply → After P T → Type 0) (me : Who) where
  -- a call of the part, its reply and its items
  abbrev pub IsCall : P → Exchange → Type 0
  IsCall p x = (x.call ≡ asks p) × Answers true x.call x.reply × Makes me true x.call x.reply x.items

  -- these are all its calls, with good replies, and this is what it gives
  abbrev pub Comes : P → List Exchange → T → Type 0
  Comes p [] given = ⊥
  Comes p (x ∷ xs) given = IsCall p x × IsGood x.reply × (((o : Open) × fed (asked p) x.reply (Over o given) × (xs ≡ [])) ⊎ ((q : P) × fed (asked p) x.reply (More q) × Comes q xs given))

  -- these are its calls up to one that had this reply, and only good ones before it
  abbrev pub Breaks : P → List Exchange → Reply → Type 0
  Breaks p [] reply = ⊥
  Breaks p (x ∷ xs) reply = IsCall p x × (((x.reply ≡ reply) × (xs ≡ [])) ⊎ (IsGood x.reply × ((q : P) × fed (asked p) x.reply (More q) × Breaks q xs reply)))

  good_fine : (reply : Reply) → IsGood reply → reply ≡ replies.Failed → ⊥
  good_fine reply good e = subst IsGood e good

  comes_fine : (p : P) (xs : List Exchange) (given : T) → Comes p xs given → SomeFailed xs → ⊥
  comes_fine p [] given c some = absurd c
  comes_fine p (x ∷ xs) given c (inl e) = good_fine x.reply c.1 e
  comes_fine p (x ∷ xs) given c (inr some) = elim c.2 [ inl o ↦ subst SomeFailed o.2 some | inr q ↦ comes_fine q.0 xs given q.2 some ]

  breaks_failed : (p : P) (xs : List Exchange) → Breaks p xs replies.Failed → SomeFailed xs
  breaks_failed p [] b = absurd b
  breaks_failed p (x ∷ xs) b = elim b.1 [ inl e ↦ inl e.0 | inr q ↦ inr (breaks_failed q.1.0 xs q.1.2) ]

  lacked_fine : (reply : Reply) → reply ≡ replies.NoMemory → reply ≡ replies.Failed → ⊥
  lacked_fine reply e f = let clash : replies.NoMemory ≡ replies.Failed = sym e ∙ f in absurd cc

  lacks_fine : (p : P) (xs : List Exchange) → Breaks p xs replies.NoMemory → SomeFailed xs → ⊥
  lacks_fine p [] b some = absurd b
  lacks_fine p (x ∷ xs) b (inl f) = elim b.1 [ inl e ↦ lacked_fine x.reply e.0 f | inr q ↦ good_fine x.reply q.0 f ]
  lacks_fine p (x ∷ xs) b (inr more) = elim b.1 [ inl e ↦ subst SomeFailed e.1 more | inr q ↦ lacks_fine q.1.0 xs q.1.2 more ]

-- ---- the whole machine

module _ {P : Type 0} (asks : P → Call) (asked : P → P) (fed : P → Reply → After P Answer → Type 0) (slots : P → Open) (me : Who) where
  -- a slot is closed
  abbrev pub IsClosing : Exchange → Type 0
  IsClosing x = (slot : ℕ) × (x.call ≡ calls.Close slot) × (x.reply ≡ replies.Done) × (x.items ≡ items.Did me (calls.Close slot) replies.Done ∷ [])

  pub data HasEnded (p : P) (answer : Answer) (xs : List Exchange) : Type 0 where
    Came : (ys zs : List Exchange) → xs ≡ ys ++ zs → Comes asks asked fed me p ys answer → AllByRecursion IsClosing zs → HasEnded p answer xs
    Failed : (ys zs : List Exchange) → xs ≡ ys ++ zs → Breaks asks asked fed me p ys replies.Failed → AllByRecursion IsClosing zs → answer ≡ answers.FilesFault → HasEnded p answer xs
    Lacked : (ys zs : List Exchange) → xs ≡ ys ++ zs → Breaks asks asked fed me p ys replies.NoMemory → AllByRecursion IsClosing zs → answer ≡ answers.NoMemory → HasEnded p answer xs

  abbrev EndsIn : Whole P → Answer → List Exchange → Type 0
  EndsIn (Going p) answer xs = HasEnded p answer xs
  EndsIn (Closing o given) answer xs = (answer ≡ given) × AllByRecursion IsClosing xs
  EndsIn Spent answer xs = Unit {0}

  same_call : (a b : Call) → Ask a ≡ Ask b → a ≡ b
  same_call a b e = cc

  no_ask : {Q : Type 0} (a : Answer) (c : Call) → Done a ≡ Ask c → Q
  no_ask a c e = absurd cc

  no_done : {Q : Type 0} (c : Call) (a : Answer) → Ask c ≡ Done a → Q
  no_done c a e = absurd cc

  same_answer : (a b : Answer) → Done a ≡ Done b → b ≡ a
  same_answer a b e = cc

  last_closing : (at : Option ℕ) (given answer : Answer) → close_at at given ≡ Done answer → answer ≡ given
  last_closing (Some slot) given answer e = no_done (calls.Close slot) answer e
  last_closing None given answer e = same_answer given answer e

  last_in : (m : Whole P) (answer : Answer) → whole_asks asks m ≡ Done answer → EndsIn m answer []
  last_in (Going p) answer e = no_done (asks p) answer e
  last_in (Closing o given) answer e = (last_closing (lowest o) given answer e, tt)
  last_in Spent answer e = tt

  one_more : (p q : P) (x : Exchange) (xs : List Exchange) (answer : Answer) → IsCall asks asked fed me p x → IsGood x.reply → fed (asked p) x.reply (More q) → HasEnded q answer xs → HasEnded p answer (x ∷ xs)
  one_more p q x xs answer is good f (Came ys zs e c z) = Came (x ∷ ys) zs (ap (λ (l : List Exchange). x ∷ l) e) (is, good, inr (q, f, c)) z
  one_more p q x xs answer is good f (Failed ys zs e b z a) = Failed (x ∷ ys) zs (ap (λ (l : List Exchange). x ∷ l) e) (is, inr (good, (q, f, b))) z a
  one_more p q x xs answer is good f (Lacked ys zs e b z a) = Lacked (x ∷ ys) zs (ap (λ (l : List Exchange). x ∷ l) e) (is, inr (good, (q, f, b))) z a

  good_step : (p : P) (x : Exchange) (xs : List Exchange) (answer : Answer) (reply : Reply) (r : After P Answer) → x.reply ≡ reply → IsCall asks asked fed me p x → IsGood reply → fed (asked p) reply r → EndsIn (whole_of r) answer xs → HasEnded p answer (x ∷ xs)
  good_step p x xs answer reply (More q) e is good f t = one_more p q x xs answer is (subst IsGood (sym e) good) (subst (λ (k : Reply). fed (asked p) k (More q)) (sym e) f) t
  good_step p x xs answer reply (Over o given) e is good f t =
      let f' = subst (λ (k : Reply). fed (asked p) k (Over o given)) (sym e) f in
      Came (x ∷ []) xs refl (is, subst IsGood (sym e) good, inl (o, subst (λ (a : Answer). fed (asked p) x.reply (Over o a)) (sym t.0) f', refl)) t.1

  going_step : (p : P) (x : Exchange) (xs : List Exchange) (answer : Answer) (n : Whole P) (reply : Reply) → x.reply ≡ reply → IsCall asks asked fed me p x → GoingFed fed slots (asked p) reply n → EndsIn n answer xs → HasEnded p answer (x ∷ xs)
  going_step p x xs answer n replies.Failed e is f t = let t' = subst (λ (m : Whole P). EndsIn m answer xs) f t in Failed (x ∷ []) xs refl (is, inl (e, refl)) t'.1 t'.0
  going_step p x xs answer n replies.NoMemory e is f t = let t' = subst (λ (m : Whole P). EndsIn m answer xs) f t in Lacked (x ∷ []) xs refl (is, inl (e, refl)) t'.1 t'.0
  going_step p x xs answer n reply e is f t = good_step p x xs answer reply f.0 e is tt f.1 (subst (λ (m : Whole P). EndsIn m answer xs) f.2 t)

  close_reply : (slot : ℕ) (reply : Reply) (made : List LogItem) → Answers true (calls.Close slot) reply → Makes me true (calls.Close slot) reply made → (reply ≡ replies.Done) × (made ≡ items.Did me (calls.Close slot) replies.Done ∷ [])
  close_reply slot replies.Done made fits makes = (refl, makes)
  close_reply slot reply made fits makes = absurd fits

  closing_step : (at : Option ℕ) (o : Open) (given answer : Answer) (x : Exchange) (xs : List Exchange) (n : Whole P) → close_at at given ≡ Ask x.call → Answers true x.call x.reply → Makes me true x.call x.reply x.items → WholeFed fed slots (closing_at at o given) x.reply n → EndsIn n answer xs
      → (answer ≡ given) × AllByRecursion IsClosing (x ∷ xs)
  closing_step (Some slot) o given answer x xs n e fits makes f t =
      let t' = subst (λ (m : Whole P). EndsIn m answer xs) f t in
      let same : x.call ≡ calls.Close slot = sym (same_call (calls.Close slot) x.call e) in
      let done = close_reply slot x.reply x.items (subst (λ (c : Call). Answers true c x.reply) same fits) (subst (λ (c : Call). Makes me true c x.reply x.items) same makes) in
      (t'.0, ((slot, same, done.0, done.1), t'.1))
  closing_step None o given answer x xs n e fits makes f t = no_ask given x.call e

  step_in : (m : Whole P) (x : Exchange) (xs : List Exchange) (answer : Answer) (n : Whole P) → whole_asks asks m ≡ Ask x.call → Answers true x.call x.reply → Makes me true x.call x.reply x.items → WholeFed fed slots (whole_asked asked m) x.reply n → EndsIn n answer xs → EndsIn m answer (x ∷ xs)
  step_in (Going p) x xs answer n e fits makes f t = going_step p x xs answer n x.reply refl (sym (same_call (asks p) x.call e), fits, makes) f t
  step_in (Closing o given) x xs answer n e fits makes f t = closing_step (lowest o) o given answer x xs n e fits makes f t
  step_in Spent x xs answer n e fits makes f t = tt

  ends_from : (m last : Whole P) (xs : List Exchange) (answer : Answer) → Runs (whole_asks asks) (whole_asked asked) (WholeFed fed slots) me m xs answer last → EndsIn m answer xs
  ends_from m last [] answer run = last_in m answer run.0
  ends_from m last (x ∷ xs) answer run = step_in m x xs answer run.3.0 run.0 run.1 run.2 run.3.1 (ends_from run.3.0 last xs answer run.3.2)

  pub whole_ends : (p : P) (m last : Whole P) (xs : List Exchange) (answer : Answer) → m ≡ Going p → Runs (whole_asks asks) (whole_asked asked) (WholeFed fed slots) me m xs answer last → HasEnded p answer xs
  whole_ends p m last xs answer new run = subst (λ (k : Whole P). EndsIn k answer xs) new (ends_from m last xs answer run)

  -- ---- failures

  closings_fine : (xs : List Exchange) → AllByRecursion IsClosing xs → SomeFailed xs → ⊥
  closings_fine [] z some = absurd some
  closings_fine (x ∷ xs) z (inl e) = let clash : replies.Done ≡ replies.Failed = sym z.0.2 ∙ e in absurd cc
  closings_fine (x ∷ xs) z (inr more) = closings_fine xs z.1 more

  some_in : (xs ys : List Exchange) → SomeFailed (xs ++ ys) → SomeFailed xs ⊎ SomeFailed ys
  some_in [] ys some = inr some
  some_in (x ∷ xs) ys (inl e) = inl (inl e)
  some_in (x ∷ xs) ys (inr more) = elim (some_in xs ys more) [ inl l ↦ inl (inr l) | inr r ↦ inr r ]

  some_front : (xs ys : List Exchange) → SomeFailed xs → SomeFailed (xs ++ ys)
  some_front [] ys some = absurd some
  some_front (x ∷ xs) ys (inl e) = inl e
  some_front (x ∷ xs) ys (inr more) = inr (some_front xs ys more)

  no_fault : (answer : Answer) → answer ≡ answers.NoMemory → answer ≡ answers.FilesFault → ⊥
  no_fault answer e f = let clash : answers.NoMemory ≡ answers.FilesFault = sym e ∙ f in absurd cc

  -- the answer is a fault exactly where a call failed
  pub record AnswersFaults (answer : Answer) (xs : List Exchange) : Type 0 where
    pub told : answer ≡ answers.FilesFault → SomeFailed xs
    pub only : SomeFailed xs → answer ≡ answers.FilesFault

  -- of a part that never gives a fault itself
  pub whole_faults : (p : P) (answer : Answer) (xs : List Exchange) → ((ys : List Exchange) → Comes asks asked fed me p ys answers.FilesFault → ⊥) → HasEnded p answer xs → AnswersFaults answer xs
  whole_faults p answer xs never (Came ys zs e c z) = record {
    told = λ fault. absurd (never ys (subst (λ (a : Answer). Comes asks asked fed me p ys a) fault c));
    only = λ some. elim (some_in ys zs (subst SomeFailed e some)) [ inl l ↦ absurd (comes_fine asks asked fed me p ys answer c l) | inr r ↦ absurd (closings_fine zs z r) ];
  }
  whole_faults p answer xs never (Failed ys zs e b z a) = record { told = λ fault. subst SomeFailed (sym e) (some_front ys zs (breaks_failed asks asked fed me p ys b)); only = λ some. a }
  whole_faults p answer xs never (Lacked ys zs e b z a) = record {
    told = λ fault. absurd (no_fault answer a fault);
    only = λ some. elim (some_in ys zs (subst SomeFailed e some)) [ inl l ↦ absurd (lacks_fine asks asked fed me p ys b l) | inr r ↦ absurd (closings_fine zs z r) ];
  }

-- ---- a part whose result is judged

module _ {P J X Y : Type 0} (asks : P → Call) (asked : P → P) (fed : P → Reply → After P X → Type 0) (judges : J → X → Y → Type 0) (me : Who) where
  -- what the part gave, and what its judge made of it
  pub record Judging (m : Judged P J) (xs : List Exchange) (verdict : Y) : Type 0 where
    pub given : X
    pub comes : Comes asks asked fed me m.part xs given
    pub judged : judges m.judge given verdict

  abbrev JudgedComes : Judged P J → List Exchange → Y → Type 0
  JudgedComes m xs verdict = Comes (judged_asks asks) (judged_asked asked) (JudgedFed fed judges) me m xs verdict

  over_is : (m : Judged P J) (x : Exchange) (xs : List Exchange) (verdict : Y) (o : Open) (s : After P X) → IsCall asks asked fed me m.part x → IsGood x.reply → xs ≡ [] → fed (asked m.part) x.reply s → JudgedTo judges m.judge s (Over o verdict) → Judging m (x ∷ xs) verdict
  over_is m x xs verdict o (More p) is good none f e = absurd cc
  over_is m x xs verdict o (Over o' given) is good none f e =
      let same : e.0 ≡ verdict = let over : Over o verdict ≡ Over o' e.0 = e.2 in cc in
      record { given = given; comes = (is, good, inl (o', f, none)); judged = subst (judges m.judge given) same e.1 }

  more_is : (m q : Judged P J) (x : Exchange) (xs : List Exchange) (verdict : Y) (s : After P X) → IsCall asks asked fed me m.part x → IsGood x.reply → fed (asked m.part) x.reply s → JudgedTo judges m.judge s (More q) → Judging q xs verdict → Judging m (x ∷ xs) verdict
  more_is m q x xs verdict (More p) is good f e j =
      let same : q ≡ record { part = p; judge = m.judge } = let more : More q ≡ More (record { part = p; judge = m.judge }) = e in cc in
      let j' = subst (λ (k : Judged P J). Judging k xs verdict) same j in
      record { given = j'.given; comes = (is, good, inr (p, f, j'.comes)); judged = j'.judged }
  more_is m q x xs verdict (Over o given) is good f e j = let clash : More q ≡ Over o e.0 = e.2 in absurd cc

  pub judged_comes : (m : Judged P J) (xs : List Exchange) (verdict : Y) → JudgedComes m xs verdict → Judging m xs verdict
  judged_comes m [] verdict c = absurd c
  judged_comes m (x ∷ xs) verdict c = elim c.2 [
    | inl o ↦ over_is m x xs verdict o.0 o.1.0 c.0 c.1 o.2 o.1.1 o.1.2
    | inr q ↦ more_is m q.0 x xs verdict q.1.0 c.0 c.1 q.1.1 q.1.2 (judged_comes q.0 xs verdict q.2)
  ]
