-- What an own item of a put has to keep, and what is known once its call is answered; and a call that failed.
use Rattle.std.proofs.Common.{◌≡◌, inl, inr, ℕ, Bool, true, false, List, [], ◌∷◌, refl, sym, subst}
use Rattle.cache_types.specs.declared.answer.Answer.{Answer}
use Rattle.file_log.specs.declared.item.LogItem.{LogItem}
use Rattle.file_log.specs.declared.item.LogItem.TheVariants.{Failed}
use Rattle.file_log.specs.declared.reply.Reply.{Reply}
use Rattle.file_log.specs.declared.reply.Reply.TheVariants as replies
use Rattle.file_log.specs.Exchange.{Answers}
use Rattle.file_log.specs.Legal.{IsLegal}
use Rattle.file_log.proofs.All.{seat_self}
use Rattle.files_api.specs.declared.machine.Step.{Step}
use Rattle.files_api.specs.declared.machine.Step.TheVariants as steps
use Rattle.folder_store.specs.declared.put_phase.PutPhase.{PutPhase}
use Rattle.folder_store.specs.Phases.{fault}
use Rattle.folder_store.specs.PutPhases.{asks_put_in, after_put_asking, item_after, closing, NextPut}
use Rattle.folder_store.specs.declared.put_phase.Besides.{Besides}
use Rattle.folder_store.specs.declared.put_phase.Besides.TheVariants.{Nothing, Lock, LockAndTemp}
use Rattle.folder_store.proofs.PutKnown.{Job, Place, step, Base, Ready, Going, Excused, Answered, KnowsAt, rests_goes, excused_on}
use Rattle.folder_store.proofs.PutRules.{IsRight, Quiet, quiet}

-- ---- a step

abbrev pub AnswersIn : Step → Reply → Type 0
AnswersIn (steps.Ask call) reply = Answers true call reply
AnswersIn (steps.Done answer) reply = ⊥

-- an item that ends its call
pub split : (y x : LogItem) (left : List LogItem) → x ∷ left ≡ y ∷ [] → (P : LogItem → List LogItem → Type 0) → P y [] → P x left
split y x left e P p =
    let same : y ≡ x = cc in
    let none : [] ≡ left = cc in
    subst (λ (z : LogItem). P z left) same (subst (P y) none p)

module _ (j : Job) where
  -- what it asks in a phase
  abbrev pub asks_at : PutPhase → List ℕ → Step
  asks_at phase bytes = asks_put_in j.root j.key bytes phase

  -- what is known in whichever phase follows on the reply
  abbrev pub Follows : PutPhase → List ℕ → Reply → Place → Type 0
  Follows phase bytes reply p = (next : PutPhase) → NextPut j.driver (after_put_asking phase) reply next → KnowsAt j next (item_after phase bytes) p

  -- an own item is right, and then the next phase is known
  pub record Stepped (phase : PutPhase) (bytes : List ℕ) (reply : Reply) (p : Place) (x : LogItem) (left : List LogItem) : Type 0 where
    pub right : IsRight j p x
    pub base : Base j (step j.me p x)
    pub last : left ≡ []
    pub follows : Follows phase bytes reply (step j.me p x)

  abbrev pub Steps : PutPhase → List ℕ → Reply → Place → LogItem → List LogItem → Type 0
  Steps phase bytes reply p x left = IsLegal p.state x → Stepped phase bytes reply p x left

  -- the next phase is this one
  pub into : (q : PutPhase) (bytes : List ℕ) (p : Place) → KnowsAt j q bytes p → (next : PutPhase) → next ≡ q → KnowsAt j next bytes p
  into q bytes p k next e = subst (λ (phase : PutPhase). KnowsAt j phase bytes p) (sym e) k

  pub closing_knows : (answer : Answer) (entry : Bool) (besides : Besides) (bytes : List ℕ) (p : Place) → Answered j answer p → KnowsAt j (closing answer entry besides) bytes p
  closing_knows answer true besides bytes p k = k
  closing_knows answer false Nothing bytes p k = k
  closing_knows answer false Lock bytes p k = k
  closing_knows answer false LockAndTemp bytes p k = k

  pub fault_answered : (reply : Reply) (p : Place) → Excused j p → Answered j (fault reply) p
  fault_answered replies.NoMemory p k = k
  fault_answered reply p k = k

  pub ready_excused : (p : Place) → Ready j p → Excused j p
  ready_excused p r = record { entry = r.entry; told = inl r.quiet }

  pub going_excused : (p : Place) → Going j p → Excused j p
  going_excused p g = record { entry = g.entry; told = inr g.replaced }

  -- ---- a call that failed

  pub failed : (memory : Bool) (p : Place) → Base j p → Quiet j p (Failed j.me memory)
  failed memory p b = quiet j p (Failed j.me memory) b (seat_self j.me) refl refl refl tt tt (record { names = λ name. refl; files = λ f. refl })

  -- it leads to the end, with the entry as it was
  pub fails : (memory : Bool) (phase : PutPhase) (bytes : List ℕ) (reply : Reply) (p : Place) → Base j p → Excused j p
      → (((p' : Place) → Answered j (fault reply) p' → Follows phase bytes reply p') → Steps phase bytes reply p (Failed j.me memory) [])
  fails memory phase bytes reply p b k follows = λ legal.
      let f = failed memory p b in
      let p' : Place = step j.me p (Failed j.me memory) in
      record { right = f.right; base = f.base; last = refl; follows = follows p' (fault_answered reply p' (excused_on j p p' (rests_goes j p p' f.rests) k)) }
