-- What is known of a seat's operation, whichever its machine is: between its calls, and within one.
use Rattle.std.proofs.Common.{◌≡◌, inl, inr, ℕ, true, false, nat_eq, List, [], ◌∷◌, length, Option, Some, None, sym, ◌∙◌, subst}
use Rattle.cache_types.specs.Driver.{DriverKeys, IsDriver}
use Rattle.cache_types.specs.declared.answer.Answer.{Answer}
use Rattle.cache_types.specs.declared.answer.Answer.TheVariants as answers
use Rattle.cache_types.specs.declared.key.Key.{Key}
use Rattle.cache_types.specs.declared.request.Request.{Request}
use Rattle.cache_types.specs.declared.request.RoPlan.{RoPlan}
use Rattle.cache_types.specs.declared.seat.Who.{Who}
use Rattle.file_log.specs.declared.call.Call.{Call}
use Rattle.file_log.specs.declared.item.LogItem.{LogItem}
use Rattle.file_log.specs.declared.item.LogItem.TheVariants.{End}
use Rattle.file_log.specs.declared.reply.Reply.{Reply}
use Rattle.file_log.specs.Exchange.{Answers, Makes}
use Rattle.file_log.specs.Log.{History, is_own, is_stop}
use Rattle.files_api.specs.declared.machine.Step.TheVariants.{Ask, Done}
use Rattle.files_api.specs.Drive.{IsEndOf}
use Rattle.files_api.proofs.Weave.{Inductive}
use Rattle.item_frame.specs.Item.{Reads}
use Rattle.seat_rules.specs.Changes.{with_item}
use Rattle.seat_rules.specs.Operations.{IsInside}
use Rattle.layout_rules.specs.Rules.{AnswersAreEarned, KeepsRules}
use Rattle.folder_changes.proofs.Earning.{earns}
use Rattle.folder_store.specs.declared.put.FolderPut.{FolderPut}
use Rattle.folder_store.proofs.AmongKnown.{Task}
use Rattle.folder_store.proofs.AmongKnown as tasks
use Rattle.folder_store.proofs.Calls.{done_is, not_ask}
use Rattle.folder_store.proofs.GetAlong as gets
use Rattle.folder_store.proofs.GetKnown as lookups
use Rattle.folder_store.proofs.Keeping.{CanFollow, IsIn, in_then, within_other, end_rules}
use Rattle.folder_store.proofs.PutAlong as puts
use Rattle.folder_store.proofs.PutEnds.{filled}
use Rattle.folder_store.specs.Gets.{FolderGet, get_asks, get_asked, GetFed, IsNew}
use Rattle.folder_store.specs.PutPhases.{IsNewPut, asks_put, asked_put, FedPut}
use Rattle.op_machine.specs.declared.given.Given.{Given}
use Rattle.op_machine.specs.declared.op.Op.{Op}
use Rattle.op_machine.specs.declared.op.Op.TheVariants.{Get, Put, Refuse}
use Rattle.op_machine.specs.Given.{given_step}
use Rattle.op_machine.specs.Machine.{asks, asked, Fed}

-- ---- an operation without a call

-- each operation of the request has earned what is answered
abbrev pub IsEarnedByAny : Who → Request → Option Answer → Type 0
IsEarnedByAny me request None = Unit {0}
IsEarnedByAny me request (Some answer) = (h : History) → IsInside h.log me request → AnswersAreEarned h (End me answer)

-- an answer that is given asks for no call
gives_only : {P : Type 0} (answer : Option Answer) (call : Call) → given_step answer ≡ Ask call → P
gives_only None call e = not_ask call answers.NoMemory e
gives_only (Some answer) call e = not_ask call answer e

module _ (me : Who) (request : Request) where
  -- the request is for this lookup
  pub record ForGet : Type 0 where
    pub root : ℕ
    pub driver : DriverKeys
    pub key : Key
    pub ro : RoPlan
    pub fits : IsDriver driver
    pub request_is : lookups.asked_for me root driver key ro ≡ request

  -- the request is for this put
  pub record ForPut : Type 0 where
    pub task : Task
    pub mine : task.me ≡ me
    pub reads : Reads task.driver task.item task.blob
    pub request_is : tasks.asked_for task ≡ request

  -- ---- what is known

  abbrev GetBetween : FolderGet → History → Type 0
  GetBetween m h = (f : ForGet) × gets.Between me f.root f.driver f.key f.ro f.fits m h

  abbrev GetDuring : FolderGet → Call → Reply → List LogItem → History → Type 0
  GetDuring m call reply made h = (f : ForGet) × gets.During me f.root f.driver f.key f.ro f.fits m call reply made h

  abbrev some : (f : ForPut) → nat_eq (length f.task.item) 0 ≡ false
  some f = filled f.task.driver f.task.item f.task.blob f.reads

  abbrev PutBetween : FolderPut → History → Type 0
  PutBetween m h = (f : ForPut) × puts.Between f.task (some f) f.reads m h

  abbrev PutDuring : FolderPut → Call → Reply → List LogItem → History → Type 0
  PutDuring m call reply made h = (f : ForPut) × puts.During f.task (some f) f.reads m call reply made h

  -- between two calls
  abbrev pub Between : Op → History → Type 0
  Between (Get m) h = GetBetween m h
  Between (Put m) h = PutBetween m h
  Between (Refuse m) h = IsIn me request h × IsEarnedByAny me request m.answer

  -- within a call, with the items that it still makes
  abbrev pub During : Op → Call → Reply → List LogItem → History → Type 0
  During (Get m) call reply made h = GetDuring m call reply made h
  During (Put m) call reply made h = PutDuring m call reply made h
  During (Refuse m) call reply made h = ⊥

  -- ---- along the log

  get_laws : (f : ForGet) → Inductive get_asks get_asked GetFed me with_item CanFollow KeepsRules (gets.Between me f.root f.driver f.key f.ro f.fits) (gets.During me f.root f.driver f.key f.ro f.fits)
  get_laws f = gets.inductive me f.root f.driver f.key f.ro f.fits

  put_laws : (f : ForPut) → Inductive asks_put asked_put FedPut f.task.me with_item CanFollow KeepsRules (puts.Between f.task (some f) f.reads) (puts.During f.task (some f) f.reads)
  put_laws f = puts.inductive f.task (some f) f.reads

  enters : (m : Op) (call : Call) (reply : Reply) (made : List LogItem) (h : History) → Between m h → asks m ≡ Ask call → Answers true call reply → Makes me true call reply made → During m call reply made h
  enters (Get m) call reply made h b e a makes = (b.0, (get_laws b.0).enters m call reply made h b.1 e a makes)
  enters (Put m) call reply made h b e a makes = (b.0, (put_laws b.0).enters m call reply made h b.1 e a (subst (λ (w : Who). Makes w true call reply made) (sym b.0.mine) makes))
  enters (Refuse m) call reply made h b e a makes = gives_only m.answer call e

  item_then : (m : Op) (call : Call) (reply : Reply) (item : LogItem) (made : List LogItem) (h : History) → During m call reply (item ∷ made) h → CanFollow h item → KeepsRules h item × During m call reply made (with_item h item)
  item_then (Get m) call reply item made h d legal = let g = (get_laws d.0).steps m call reply item made h d.1 legal in (g.0, (d.0, g.1))
  item_then (Put m) call reply item made h d legal = let g = (put_laws d.0).steps m call reply item made h d.1 legal in (g.0, (d.0, g.1))
  item_then (Refuse m) call reply item made h d legal = absurd d

  during_other : (m : Op) (call : Call) (reply : Reply) (made : List LogItem) (other : LogItem) (h : History) → During m call reply made h → is_own me other ≡ false → is_stop me.process other ≡ false → CanFollow h other → KeepsRules h other → During m call reply made (with_item h other)
  during_other (Get m) call reply made other h d o goes legal rules = (d.0, (get_laws d.0).others m call reply made other h d.1 o goes legal rules)
  during_other (Put m) call reply made other h d o goes legal rules =
      let same = sym d.0.mine in
      (d.0, (put_laws d.0).others m call reply made other h d.1 (subst (λ (w : Who). is_own w other ≡ false) same o) (subst (λ (w : Who). is_stop w.process other ≡ false) same goes) legal rules)
  during_other (Refuse m) call reply made other h d o goes legal rules = absurd d

  between_other : (m : Op) (other : LogItem) (h : History) → Between m h → is_own me other ≡ false → is_stop me.process other ≡ false → CanFollow h other → KeepsRules h other → Between m (with_item h other)
  between_other (Get m) other h b o goes legal rules = (b.0, (get_laws b.0).between m other h b.1 o goes legal rules)
  between_other (Put m) other h b o goes legal rules =
      let same = sym b.0.mine in
      (b.0, (put_laws b.0).between m other h b.1 (subst (λ (w : Who). is_own w other ≡ false) same o) (subst (λ (w : Who). is_stop w.process other ≡ false) same goes) legal rules)
  between_other (Refuse m) other h b o goes legal rules = (in_then me request h other b.0 (within_other me other o) legal rules, b.1)

  leaves : (m n : Op) (call : Call) (reply : Reply) (h : History) → During m call reply [] h → Fed (asked m) reply n → Between n h
  leaves (Get m) (Get n) call reply h d fed = (d.0, (get_laws d.0).leaves m n call reply h d.1 fed)
  leaves (Put m) (Put n) call reply h d fed = (d.0, (put_laws d.0).leaves m n call reply h d.1 fed)
  leaves (Refuse m) n call reply h d fed = absurd d
  leaves m n call reply h d fed = absurd fed

  -- What is known of an operation is kept by its own items, which keep the rules, and by those of others that keep them.
  pub inductive : Inductive asks asked Fed me with_item CanFollow KeepsRules Between During
  inductive = record { enters = enters; steps = item_then; others = during_other; between = between_other; leaves = leaves }

  -- ---- its start

  -- an operation that gives an answer which each operation of the request has earned
  pub given_starts : (m : Given) (h : History) → IsIn me request h → IsEarnedByAny me request m.answer → Between (Refuse m) h
  given_starts m h i earned = (i, earned)

  pub get_starts : (f : ForGet) (m : FolderGet) (h : History) → IsNew f.root f.driver f.key m → IsIn me request h → Between (Get m) h
  get_starts f m h new i = (f, gets.starts me f.root f.driver f.key f.ro f.fits m h new (subst (λ (r : Request). IsIn me r h) (sym f.request_is) i))

  pub put_starts : (f : ForPut) (m : FolderPut) (h : History) → IsNewPut f.task.root f.task.driver f.task.key f.task.item m → IsIn me request h → Between (Put m) h
  put_starts f m h new i =
      let at_me : IsIn f.task.me request h = subst (λ (w : Who). IsIn w request h) (sym f.mine) i in
      (f, puts.starts_new f.task (some f) f.reads m h new (subst (λ (r : Request). IsIn f.task.me r h) (sym f.request_is) at_me))

  -- ---- what it is in

  -- all is in order, and the seat is in the operation of the request
  pub is_in : (m : Op) (h : History) → Between m h → IsIn me request h
  is_in (Get m) h b = subst (λ (r : Request). IsIn me r h) b.0.request_is b.1.0
  is_in (Put m) h b = subst (λ (r : Request). IsIn me r h) b.0.request_is (subst (λ (w : Who). IsIn w (tasks.asked_for b.0.task) h) b.0.mine b.1.1)
  is_in (Refuse m) h b = b.0

  pub is_in_call : (m : Op) (call : Call) (reply : Reply) (made : List LogItem) (h : History) → During m call reply made h → IsIn me request h
  is_in_call (Get m) call reply made h d = subst (λ (r : Request). IsIn me r h) d.0.request_is d.1.0
  is_in_call (Put m) call reply made h d = subst (λ (r : Request). IsIn me r h) d.0.request_is (subst (λ (w : Who). IsIn w (tasks.asked_for d.0.task) h) d.0.mine d.1.1)
  is_in_call (Refuse m) call reply made h d = absurd d

  -- ---- its End

  given_ends : (a : Option Answer) (given answer : Answer) (h : History) → IsIn me request h → IsEarnedByAny me request a → given_step a ≡ Done given → IsEndOf given answer → AnswersAreEarned h (End me answer)
  given_ends None given answer h i earned e is = no_memory h i (answer_lacks given answer (done_is answers.NoMemory given e) is)
    where
      answer_lacks : (given answer : Answer) → answers.NoMemory ≡ given → IsEndOf given answer → answer ≡ answers.NoMemory
      answer_lacks given answer e (inl same) = same ∙ sym e
      answer_lacks given answer e (inr lack) = lack.0

      no_memory : (h : History) → IsIn me request h → answer ≡ answers.NoMemory → AnswersAreEarned h (End me answer)
      no_memory h i e = subst (λ (a : Answer). AnswersAreEarned h (End me a)) (sym e) ((earns h me).no_memory request i.inside)
  given_ends (Some a) given answer h i earned e (inl same) = subst (λ (b : Answer). AnswersAreEarned h (End me b)) (done_is a given e ∙ sym same) (earned h i.inside)
  given_ends (Some a) given answer h i earned e (inr lack) = subst (λ (b : Answer). AnswersAreEarned h (End me b)) (sym lack.0) ((earns h me).no_memory request i.inside)

  -- its End keeps the rules
  pub ends : (m : Op) (given answer : Answer) (h : History) → Between m h → asks m ≡ Done given → IsEndOf given answer → KeepsRules h (End me answer)
  ends (Get m) given answer h b e is = gets.ends me b.0.root b.0.driver b.0.key b.0.ro b.0.fits m given answer h b.1 e is
  ends (Put m) given answer h b e is = subst (λ (w : Who). KeepsRules h (End w answer)) b.0.mine (puts.ends b.0.task (some b.0) b.0.reads m given answer h b.1 e is)
  ends (Refuse m) given answer h b e is = end_rules me h answer b.0.order (given_ends m.answer given answer h b.0 b.1 e is)
