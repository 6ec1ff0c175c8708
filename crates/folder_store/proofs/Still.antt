-- An operation of calls that only look changes no name and no file, whatever others do between its items.
use Rattle.std.proofs.Common.{◌≡◌, Bool, true, false, List, [], ◌∷◌, ◌++◌, refl, sym, subst, ◌∙◌, inl}
use Rattle.std.proofs.lemmas.List.{append-nil}
use Rattle.std.specs.List.{AllByRecursion}
use Rattle.cache_types.specs.declared.answer.Answer.{Answer}
use Rattle.cache_types.specs.declared.answer.Answer.TheVariants.{NoMemory}
use Rattle.cache_types.specs.declared.request.Request.{Request}
use Rattle.cache_types.specs.declared.seat.Who.{Who}
use Rattle.file_log.specs.declared.call.Call.{Call}
use Rattle.file_log.specs.declared.call.Call.TheVariants as calls
use Rattle.file_log.specs.declared.item.LogItem.{LogItem}
use Rattle.file_log.specs.declared.item.LogItem.TheVariants.{Begin, End}
use Rattle.file_log.specs.declared.reply.Reply.{Reply}
use Rattle.file_log.specs.declared.reply.Reply.TheVariants as replies
use Rattle.file_log.specs.Along.{All, Keeps}
use Rattle.file_log.specs.Disk.{Disk}
use Rattle.file_log.specs.Effect.{applied, done_call}
use Rattle.file_log.specs.Exchange.{Exchange}
use Rattle.file_log.specs.Legal.{IsLegal, Legal}
use Rattle.file_log.specs.Log.{is_own, own, NoStop}
use Rattle.file_log.specs.Operation.{IsStill, LeavesAll}
use Rattle.file_log.specs.State.{State, after}
use Rattle.files_api.specs.declared.machine.Step.{Step}
use Rattle.files_api.specs.declared.machine.Step.TheVariants.{Ask, Done}
use Rattle.files_api.specs.Drive.{Runs, items_of_all, IsEndOf}
use Rattle.files_api.proofs.Weave.{Inductive, Outer, weave_operation}
use Rattle.folder_store.proofs.Calls.{IsLooking, item_for, makes_one}

-- ---- a rule on own items alone

-- a log in which a seat is not the first to break a rule that no other item breaks is as the rule says
pub all_as_own : {S : Type 0} (step : S → LogItem → S) (Rule : S → LogItem → Type 0) (me : Who) → ((s : S) (item : LogItem) → is_own me item ≡ false → Rule s item) → (s : S) (log : List LogItem) → Keeps step Rule me s log → All step Rule s log
all_as_own step Rule me spares s [] keeps = tt
all_as_own step Rule me spares s (item ∷ log) keeps =
    let rule = here (is_own me item) refl in
    (rule, all_as_own step Rule me spares (step s item) log (keeps.1 rule))
  where
    here : (b : Bool) → is_own me item ≡ b → Rule s item
    here true mine = keeps.0 mine
    here false other = spares s item other

-- ---- items that change nothing

abbrev ChangesNothing : LogItem → Type 0
ChangesNothing item = (s : State) → IsStill s.disk (applied s.disk item)

done_changes : (d : Disk) (who : Who) (call : Call) → IsLooking call → IsStill d (done_call d who call)
done_changes d who (calls.OpenOld slot name) look = record { names = λ name'. refl; files = λ file. refl }
done_changes d who (calls.Length slot) look = record { names = λ name. refl; files = λ file. refl }
done_changes d who (calls.ReadAt slot at n) look = record { names = λ name. refl; files = λ file. refl }
done_changes d who (calls.Close slot) look = record { names = λ name. refl; files = λ file. refl }
done_changes d who call look = absurd look

pub looking_still : (me : Who) (call : Call) (reply : Reply) → IsLooking call → (d : Disk) → IsStill d (applied d (item_for me call reply))
looking_still me call replies.Done look d = done_changes d me call look
looking_still me call reply look d = record { names = λ name. refl; files = λ file. refl }

looking_changes : (me : Who) (call : Call) (reply : Reply) → IsLooking call → ChangesNothing (item_for me call reply)
looking_changes me call reply look s = looking_still me call reply look s.disk

module _ {M : Type 0} (asks : M → Step) (asked : M → M) (fed : M → Reply → M → Type 0) (me : Who) (looks : (m : M) (call : Call) → asks m ≡ Ask call → IsLooking call) where
  abbrev Between : M → State → Type 0
  Between m s = Unit {0}

  -- the items that a call still makes
  abbrev During : M → Call → Reply → List LogItem → State → Type 0
  During m call reply made s = AllByRecursion ChangesNothing made

  inductive : Inductive asks asked fed me after IsLegal (LeavesAll me) Between During
  inductive = record {
    enters = λ m call reply made s inv e fits makes.
        subst (AllByRecursion ChangesNothing) (sym (makes_one me call reply made (looks m call e) makes)) (looking_changes me call reply (looks m call e), tt);
    steps = λ m call reply item made s during legal. (λ mine. during.0 s, during.1);
    others = λ m call reply made other s during o stop legal rule. during;
    between = λ m other s inv o stop legal rule. tt;
    leaves = λ m n call reply s during f. tt;
  }

  outer : (first : M) (request : Request) (answer : Answer) → Outer asks me after IsLegal (LeavesAll me) Between (λ s. Unit {0}) first request answer
  outer first request answer = record {
    begins = λ s out legal. (λ mine. record { names = λ name. refl; files = λ file. refl }, tt);
    ends = λ m given s inv e is legal. (λ mine. record { names = λ name. refl; files = λ file. refl }, tt);
    outside = λ other s out o stop legal rule. tt;
  }

  pub looking_stays : (first : M) (request : Request) (answer : Answer) (news : List LogItem) (s : State) (xs : List Exchange) (given : Answer) (last : M) → Runs asks asked fed me first xs given last → IsEndOf given answer
      → own me news ≡ Begin me request ∷ (items_of_all xs ++ End me answer ∷ []) → Legal s news → NoStop me.process news → All after (LeavesAll me) s news
  looking_stays first request answer news s xs given last runs is e legal goes =
      all_as_own after (LeavesAll me) me (λ s' item other mine. let clash : true ≡ false = sym mine ∙ other in absurd cc) s news
      (weave_operation asks asked fed me after IsLegal (LeavesAll me) Between During inductive (λ s'. Unit {0}) first request answer (outer first request answer) news s [] xs given last tt runs is (append-nil (own me news) ∙ e) legal goes).0

-- an operation without any call
no_calls : Unit {0} → Step
no_calls m = Done NoMemory

pub nothing_stays : (me : Who) (request : Request) (news : List LogItem) (s : State) → own me news ≡ Begin me request ∷ (End me NoMemory ∷ []) → Legal s news → NoStop me.process news → All after (LeavesAll me) s news
unfolding no_calls
nothing_stays me request news s e legal goes =
    looking_stays no_calls (λ m. m) (λ m reply n. Unit {0}) me (λ m call asked. let clash : Done NoMemory ≡ Ask call = asked in absurd cc) tt request NoMemory news s [] NoMemory tt (refl, refl) (inl refl) e legal goes
