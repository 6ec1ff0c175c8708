-- The tests of answers say whether they are earned.
use Rattle.std.proofs.Common.{◌≡◌, inl, inr, ℕ, Bool, true, false, ◌||◌, List, [], ◌∷◌, ◌++◌, is_some, is_none, Option, Some, None, refl, sym, ap, ◌∙◌, subst, append_assoc}
use Rattle.std.specs.Bool.{Decides}
use Rattle.std.specs.List.{list_any}
use Rattle.std.proofs.lemmas.Bool.{false≢true}
use Rattle.std.proofs.lemmas.Bool.Decides.{Decides-at, Decides-like, Decides-and}
use Rattle.cache_types.specs.declared.answer.Answer.{Answer}
use Rattle.cache_types.specs.declared.answer.Answer.TheVariants as answers
use Rattle.cache_types.specs.declared.request.Request.{Request}
use Rattle.cache_types.specs.declared.request.Request.TheVariants as requests
use Rattle.cache_types.specs.declared.seat.Who.{Who}
use Rattle.file_log.specs.Disk.{Disk}
use Rattle.file_log.specs.Legal.{Legal}
use Rattle.file_log.specs.Log.{own, is_own, Quiet}
use Rattle.file_log.specs.Operation.{is_fault}
use Rattle.file_log.specs.State.{State, first, disk_of}
use Rattle.file_log.specs.declared.item.LogItem.{LogItem}
use Rattle.file_log.specs.declared.item.LogItem.TheVariants as items
use Rattle.file_log.proofs.All.{seat_self}
use Rattle.seat_rules.specs.Answers.{root_of, may_evict}
use Rattle.layout_rules.proofs.Earning.{IsEarnedAlong, ends_by, earned_at}
use Rattle.seat_rules.specs.Address.{Address, address}
use Rattle.layout_rules.specs.Parts.{Gives, IsHeld}
use Rattle.seat_rules.specs.Operations.{IsInside, AfterOne, WasHeldOff}
use Rattle.layout_rules.specs.Rules.{EndsWell, AnswersAreEarned}
use Rattle.log_summary.specs.Summary.{Operation, Summary, given, given_for}
use Rattle.rule_checks.specs.Tests.{same_blob, says_true, ends_well, evicts_well, is_earned}
use Rattle.seat_rules.proofs.Along.{past}
use Rattle.log_summary.specs.Telling.{TellsOperation, TellsInside}
use Rattle.log_summary.proofs.Carried.{gave_then}
use Rattle.seat_rules.proofs.Courses.{IsOutside, disk_now, failed_then, or_nothing}
use Rattle.seat_rules.proofs.Trying.{held_off_split, held_off_stays}
use Rattle.rule_checks.proofs.Deciding.{same_blob_decides}
use Rattle.seat_rules.proofs.Inside.{one_inside}
use Rattle.log_summary.specs.Telling.{TellsCalm}
use Rattle.rule_checks.proofs.Reading.{AllFit, all_fit, after_fits, gives_from, gives_to, held_from, held_to, none_from, none_to}
use Rattle.log_summary.specs.Telling.{Tells}

-- ---- what an answer says

-- the facts of an operation whose items these are
record IsSummed (who : Who) (d : Disk) (made : List LogItem) (request : Request) (gave : List (Option (List ℕ))) (o : Operation) : Type 0 where
  fit : AllFit d made
  gave_is : (test : Option (List ℕ) → Bool) → Decides (list_any test gave) (AfterOne who (λ e. test (given_for e request) ≡ true) d made)
  failed : o.failed ≡ list_any is_fault (own who made)
  held_off : Decides o.held_off (WasHeldOff who (root_of request) d made)

-- a blob that was given
gave_blob : (who : Who) (d : Disk) (made : List LogItem) (at : Address) (gave : List (Option (List ℕ))) (blob : List ℕ) → AllFit d made
    → Decides (list_any (same_blob (Some blob)) gave) (AfterOne who (λ e. same_blob (Some blob) (given e at) ≡ true) d made) → Decides (list_any (same_blob (Some blob)) gave) (AfterOne who (λ e. Gives e at blob) d made)
gave_blob who d made at gave blob fit g = Decides-like _
    (after_fits who (λ e. same_blob (Some blob) (given e at) ≡ true) (λ e. Gives e at blob) d made fit (λ e f t. gives_from e at blob f (sym ((same_blob_decides (Some blob) (given e at)).0 t))))
    (after_fits who (λ e. Gives e at blob) (λ e. same_blob (Some blob) (given e at) ≡ true) d made fit (λ e f t. (same_blob_decides (Some blob) (given e at)).1 (sym (gives_to e at blob t))))
    g

-- some blob, or none
gave_some : (who : Who) (d : Disk) (made : List LogItem) (at : Address) (gave : List (Option (List ℕ))) → AllFit d made
    → Decides (list_any is_some gave) (AfterOne who (λ e. is_some (given e at) ≡ true) d made) → Decides (list_any is_some gave) (AfterOne who (λ e. IsHeld e at) d made)
gave_some who d made at gave fit g = Decides-like _
    (after_fits who (λ e. is_some (given e at) ≡ true) (λ e. IsHeld e at) d made fit (λ e f t. held_from e at f t))
    (after_fits who (λ e. IsHeld e at) (λ e. is_some (given e at) ≡ true) d made fit (λ e f t. held_to e at t))
    g

gave_none : (who : Who) (d : Disk) (made : List LogItem) (at : Address) (gave : List (Option (List ℕ))) → AllFit d made
    → Decides (list_any is_none gave) (AfterOne who (λ e. is_none (given e at) ≡ true) d made) → Decides (list_any is_none gave) (AfterOne who (λ e. IsHeld e at → ⊥) d made)
gave_none who d made at gave fit g = Decides-like _
    (after_fits who (λ e. is_none (given e at) ≡ true) (λ e. IsHeld e at → ⊥) d made fit (λ e f t. none_from e at t))
    (after_fits who (λ e. IsHeld e at → ⊥) (λ e. is_none (given e at) ≡ true) d made fit (λ e f t. none_to e at f t))
    g

-- where it was calm
while_calm : {P : Type 0} (log : List LogItem) (rough b : Bool) → TellsCalm log rough → Decides b P → Decides (rough || b) (Quiet log → P)
while_calm log true b calm d = (λ e q. absurd (false≢true (sym (calm.1 q))), λ f. refl)
while_calm log false b calm d = (λ e q. d.0 e, λ f. d.1 (f (calm.0 refl)))

same_decides : (a b : Bool) → a ≡ b → Decides a (b ≡ true)
same_decides a b e = (λ t. sym e ∙ t, λ t. e ∙ t)

says_decides : (log : List LogItem) (rough : Bool) (who : Who) (d : Disk) (made : List LogItem) (request : Request) (gave : List (Option (List ℕ))) (o : Operation) (answer : Answer) → TellsCalm log rough → IsSummed who d made request gave o
    → Decides (says_true rough gave o request answer) (IsEarnedAlong (Quiet log) who d made request answer)
says_decides log rough who d made (requests.Get store driver key ro) gave o (answers.Hit blob) calm s = gave_blob who d made (address store driver key) gave blob s.fit (s.gave_is (same_blob (Some blob)))
says_decides log rough who d made (requests.Get store driver key ro) gave o answers.Miss calm s = while_calm log rough _ calm (gave_none who d made (address store driver key) gave s.fit (s.gave_is is_none))
says_decides log rough who d made (requests.Put store driver key meta blob limit) gave o answers.Stored calm s = gave_blob who d made (address store driver key) gave blob s.fit (s.gave_is (same_blob (Some blob)))
says_decides log rough who d made (requests.Put store driver key meta blob limit) gave o answers.Kept calm s = gave_some who d made (address store driver key) gave s.fit (s.gave_is is_some)
says_decides log rough who d made (requests.Put store driver key meta blob limit) gave o (answers.TooLarge n) calm s = (λ e. e, λ e. e)
says_decides log rough who d made request gave o answers.Busy calm s = s.held_off
says_decides log rough who d made request gave o answers.FilesFault calm s = same_decides o.failed _ s.failed
says_decides log rough who d made request gave o answer calm s = (λ e. tt, λ u. refl)

-- ---- with the End

summed_end : (log : List LogItem) (who : Who) (o : Operation) (answer : Answer) → Legal (first []) (log ++ items.End who answer ∷ []) → (t : TellsOperation log who o)
    → IsSummed who (disk_of (past t.at.before)) ((items.Begin who o.request ∷ t.at.since) ++ items.End who answer ∷ []) o.request (given_for (disk_of (past log)) o.request ∷ o.gave) o
summed_end log who o answer legal t = record {
  fit = all_fit t.at.before (made ++ done ∷ []) (subst (Legal (first [])) (ap (λ (l : List LogItem). l ++ done ∷ []) t.at.log_is ∙ append_assoc t.at.before made (done ∷ [])) legal);
  gave_is = λ test. Decides-at _ _ (ap (λ (e : Disk). test (given_for e o.request) || list_any test o.gave) (sym (disk_now log who o.request t.at))) (gave_then who start made done o.request o.gave test mine (t.gave test));
  failed = sym (or_nothing o.failed) ∙ failed_then who made done o.failed mine t.failed;
  held_off = (
    λ e. held_off_stays who (root_of o.request) start made done (t.held_off.0 e),
    λ w. elim (held_off_split who (root_of o.request) start made done w) [
      | inl before ↦ t.held_off.1 before
      | inr last ↦ let clash = last.item_is in absurd cc
    ],
  );
}
  where
    start : Disk
    start = disk_of (past t.at.before)

    made : List LogItem
    made = items.Begin who o.request ∷ t.at.since

    done : LogItem
    done = items.End who answer

    mine : is_own who (items.End who answer) ≡ true
    mine = seat_self who

-- the test of an End
ends_decides : (log : List LogItem) (d : Disk) (rough : Bool) (who : Who) (o : Option Operation) (answer : Answer) → disk_of (past log) ≡ d → TellsCalm log rough → Legal (first []) (log ++ items.End who answer ∷ []) → TellsInside log who o
    → Decides (ends_well rough d o answer) (EndsWell (past log) who answer)
ends_decides log d rough who None answer disk calm legal t = (λ e. absurd (false≢true e), λ w. absurd (t w.request w.inside))
ends_decides log d rough who (Some o) answer disk calm legal t = Decides-like _
    (λ p. ends_by (past log) who answer o.request t.at p)
    (λ w. earned_at (past log) who answer o.request w t.at)
    (Decides-and _ _ (λ e. e, λ e. e)
    (Decides-at _ _ (ap (λ (e : Disk). says_true rough (given_for e o.request ∷ o.gave) o o.request answer) (sym disk))
    (says_decides log rough who (disk_of (past t.at.before)) ((items.Begin who o.request ∷ t.at.since) ++ items.End who answer ∷ []) o.request (given_for (disk_of (past log)) o.request ∷ o.gave) o answer calm (summed_end log who o answer legal t))))

begin_decides : (log : List LogItem) (who : Who) (o : Option Operation) → TellsInside log who o → Decides (is_none o) (IsOutside log who)
begin_decides log who None t = (λ e. t, λ f. refl)
begin_decides log who (Some o) t = (λ e. absurd (false≢true e), λ f. absurd (f o.request t.at))

evict_decides : (log : List LogItem) (who : Who) (o : Option Operation) → TellsInside log who o → Decides (evicts_well o) ((request : Request) × IsInside log who request × (may_evict request ≡ true))
evict_decides log who None t = (λ e. absurd (false≢true e), λ w. absurd (t w.0 w.1))
evict_decides log who (Some o) t = (
  λ e. (o.request, t.at, e),
  λ w. ap may_evict (one_inside log who o.request w.0 t.at w.1).request ∙ w.2,
)

-- answers are earned
pub earned_decides : (log : List LogItem) (s : Summary) (x : LogItem) → Legal (first []) (log ++ x ∷ []) → Tells log s → Decides (is_earned s x) (AnswersAreEarned (past log) x)
earned_decides log s (items.Begin who request) legal t = begin_decides log who (s.inside who) (t.inside who)
earned_decides log s (items.Evict who store driver key) legal t = evict_decides log who (s.inside who) (t.inside who)
earned_decides log s (items.End who answer) legal t = ends_decides log s.state.disk s.rough who (s.inside who) answer (ap (λ (st : State). st.disk) t.state) t.calm legal (t.inside who)
earned_decides log s x legal t = (λ e. tt, λ u. refl)
