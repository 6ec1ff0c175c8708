-- A log that goes on: what it keeps of the rules, and which processes go on.
use Rattle.std.proofs.Common.{◌≡◌, ℕ, Bool, false, nat_eq, List, [], ◌∷◌, ◌++◌, fold, refl, sym, ap, ◌∙◌, subst}
use Rattle.std.proofs.lemmas.Bool.{false≢true, eq-eqb, ne_eqb}
use Rattle.std.proofs.lemmas.List.Sums.{fold-append}
use Rattle.cache_types.specs.declared.seat.Who.{Who}
use Rattle.file_log.specs.declared.item.LogItem.{LogItem}
use Rattle.file_log.specs.declared.item.LogItem.TheVariants as items
use Rattle.file_log.specs.Along.{All, Keeps}
use Rattle.file_log.specs.Log.{History, is_own, is_stop}
use Rattle.file_log.specs.State.{State, first, after, halted_after, state_of}
use Rattle.file_log.proofs.All.{all_keep}
use Rattle.item_frame.proofs.Numbers.{or_false}
use Rattle.seat_rules.specs.Changes.{with_item}
use Rattle.seat_rules.specs.Places.{past}
use Rattle.layout_rules.specs.Places.{Cooperating, KeepsBy}
use Rattle.layout_rules.specs.Rules.{KeepsRules}
use Rattle.seat_rules.proofs.Along.{there, all_split}
use Rattle.seat_rules.proofs.Histories.{goes_by}
use Rattle.layout_rules.proofs.Placing.{hold_along}
use Rattle.seat_order.specs.Apart.{GoesOn}

-- ---- processes

-- a process that goes on after an item went on before it, and the item is no stop of it
alive_before : (halted : ℕ → Bool) (x : LogItem) (p : ℕ) → halted_after halted x p ≡ false → (halted p ≡ false) × (is_stop p x ≡ false)
alive_before halted (items.Stop q) p e =
    let both = or_false (nat_eq q p) (halted p) e in
    (both.1, ne_eqb p q (λ same. false≢true (sym both.0 ∙ eq-eqb q p (sym same))))
alive_before halted x p e = (e, refl)

pub goes_on_before : (log : List LogItem) (x : LogItem) (who : Who) → GoesOn (log ++ x ∷ []) who → GoesOn log who × (is_stop who.process x ≡ false)
goes_on_before log x who e =
    alive_before (state_of (past log)).halted x who.process (sym (ap (λ (s : State). s.halted who.process) (fold-append after (first []) log (x ∷ []))) ∙ e)

-- ---- the rules

-- no place of the first part breaks one
pub cooperating_before : (log news : List LogItem) → Cooperating (log ++ news) → Cooperating log
cooperating_before log news keeps = (hold_along log).0.1 (all_split with_item KeepsRules (past []) log news ((hold_along (log ++ news)).0.0 keeps)).0

-- nor does a last item
pub last_keeps : (log : List LogItem) (x : LogItem) → Cooperating (log ++ x ∷ []) → KeepsRules (past log) x
last_keeps log x keeps = there KeepsRules log [] x keeps

module _ {S : Type 0} (step : S → LogItem → S) (Rule : S → LogItem → Type 0) (who : Who) where
  -- a seat that keeps a rule along a log, and then, if all keep it until there
  keeps_more : (s : S) (log news : List LogItem) → Keeps step Rule who s log → (All step Rule s log → Keeps step Rule who (fold step s log) news) → Keeps step Rule who s (log ++ news)
  keeps_more s [] news keeps then = then tt
  keeps_more s (x ∷ log) news keeps then = (keeps.0, λ rule. keeps_more (step s x) log news (keeps.1 rule) (λ all. then (rule, all)))

keeps_then : (who : Who) (log news : List LogItem) → KeepsBy who log → (Cooperating log → Keeps with_item KeepsRules who (past log) news) → KeepsBy who (log ++ news)
keeps_then who log news keeps then = ((hold_along (log ++ news)).1 who).1
    (keeps_more with_item KeepsRules who (past []) log news (((hold_along log).1 who).0 keeps) (λ all. subst (λ (h : History). Keeps with_item KeepsRules who h news) (sym (goes_by (past []) log)) (then ((hold_along log).0.1 all))))

-- a seat breaks no rule first by items that keep them, if no place before breaks one
pub keeps_by_own : (who : Who) (log news : List LogItem) → KeepsBy who log → (Cooperating log → All with_item KeepsRules (past log) news) → KeepsBy who (log ++ news)
keeps_by_own who log news keeps rules = keeps_then who log news keeps (λ before. all_keep with_item KeepsRules who (past log) news (rules before))

-- nor by an item that isn't its own
pub keeps_by_other : (who : Who) (log : List LogItem) (x : LogItem) → KeepsBy who log → is_own who x ≡ false → KeepsBy who (log ++ x ∷ [])
keeps_by_other who log x keeps other = keeps_then who log (x ∷ []) keeps (λ before. (λ mine. absurd (false≢true (sym other ∙ mine)), λ rule. tt))
