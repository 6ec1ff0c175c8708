-- A log is as a rule says exactly where each seat keeps the rule.
use Rattle.std.proofs.Common.{◌≡◌, ℕ, Bool, true, false, cond, List, [], ◌∷◌, Option, Some, None, refl, sym, ◌∙◌}
use Rattle.std.proofs.lemmas.Bool.{eq-eqb}
use Rattle.cache_types.specs.declared.seat.Who.{Who}
use Rattle.file_log.specs.declared.item.LogItem.{LogItem}
use Rattle.cache_types.specs.Seats.{same_seat}
use Rattle.file_log.specs.Log.{seat_of, is_seat, is_own, own}
use Rattle.file_log.specs.Along.{All, Keeps}

pub seat_self : (me : Who) → same_seat me me ≡ true
seat_self me = rw (eq-eqb me.process me.process refl, eq-eqb me.seat me.seat refl) refl

module _ {S : Type 0} (step : S → LogItem → S) (Rule : S → LogItem → Type 0) where
  -- an item of no seat is as the rule says
  abbrev pub Spares : Type 0
  Spares = (s : S) (item : LogItem) → seat_of item ≡ None → Rule s item

  by_seat : (spares : Spares) (s : S) (item : LogItem) (seat : Option Who) → seat_of item ≡ seat → ((who : Who) → is_seat who seat ≡ true → Rule s item) → Rule s item
  by_seat spares s item None e k = spares s item e
  by_seat spares s item (Some who) e k = k who (seat_self who)

  pub each_keeps : (spares : Spares) (s : S) (log : List LogItem) → ((who : Who) → Keeps step Rule who s log) → All step Rule s log
  each_keeps spares s [] k = tt
  each_keeps spares s (item ∷ log) k =
      let rule : Rule s item = by_seat spares s item (seat_of item) refl (λ who own'. (k who).0 own') in
      (rule, each_keeps spares (step s item) log (λ who. (k who).1 rule))

  pub all_keep : (who : Who) (s : S) (log : List LogItem) → All step Rule s log → Keeps step Rule who s log
  all_keep who s [] a = tt
  all_keep who s (item ∷ log) a = (λ mine. a.0, λ rule. all_keep who (step s item) log a.1)

  -- a seat without items breaks no rule
  pub none_keeps : (me : Who) (s : S) (log : List LogItem) → own me log ≡ [] → Keeps step Rule me s log
  none_keeps me s [] e = tt
  none_keeps me s (x ∷ xs) e = by_test (is_own me x) refl e (λ k. none_keeps me (step s x) xs k)
    where
      by_test : (b : Bool) → is_own me x ≡ b → cond b (x ∷ own me xs) (own me xs) ≡ [] → (own me xs ≡ [] → Keeps step Rule me (step s x) xs) → (is_own me x ≡ true → Rule s x) × (Rule s x → Keeps step Rule me (step s x) xs)
      by_test true mine clash again = absurd cc
      by_test false mine rest again = (λ own'. absurd cc, λ rule. again rest)
