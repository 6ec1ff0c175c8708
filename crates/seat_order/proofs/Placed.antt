-- What is known of a seat's operations at each place of a log, and when an item more comes.
use Rattle.std.proofs.Common.{◌≡◌, ◌≤◌, ◌<◌, ℕ, zero, suc, nat_eq, nat_lt, Bool, true, false, List, [], ◌∷◌, ◌++◌, length, length-append, take, slice_get, Option, Some, None, refl, sym, ap, ◌∙◌, subst, append-nil, arith}
use Rattle.std.proofs.Math.Seq.{take-append_seam, take-length}
use Rattle.std.proofs.lemmas.Bool.{false≢true, ltb-true, ltb-false, eqb-true, eq-eqb}
use Rattle.std.proofs.lemmas.List.{take_all, take-append-le}
use Rattle.std.proofs.lemmas.Option.{slice_get_past}
use Rattle.cache_types.specs.declared.seat.Who.{Who}
use Rattle.file_log.specs.declared.item.LogItem.{LogItem}
use Rattle.file_log.specs.Log.{is_own}
use Rattle.seat_rules.proofs.Along.{place_of}
use Rattle.seat_order.specs.Operating.{AreFewAfter, FitsAfter, OperatesAt, Operates}
use Rattle.seat_order.proofs.Insides.{IsOfCall, IsOneOfCall, none_at_first, few_other}

-- ---- at the places

first_few : (who : Who) → AreFewAfter who []
first_few who request i = absurd (none_at_first who request i)

pub operates_at_first : (who : Who) → Operates who []
operates_at_first who zero = record { few = first_few who; fits = λ item e. absurd cc }
operates_at_first who (suc n) = record { few = first_few who; fits = λ item e. absurd cc }

get_kept : (log : List LogItem) (x : LogItem) (n : ℕ) → n < length log → slice_get (log ++ x ∷ []) n ≡ slice_get log n
get_kept [] x n less = absurd (omega arith)
get_kept (y ∷ log) x zero less = refl
get_kept (y ∷ log) x (suc n) less = get_kept log x n (omega arith)

some_is : (a b : LogItem) → Some a ≡ Some b → a ≡ b
some_is a b e = cc

-- the last item fits, if it is an own one
abbrev LastFits : Who → List LogItem → LogItem → Type 0
LastFits who log x = is_own who x ≡ true → FitsAfter who log x

module _ (who : Who) (log : List LogItem) (x : LogItem) (o : Operates who log) where
  -- at the end of the log
  few_now : AreFewAfter who log
  few_now = subst (AreFewAfter who) (take-length log) (o (length log)).few

  earlier : (n : ℕ) → n < length log → OperatesAt who (log ++ x ∷ []) n
  earlier n less =
      let same : take n log ≡ take n (log ++ x ∷ []) = sym (take-append-le n log (x ∷ []) (omega arith)) in
      record {
        few = subst (AreFewAfter who) same (o n).few;
        fits = λ item e mine. subst (λ (l : List LogItem). FitsAfter who l item) same ((o n).fits item (sym (get_kept log x n less) ∙ e) mine);
      }

  here : LastFits who log x → OperatesAt who (log ++ x ∷ []) (length log)
  here fits =
      let same : log ≡ take (length log) (log ++ x ∷ []) = sym (take-append_seam log (x ∷ [])) in
      record {
        few = subst (AreFewAfter who) same few_now;
        fits = λ item e mine.
            let is : x ≡ item = some_is x item (sym (place_of log [] x) ∙ e) in
            subst (λ (l : List LogItem). FitsAfter who l item) same (subst (FitsAfter who log) is (fits (ap (is_own who) is ∙ mine)));
      }

  later : AreFewAfter who (log ++ x ∷ []) → (n : ℕ) → length (log ++ x ∷ []) ≤ n → OperatesAt who (log ++ x ∷ []) n
  later few n past = record {
    few = subst (AreFewAfter who) (sym (take_all n (log ++ x ∷ []) past)) few;
    fits = λ item e. let clash : ◌≡◌ {A = Option LogItem} None (Some item) = sym (slice_get_past (log ++ x ∷ []) n past) ∙ e in absurd cc;
  }

  -- an item more
  operates_more : AreFewAfter who (log ++ x ∷ []) → LastFits who log x → Operates who (log ++ x ∷ [])
  operates_more few fits n = by_test (nat_lt n (length log)) (nat_eq n (length log)) refl refl
    where
      by_test : (b c : Bool) → nat_lt n (length log) ≡ b → nat_eq n (length log) ≡ c → OperatesAt who (log ++ x ∷ []) n
      by_test true c e f = earlier n (ltb-true n (length log) e)
      by_test false true e f = subst (OperatesAt who (log ++ x ∷ [])) (sym (eqb-true n (length log) f)) (here fits)
      by_test false false e f = later few n (omega (arith, length-append log (x ∷ []), ltb-false n (length log) e, λ (same : n ≡ length log). false≢true (sym f ∙ eq-eqb n (length log) same)))

  -- of another
  pub operates_by_other : is_own who x ≡ false → Operates who (log ++ x ∷ [])
  operates_by_other other = operates_more (few_other who log x other few_now) (λ mine. absurd (false≢true (sym other ∙ mine)))

  -- of its own
  pub operates_by_own : AreFewAfter who (log ++ x ∷ []) → FitsAfter who log x → Operates who (log ++ x ∷ [])
  operates_by_own few fits = operates_more few (λ mine. fits)

-- its items of a call
pub operates_by_step : (who : Who) (log news : List LogItem) → Operates who log → IsOneOfCall news → ((x : LogItem) → IsOfCall x → FitsAfter who log x) → AreFewAfter who (log ++ news) → Operates who (log ++ news)
operates_by_step who log [] o one fits few = subst (Operates who) (sym (append-nil log)) o
operates_by_step who log (x ∷ []) o one fits few = operates_by_own who log x o few (fits x one)
operates_by_step who log (x ∷ y ∷ news) o one fits few = absurd one
