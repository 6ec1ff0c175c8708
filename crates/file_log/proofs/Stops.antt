-- After its process was stopped a seat has no items, and so breaks no rule.
use Rattle.std.proofs.Common.{◌≡◌, ℕ, Bool, true, false, nat_eq, ◌&&◌, ◌||◌, List, [], ◌∷◌, ◌++◌, fold, Option, Some, None, refl, sym, ap, ◌∙◌}
use Rattle.std.proofs.lemmas.Bool.{eqb-true, eq-eqb}
use Rattle.cache_types.specs.declared.seat.Who.{Who}
use Rattle.file_log.specs.declared.item.LogItem.{LogItem}
use Rattle.file_log.specs.declared.item.LogItem.TheVariants as items
use Rattle.cache_types.specs.Seats.{same_seat}
use Rattle.file_log.specs.Log.{seat_of, is_seat, is_own}
use Rattle.file_log.specs.Along.{All, Keeps}
use Rattle.file_log.specs.State.{State, after, halted_after}
use Rattle.file_log.specs.Legal.{IsAlive, IsLegal, Legal}

still : (b c : Bool) → c ≡ true → (b || c) ≡ true
still true c e = refl
still false c e = e

halted_stays : (halted : ℕ → Bool) (item : LogItem) (p : ℕ) → halted p ≡ true → halted_after halted item p ≡ true
halted_stays halted (items.Stop process) p e = still (nat_eq process p) (halted p) e
halted_stays halted item p e = e

process_of : (me who : Who) → same_seat me who ≡ true → me.process ≡ who.process
process_of me who e = eqb-true me.process who.process (one (nat_eq me.process who.process) (nat_eq me.seat who.seat) e)
  where
    one : (a b : Bool) → (a && b) ≡ true → a ≡ true
    one true b e = refl
    one false b e = absurd cc

none_own : (s : State) (me : Who) (seat : Option Who) → s.halted me.process ≡ true → IsAlive s seat → (b : Bool) → is_seat me seat ≡ b → b ≡ false
none_own s me None g l b e = sym e
none_own s me (Some who) g l true e = let clash : true ≡ false = sym g ∙ ap s.halted (process_of me who e) ∙ l in absurd cc
none_own s me (Some who) g l false e = refl

-- a seat of a stopped process keeps every rule
pub stopped_keeps : (Rule : State → LogItem → Type 0) (me : Who) (s : State) (log : List LogItem) → s.halted me.process ≡ true → Legal s log → Keeps after Rule me s log
stopped_keeps Rule me s [] g l = tt
stopped_keeps Rule me s (item ∷ log) g l =
    (λ mine. let clash : true ≡ false = none_own s me (seat_of item) g l.0.0 true mine in absurd cc, λ rule. stopped_keeps Rule me (after s item) log (halted_stays s.halted item me.process g) l.1)

-- one part of a log after another
pub keeps_then : {S : Type 0} (step : S → LogItem → S) (Rule : S → LogItem → Type 0) (me : Who) (s : S) (xs ys : List LogItem) → Keeps step Rule me s xs → (All step Rule s xs → Keeps step Rule me (fold step s xs) ys) → Keeps step Rule me s (xs ++ ys)
keeps_then step Rule me s [] ys k then = then tt
keeps_then step Rule me s (x ∷ xs) ys k then = (k.0, λ rule. keeps_then step Rule me (step s x) xs ys (k.1 rule) (λ all. then (rule, all)))

-- after the end of its process
halted_now : (s : State) (process : ℕ) → (after s (items.Stop process)).halted process ≡ true
halted_now s process = rw (eq-eqb process process refl) refl

-- a seat that kept the rule until it was stopped keeps it
pub keeps_to_stop : (Rule : State → LogItem → Type 0) (me : Who) (s : State) (news later : List LogItem) → Keeps after Rule me s news → Legal (after (fold after s news) (items.Stop me.process)) later → Keeps after Rule me s (news ++ items.Stop me.process ∷ later)
keeps_to_stop Rule me s news later k legal =
    keeps_then after Rule me s news (items.Stop me.process ∷ later) k (λ all.
    (λ mine. let clash : false ≡ true = mine in absurd cc, λ rule. stopped_keeps Rule me (after (fold after s news) (items.Stop me.process)) later (halted_now (fold after s news) me.process) legal))
