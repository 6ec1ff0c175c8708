-- A seat is in one operation at most.
use Rattle.std.proofs.Common.{◌≡◌, Bool, true, false, ◌&&◌, List, [], ◌∷◌, ◌++◌, refl, sym, ap, ◌∙◌, subst}
use Rattle.cache_types.specs.declared.request.Request.{Request}
use Rattle.cache_types.specs.declared.seat.Who.{Who}
use Rattle.cache_types.specs.Seats.{same_seat}
use Rattle.file_log.specs.declared.item.LogItem.{LogItem}
use Rattle.file_log.specs.declared.item.LogItem.TheVariants as items
use Rattle.file_log.proofs.All.{seat_self}
use Rattle.seat_rules.specs.Laws.{AreOne, OperationsAreOne}
use Rattle.seat_rules.specs.Operations.{GoesOn}

head_is : (x y : LogItem) (xs ys : List LogItem) → x ∷ xs ≡ y ∷ ys → x ≡ y
head_is x y xs ys e = cc

tail_is : (x y : LogItem) (xs ys : List LogItem) → x ∷ xs ≡ y ∷ ys → xs ≡ ys
tail_is x y xs ys e = cc

request_is : (who : Who) (a b : Request) → items.Begin who a ≡ items.Begin who b → a ≡ b
request_is who a b e = cc

-- no operation that goes on has a Begin of its seat in it
pub no_begin : (who : Who) (request : Request) (xs ys : List LogItem) → GoesOn who (xs ++ items.Begin who request ∷ ys) → ⊥
no_begin who request [] ys g = let clash : true ≡ false = sym (seat_self who) ∙ and_true (same_seat who who) ∙ g.0 in absurd cc
  where
    and_true : (b : Bool) → b ≡ (b && true)
    and_true true = refl
    and_true false = refl
no_begin who request (x ∷ xs) ys g = no_begin who request xs ys g.1

one_by : (who : Who) (b1 b2 s1 s2 : List LogItem) (r1 r2 : Request) → GoesOn who s1 → GoesOn who s2 → b1 ++ items.Begin who r1 ∷ s1 ≡ b2 ++ items.Begin who r2 ∷ s2 → AreOne b1 b2 s1 s2 r1 r2
one_by who [] [] s1 s2 r1 r2 g1 g2 e = record { before = refl; request = request_is who r1 r2 (head_is _ _ s1 s2 e); since = tail_is _ _ s1 s2 e }
one_by who [] (y ∷ b2) s1 s2 r1 r2 g1 g2 e = absurd (no_begin who r2 b2 s2 (subst (GoesOn who) (tail_is _ y s1 _ e) g1))
one_by who (x ∷ b1) [] s1 s2 r1 r2 g1 g2 e = absurd (no_begin who r1 b1 s1 (subst (GoesOn who) (sym (tail_is x _ _ s2 e)) g2))
one_by who (x ∷ b1) (y ∷ b2) s1 s2 r1 r2 g1 g2 e =
    let rest = one_by who b1 b2 s1 s2 r1 r2 g1 g2 (tail_is x y _ _ e) in
    record { before = ap (λ (z : LogItem). z ∷ b1) (head_is x y _ _ e) ∙ ap (λ (l : List LogItem). y ∷ l) rest.before; request = rest.request; since = rest.since }

pub one_inside : OperationsAreOne
one_inside log who r1 r2 i j = one_by who i.before j.before i.since j.since r1 r2 i.goes_on j.goes_on (sym i.log_is ∙ j.log_is)
