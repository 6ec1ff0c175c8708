-- The test of seats decides whether they are one.
use Rattle.std.proofs.Common.{◌≡◌, ℕ, ap, ◌∙◌}
use Rattle.std.specs.Bool.{Decides}
use Rattle.std.proofs.lemmas.Bool.Decides.{Decides-eqb, Decides-like, Decides-and}
use Rattle.cache_types.specs.Seats.{same_seat}
use Rattle.cache_types.specs.declared.seat.Who.{Who}

pub same_seat_decides : (a b : Who) → Decides (same_seat a b) (a ≡ b)
same_seat_decides a b = Decides-like _
    (λ p. ap (λ (x : ℕ). record { process = x; seat = a.seat }) p.0 ∙ ap (λ (x : ℕ). record { process = b.process; seat = x }) p.1)
    (λ e. (ap (λ (w : Who). w.process) e, ap (λ (w : Who). w.seat) e))
    (Decides-and _ _ (Decides-eqb a.process b.process) (Decides-eqb a.seat b.seat))
