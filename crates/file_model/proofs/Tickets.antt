-- The queues of all processes after a job was put.
use Rattle.std.proofs.Common.{◌≡◌, ◌↔◌, ◌∙◌, ℕ, suc, nat_eq, Bool, true, false, cond, ◌&&◌, IsTrue, List, [], ◌∷◌, ◌++◌, Result, Ok, Err, inl, inr, refl, sym, ap, subst, arith}
use Rattle.std.specs.List.{Contains}
use Rattle.std.specs.Prelude.{OnOk}
use Rattle.std.proofs.lemmas.Bool.{eqb-true, eq-eqb}
use Rattle.world_tables.proofs.Listings.{first_or_later}
use Rattle.cache_types.specs.declared.request.Request.{Request}
use Rattle.file_log.specs.declared.item.LogItem.TheVariants.{Queued}
use Rattle.file_log.specs.declared.ticket.Ticket.{Ticket}
use Rattle.file_log.specs.State.{State, after}
use Rattle.file_model.specs.Queues.{waiting_in, is_used, AreQueues}
use Rattle.file_model.specs.declared.queues.Queues.{Queues}

abbrev same_ticket : Ticket → Ticket → Bool
same_ticket a b = nat_eq a.side b.side && nat_eq a.number b.number

both : (a b : Bool) → (a && b) ≡ true → (a ≡ true) × (b ≡ true)
both true b e = (refl, e)
both false b e = absurd cc

same_ticket-true : (a b : Ticket) → same_ticket a b ≡ true → a ≡ b
same_ticket-true a b e =
    let p = both (nat_eq a.side b.side) (nat_eq a.number b.number) e in
    let side : a.side ≡ b.side = eqb-true _ _ p.0 in
    let number : a.number ≡ b.number = eqb-true _ _ p.1 in
    ap (λ (n : ℕ). record { side = n; number = a.number }) side ∙ ap (λ (n : ℕ). record { side = b.side; number = n }) number

same_ticket-by : (a b : Ticket) → a ≡ b → same_ticket a b ≡ true
same_ticket-by a b e =
    ap (λ (x : Bool). x && nat_eq a.number b.number) (eq-eqb a.side b.side (ap (λ (t : Ticket). t.side) e))
    ∙ eq-eqb a.number b.number (ap (λ (t : Ticket). t.number) e)

-- a ticket is among those of its process where it is the new one, or was among them before
found_by : (k q r : Bool) (ticket t : Ticket) (ts : List Ticket) → (q ≡ true → ticket ≡ t) → (r ≡ true → Contains ts t) → cond (k && q) true r ≡ true → Contains (cond k (ticket ∷ ts) ts) t
found_by true true r ticket t ts same more e = (0, omega arith, same refl)
found_by true false r ticket t ts same more e = let h = more e in (suc h.0, omega (arith, h.1), h.2)
found_by false q r ticket t ts same more e = more e

or_right : (q r : Bool) → r ≡ true → cond q true r ≡ true
or_right true r e = refl
or_right false r e = e

or_left : (q r : Bool) → q ≡ true → cond q true r ≡ true
or_left true r e = refl
or_left false r e = absurd cc

there_by : (k q r : Bool) (ticket t : Ticket) (ts : List Ticket) → (ticket ≡ t → q ≡ true) → (Contains ts t → r ≡ true) → Contains (cond k (ticket ∷ ts) ts) t → cond (k && q) true r ≡ true
there_by true q r ticket t ts same more h =
    elim (first_or_later ticket t ts h) [
      | inl e ↦ or_left q r (same e)
      | inr there ↦ or_right q r (more there)
    ]
there_by false q r ticket t ts same more h = more h

pub put_queues : (old new : Queues) (s : State) (process : ℕ) (ticket : Ticket) (request : Request)
    → ((p : ℕ) → waiting_in new p ≡ cond (nat_eq process p) (waiting_in old p ++ ticket ∷ []) (waiting_in old p))
    → ((p : ℕ) (t : Ticket) → is_used new p t ≡ cond (nat_eq process p && same_ticket ticket t) true (is_used old p t))
    → AreQueues old s → AreQueues new (after s (Queued process ticket request))
put_queues old new s process ticket request waiting used are = record {
  waiting = λ p. ap (λ (ts : List Ticket). cond (nat_eq process p) (ts ++ ticket ∷ []) ts) (are.waiting p) ∙ sym (waiting p);
  used = λ p t. subst (λ (b : Bool). IsTrue b ↔ Contains (cond (nat_eq process p) (ticket ∷ s.used p) (s.used p)) t) (sym (used p t)) (
    found_by (nat_eq process p) (same_ticket ticket t) (is_used old p t) ticket t (s.used p) (same_ticket-true ticket t) (are.used p t).0,
    there_by (nat_eq process p) (same_ticket ticket t) (is_used old p t) ticket t (s.used p) (same_ticket-by ticket t) (are.used p t).1,
  );
}

pub on_ok : {E T P Q : Type 0} (r : Result T E) → OnOk r P → (P → Q) → OnOk r Q
on_ok (Ok x) p f = f p
on_ok (Err e) p f = tt
