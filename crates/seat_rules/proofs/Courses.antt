-- Operations and their items, with an item more.
use Rattle.std.proofs.Common.{◌≡◌, ◌⊎◌, inl, inr, Bool, true, false, ◌&&◌, ◌||◌, List, [], ◌∷◌, ◌++◌, fold, refl, sym, ap, ◌∙◌, subst, append_assoc}
use Rattle.std.specs.List.{list_any}
use Rattle.std.proofs.lemmas.Bool.{false≢true}
use Rattle.std.proofs.lemmas.List.Folds.{list_any-append}
use Rattle.cache_types.specs.declared.request.Request.{Request}
use Rattle.cache_types.specs.declared.seat.Who.{Who}
use Rattle.file_log.specs.Disk.{Disk}
use Rattle.file_log.specs.Effect.{applied}
use Rattle.file_log.specs.Log.{own, is_own}
use Rattle.file_log.specs.Operation.{is_fault}
use Rattle.file_log.specs.State.{disk_of}
use Rattle.file_log.specs.declared.item.LogItem.{LogItem}
use Rattle.file_log.specs.declared.item.LogItem.TheVariants as items
use Rattle.file_log.proofs.Logs.{own-append}
use Rattle.seat_rules.specs.Operations.{is_bound, GoesOn, IsInside, AfterOne}
use Rattle.seat_rules.proofs.Along.{past}
use Rattle.seat_rules.proofs.Histories.{disk_further, last_of}

-- ---- after one of the seat's items, with an item more

pub after_split : (who : Who) (P : Disk → Type 0) (d : Disk) (made : List LogItem) (x : LogItem) → AfterOne who P d (made ++ x ∷ []) → AfterOne who P d made ⊎ ((is_own who x ≡ true) × P (applied (fold applied d made) x))
after_split who P d [] x (inl now) = inr now
after_split who P d [] x (inr none) = absurd none
after_split who P d (y ∷ made) x (inl here) = inl (inl here)
after_split who P d (y ∷ made) x (inr later) = elim (after_split who P (applied d y) made x later) [ inl there ↦ inl (inr there) | inr now ↦ inr now ]

pub after_stays : (who : Who) (P : Disk → Type 0) (d : Disk) (made : List LogItem) (x : LogItem) → AfterOne who P d made → AfterOne who P d (made ++ x ∷ [])
after_stays who P d [] x a = absurd a
after_stays who P d (y ∷ made) x (inl here) = inl here
after_stays who P d (y ∷ made) x (inr later) = inr (after_stays who P (applied d y) made x later)

pub after_now : (who : Who) (P : Disk → Type 0) (d : Disk) (made : List LogItem) (x : LogItem) → is_own who x ≡ true → P (applied (fold applied d made) x) → AfterOne who P d (made ++ x ∷ [])
after_now who P d [] x mine p = inl (mine, p)
after_now who P d (y ∷ made) x mine p = inr (after_now who P (applied d y) made x mine p)

-- ---- an operation with an item more

pub goes_then : (who : Who) (log : List LogItem) (x : LogItem) → GoesOn who log → (is_own who x && is_bound x) ≡ false → GoesOn who (log ++ x ∷ [])
goes_then who [] x g e = (e, tt)
goes_then who (y ∷ log) x g e = (g.0, goes_then who log x g.1 e)

pub goes_front : (who : Who) (log : List LogItem) (x : LogItem) → GoesOn who (log ++ x ∷ []) → GoesOn who log
goes_front who [] x g = tt
goes_front who (y ∷ log) x g = (g.0, goes_front who log x g.1)

pub goes_last : (who : Who) (log : List LogItem) (x : LogItem) → GoesOn who (log ++ x ∷ []) → (is_own who x && is_bound x) ≡ false
goes_last who [] x g = g.0
goes_last who (y ∷ log) x g = goes_last who log x g.1

abbrev pub inside_then : (log : List LogItem) (x : LogItem) (who : Who) (request : Request) → (is_own who x && is_bound x) ≡ false → IsInside log who request → IsInside (log ++ x ∷ []) who request
inside_then log x who request e i = record {
  before = i.before;
  since = i.since ++ x ∷ [];
  log_is = ap (λ (l : List LogItem). l ++ x ∷ []) i.log_is ∙ append_assoc i.before (items.Begin who request ∷ i.since) (x ∷ []);
  goes_on = goes_then who i.since x i.goes_on e;
}

abbrev pub IsOutside : List LogItem → Who → Type 0
IsOutside log who = (request : Request) → IsInside log who request → ⊥

-- a seat in no operation is in none after an item that is no Begin of its own
pub outside_then : (log : List LogItem) (x : LogItem) (who : Who) → ((request : Request) → x ≡ items.Begin who request → ⊥) → IsOutside log who → IsOutside (log ++ x ∷ []) who
outside_then log x who other none request i = elim (last_of log x i.before (items.Begin who request) i.since i.log_is) [
  | inl r ↦ none request (record { before = i.before; since = r.shorter; log_is = r.log_is; goes_on = goes_front who r.shorter x (subst (GoesOn who) r.later_is i.goes_on) })
  | inr same ↦ other request same.0
]

-- after its End it is in none
pub outside_end : (log : List LogItem) (x : LogItem) (who : Who) → (is_own who x && is_bound x) ≡ true → ((request : Request) → x ≡ items.Begin who request → ⊥) → IsOutside (log ++ x ∷ []) who
outside_end log x who ends other request i = elim (last_of log x i.before (items.Begin who request) i.since i.log_is) [
  | inl r ↦ false≢true (sym (goes_last who r.shorter x (subst (GoesOn who) r.later_is i.goes_on)) ∙ ends)
  | inr same ↦ other request same.0
]

-- ---- their disks and their own items

-- the disk after the operation's items is that after the log
pub disk_now : (log : List LogItem) (who : Who) (request : Request) (i : IsInside log who request) → fold applied (disk_of (past i.before)) (items.Begin who request ∷ i.since) ≡ disk_of (past log)
disk_now log who request i = sym (disk_further (past i.before) (items.Begin who request ∷ i.since)) ∙ ap (λ (l : List LogItem). disk_of (past l)) (sym i.log_is)

pub own_other : (who : Who) (x : LogItem) → is_own who x ≡ false → own who (x ∷ []) ≡ []
own_other who x e = rw e refl

pub own_mine : (who : Who) (x : LogItem) → is_own who x ≡ true → own who (x ∷ []) ≡ x ∷ []
own_mine who x e = rw e refl

pub or_nothing : (a : Bool) → (a || false) ≡ a
or_nothing true = refl
or_nothing false = refl

pub failed_then : (who : Who) (made : List LogItem) (x : LogItem) (failed : Bool) → is_own who x ≡ true → failed ≡ list_any is_fault (own who made) → (failed || is_fault x) ≡ list_any is_fault (own who (made ++ x ∷ []))
failed_then who made x failed mine e =
    ap (λ (b : Bool). b || is_fault x) e
    ∙ ap (λ (b : Bool). list_any is_fault (own who made) || b) (sym (or_nothing (is_fault x)))
    ∙ sym (list_any-append is_fault (own who made) (x ∷ []))
    ∙ ap (list_any is_fault) (ap (λ (l : List LogItem). own who made ++ l) (sym (own_mine who x mine)) ∙ sym (own-append who made (x ∷ [])))

pub nothing_made : (before : List LogItem) (x : LogItem) (later : List LogItem) → [] ≡ before ++ x ∷ later → ⊥
nothing_made [] x later e = cc
nothing_made (y ∷ before) x later e = cc
