-- The operations of all seats, as they begin, go on and end.
use Rattle.std.proofs.Common.{◌≡◌, ℕ, Bool, true, false, cond, ◌&&◌, nat_eq, List, [], ◌++◌, Option, Some, None, Result, Ok, Err, refl, sym, ap, ap₂, ◌∙◌, subst, append-nil, arith}
use Rattle.std.specs.Prelude.{OnOk, OnErr, IfOk}
use Rattle.cache_types.specs.Seats.{same_seat}
use Rattle.cache_types.specs.declared.name.Name.{Name}
use Rattle.cache_types.specs.declared.request.Request.{Request}
use Rattle.cache_types.specs.declared.seat.Who.{Who}
use Rattle.cache_types.specs.declared.answer.Answer.{Answer}
use Rattle.file_log.specs.Disk.{Disk}
use Rattle.file_log.specs.Effect.{applied}
use Rattle.file_log.specs.Log.{seat_of, is_seat, is_own}
use Rattle.file_log.specs.declared.item.LogItem.{LogItem}
use Rattle.file_log.specs.declared.item.LogItem.TheVariants as items
use Rattle.seat_rules.specs.Kinds.{is_entry}
use Rattle.log_summary.specs.Summary.{Operation, Summary, summed, begun, gained, goes_on, goes_on_if, operation_after}
use Rattle.log_summary.proofs.Seats.{same_seat_decides}
use Rattle.rule_checks.specs.Tests.{keep_bytes}
use Rattle.rule_checks.proofs.Deciding.{keep_decides}
use Rattle.operation_ledger.specs.Listed.{AreListed}
use Rattle.operation_ledger.specs.Operations.{Holds, operation_of, IsOperation, AreOperations, GoesOn}
use Rattle.operation_ledger.specs.declared.operation.OpenOperation.{OpenOperation}
use Rattle.operation_ledger.specs.declared.operations.Operations.{Operations}
use Rattle.operation_ledger.proofs.Going.{holds_still}
use Rattle.operation_ledger.proofs.Listing.{listed_then}

-- ---- the operation of one seat changes

seat-sym : (a b : Who) → same_seat a b ≡ same_seat b a
seat-sym a b =
    let process : nat_eq a.process b.process ≡ nat_eq b.process a.process = grind arith in
    let seat : nat_eq a.seat b.seat ≡ nat_eq b.seat a.seat = grind arith in
    ap₂ (λ (p q : Bool). p && q) process seat

-- a seat's operation is now this one, or none, and the others' are as they were
abbrev pub Becomes : Who → Operations → Operations → Option OpenOperation → Type 0
Becomes who old new x = (w : Who) → operation_of new w ≡ cond (same_seat who w) x (operation_of old w)

-- where the seat was in none already
pub stays_out : (who : Who) (old new : Operations) → new.held.entries ≡ old.held.entries → operation_of old who ≡ None → Becomes who old new None
stays_out who old new same out w = rw same (by_test (same_seat who w) refl)
  where
    by_test : (b : Bool) → same_seat who w ≡ b → operation_of old w ≡ cond b None (operation_of old w)
    by_test true e = ap (λ (v : Who). operation_of old v) (sym ((same_seat_decides who w).0 e)) ∙ out
    by_test false e = refl

-- what is so of each seat's operation before is so of it after
each_seat : (who : Who) (old new : Operations) (x : Option OpenOperation) (Before After : Option OpenOperation → Option Operation → Type 0) (inside : Who → Option Operation) (then : Option Operation → Option Operation) → Becomes who old new x
    → ((w : Who) → Before (operation_of old w) (inside w)) → (Before (operation_of old who) (inside who) → After x (then (inside who))) → ((o : Option OpenOperation) (q : Option Operation) → Before o q → After o q)
    → (w : Who) → After (operation_of new w) (cond (same_seat w who) (then (inside w)) (inside w))
each_seat who old new x Before After inside then becomes was mine others w =
    rw (becomes w, seat-sym w who) (by_test (same_seat who w) refl)
  where
    by_test : (b : Bool) → same_seat who w ≡ b → After (cond b x (operation_of old w)) (cond b (then (inside w)) (inside w))
    by_test true e = subst (λ (v : Who). After x (then (inside v))) ((same_seat_decides who w).0 e) (mine (was who))
    by_test false e = others (operation_of old w) (inside w) (was w)

-- ---- all seats

pub on_ok : {E T P Q : Type 0} (r : Result T E) → OnOk r P → (P → Q) → OnOk r Q
on_ok (Ok x) p f = f p
on_ok (Err e) p f = tt

pub err_then : {E T P Q : Type 0} (r : Result T E) → OnErr r P → (P → Q) → OnErr r Q
err_then (Ok x) p f = tt
err_then (Err e) p f = f p

pub if_ok : {E T : Type 0} {P Q : T → Type 0} (r : Result T E) → IfOk r P → ((x : T) → P x → Q x) → IfOk r Q
if_ok (Ok x) p f = f x p
if_ok (Err e) p f = tt

-- an operation of a seat at an item of another
pub stays_one : (had : List (Name × ℕ)) (d : Disk) (item : LogItem) (x : Option OpenOperation) (o : Option Operation) → keep_bytes is_entry had d (applied d item) ≡ true → IsOperation had d x o → IsOperation (had ++ gained d item) (applied d item) x o
stays_one had d item None None kept h = tt
stays_one had d item (Some x) (Some o) kept h = holds_still had d item x o kept h
stays_one had d item None (Some o) kept h = absurd h
stays_one had d item (Some x) None kept h = absurd h

-- an item of a seat
all_then : (old new : Operations) (s : Summary) (item : LogItem) (who : Who) (x : Option OpenOperation) → seat_of item ≡ Some who → keep_bytes is_entry s.had s.state.disk (applied s.state.disk item) ≡ true → AreOperations old s → Becomes who old new x
    → (IsOperation s.had s.state.disk (operation_of old who) (s.inside who) → IsOperation (s.had ++ gained s.state.disk item) (applied s.state.disk item) x (operation_after s.had s.state.disk item (s.inside who))) → AreOperations new (summed s item)
all_then old new s item who x seat kept a becomes mine = record { inside = each; listed = listed_then s.had s.state.disk item a.listed }
  where
    each : (w : Who) → IsOperation (s.had ++ gained s.state.disk item) (applied s.state.disk item) (operation_of new w) (cond (is_own w item) (operation_after s.had s.state.disk item (s.inside w)) (s.inside w))
    each w = rw (ap (λ (o : Option Who). is_seat w o) seat)
        (each_seat who old new x (IsOperation s.had s.state.disk) (IsOperation (s.had ++ gained s.state.disk item) (applied s.state.disk item)) s.inside (operation_after s.had s.state.disk item) becomes a.inside mine (λ o q. stays_one s.had s.state.disk item o q kept) w)

-- an item of no seat
pub all_stay : (old : Operations) (s : Summary) (item : LogItem) → seat_of item ≡ None → keep_bytes is_entry s.had s.state.disk (applied s.state.disk item) ≡ true → AreOperations old s → AreOperations old (summed s item)
all_stay old s item seat kept a = record { inside = each; listed = listed_then s.had s.state.disk item a.listed }
  where
    each : (w : Who) → IsOperation (s.had ++ gained s.state.disk item) (applied s.state.disk item) (operation_of old w) (cond (is_own w item) (operation_after s.had s.state.disk item (s.inside w)) (s.inside w))
    each w = subst (λ (b : Bool). IsOperation (s.had ++ gained s.state.disk item) (applied s.state.disk item) (operation_of old w) (cond b (operation_after s.had s.state.disk item (s.inside w)) (s.inside w)))
        (sym (ap (λ (o : Option Who). is_seat w o) seat)) (stays_one s.had s.state.disk item (operation_of old w) (s.inside w) kept (a.inside w))

kept_itself : (had : List (Name × ℕ)) (d : Disk) → keep_bytes is_entry had d d ≡ true
kept_itself had d = (keep_decides is_entry had d d).1 (λ name f i kind. refl)

-- a Begin
pub all_begun : (old new : Operations) (s : Summary) (d : Disk) (who : Who) (request : Request) (x : OpenOperation) → AreOperations old s → d ≡ s.state.disk
    → ((had : List (Name × ℕ)) → AreListed had d → Holds had d x (begun d request)) → Becomes who old new (Some x) → AreOperations new (summed s (items.Begin who request))
all_begun old new s d who request x a disk holds becomes = all_then old new s (items.Begin who request) who (Some x) refl (kept_itself s.had s.state.disk) a becomes (λ was. there)
  where
    there : Holds (s.had ++ []) s.state.disk x (begun s.state.disk request)
    there = subst (λ (e : Disk). Holds (s.had ++ []) e x (begun e request)) disk (holds (s.had ++ []) (subst (λ (e : Disk). AreListed (s.had ++ []) e) (sym disk) (subst (λ (had : List (Name × ℕ)). AreListed had s.state.disk) (sym (append-nil s.had)) a.listed)))

-- ---- another item of a seat

-- an item over which its seat's operation goes on
abbrev pub IsOther : LogItem → Type 0
IsOther (items.Begin who request) = ⊥
IsOther (items.End who answer) = ⊥
IsOther item = Unit {0}

pub other_than : (item : LogItem) → ((who : Who) (request : Request) → item ≡ items.Begin who request → ⊥) → ((who : Who) (answer : Answer) → item ≡ items.End who answer → ⊥) → IsOther item
other_than (items.Begin who request) h k = absurd (h who request refl)
other_than (items.End who answer) h k = absurd (k who answer refl)
other_than item h k = tt

other_goes_on : (had : List (Name × ℕ)) (d : Disk) (item : LogItem) (o : Option Operation) → IsOther item → operation_after had d item o ≡ goes_on_if had d item o
other_goes_on had d (items.Begin who request) o other = absurd other
other_goes_on had d (items.End who answer) o other = absurd other
other_goes_on had d item o other = refl

pub all_go_on : (old new : Operations) (s : Summary) (item : LogItem) (who : Who) → IsOther item → seat_of item ≡ Some who → AreOperations old s → GoesOn who old new s item → AreOperations new (summed s item)
all_go_on old new s item who other seat a goes = record { inside = each; listed = listed_then s.had s.state.disk item a.listed }
  where
    each : (w : Who) → IsOperation (s.had ++ gained s.state.disk item) (applied s.state.disk item) (operation_of new w) (cond (is_own w item) (operation_after s.had s.state.disk item (s.inside w)) (s.inside w))
    each w = rw (ap (λ (o : Option Who). is_seat w o) seat, other_goes_on s.had s.state.disk item (s.inside w) other) (goes w)

-- the seat's operation, where it is in one
going : (had : List (Name × ℕ)) (d : Disk) (item : LogItem) (x y : OpenOperation) (o : Option Operation) → IsOperation had d (Some x) o
    → ((q : Operation) → Holds had d x q → Holds (had ++ gained d item) (applied d item) y (goes_on had d item q)) → IsOperation (had ++ gained d item) (applied d item) (Some y) (goes_on_if had d item o)
going had d item x y (Some o) h f = f o h
going had d item x y None h f = absurd h

-- one went on
pub goes_one : (who : Who) (old new : Operations) (s : Summary) (item : LogItem) (x y : OpenOperation) → AreOperations old s → keep_bytes is_entry s.had s.state.disk (applied s.state.disk item) ≡ true → operation_of old who ≡ Some x → Becomes who old new (Some y)
    → ((o : Operation) → Holds s.had s.state.disk x o → Holds (s.had ++ gained s.state.disk item) (applied s.state.disk item) y (goes_on s.had s.state.disk item o)) → GoesOn who old new s item
goes_one who old new s item x y a kept found becomes holds =
    each_seat who old new (Some y) (IsOperation s.had s.state.disk) (IsOperation (s.had ++ gained s.state.disk item) (applied s.state.disk item)) s.inside (goes_on_if s.had s.state.disk item) becomes a.inside
    (λ was. going s.had s.state.disk item x y (s.inside who) (subst (λ (o : Option OpenOperation). IsOperation s.had s.state.disk o (s.inside who)) found was) holds) (λ o q. stays_one s.had s.state.disk item o q kept)

-- none goes on
pub goes_none : (who : Who) (old new : Operations) (s : Summary) (item : LogItem) → AreOperations old s → keep_bytes is_entry s.had s.state.disk (applied s.state.disk item) ≡ true → operation_of old who ≡ None → new.held.entries ≡ old.held.entries → GoesOn who old new s item
goes_none who old new s item a kept out same =
    each_seat who old new None (IsOperation s.had s.state.disk) (IsOperation (s.had ++ gained s.state.disk item) (applied s.state.disk item)) s.inside (goes_on_if s.had s.state.disk item) (stays_out who old new same out) a.inside
    (λ was. outside (s.inside who) (subst (λ (o : Option OpenOperation). IsOperation s.had s.state.disk o (s.inside who)) out was)) (λ o q. stays_one s.had s.state.disk item o q kept)
  where
    outside : (o : Option Operation) → IsOperation s.had s.state.disk None o → IsOperation (s.had ++ gained s.state.disk item) (applied s.state.disk item) None (goes_on_if s.had s.state.disk item o)
    outside None h = tt
    outside (Some o) h = absurd h

-- a refusal
pub held_still : (who : Who) (old new : Operations) (s : Summary) (x y : OpenOperation) → AreOperations old s → operation_of old who ≡ Some x → Becomes who old new (Some y)
    → ((had : List (Name × ℕ)) (d : Disk) (o : Operation) → Holds had d x o → Holds had d y o) → AreOperations new s
held_still who old new s x y a found becomes holds = record { inside = each; listed = a.listed }
  where
    still : (o : Option Operation) → IsOperation s.had s.state.disk (Some x) o → IsOperation s.had s.state.disk (Some y) o
    still (Some o) h = holds s.had s.state.disk o h
    still None h = absurd h

    same : (b : Bool) (o : Option Operation) → cond b o o ≡ o
    same true o = refl
    same false o = refl

    each : (w : Who) → IsOperation s.had s.state.disk (operation_of new w) (s.inside w)
    each w = subst (λ (o : Option Operation). IsOperation s.had s.state.disk (operation_of new w) o) (same (same_seat w who) (s.inside w))
        (each_seat who old new (Some y) (IsOperation s.had s.state.disk) (IsOperation s.had s.state.disk) s.inside (λ o. o) becomes a.inside
        (λ was. still (s.inside who) (subst (λ (o : Option OpenOperation). IsOperation s.had s.state.disk o (s.inside who)) found was)) (λ o q h. h) w)
