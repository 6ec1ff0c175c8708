-- The locks after a file was given to a holder, and after holders were freed.
use Rattle.std.proofs.Common.{◌≡◌, ◌∙◌, ℕ, nat_eq, Bool, true, false, cond, ◌&&◌, Option, Some, None, refl, sym, ap}
use mathlib.Core.Path.{fun_ext}
use Rattle.std.specs.Cmp.{nat_cmp_total, nat_eq_equiv, unsigned_ties}
use Rattle.std.specs.FinMap.{get, insert, empty, get-empty, get-insert}
use Rattle.std.specs.Ordering.{nat_cmp, eq_by_cmp}
use Rattle.std.proofs.lemmas.Bool.{eqb-true}
use Rattle.cache_types.specs.declared.seat.Who.{Who}
use Rattle.cache_types.specs.Seats.{same_seat}
use Rattle.file_log.specs.Disk.{Lock, is_slot, is_process, lock_taken}
use Rattle.lock_model.specs.Holders.{freed_of}
use Rattle.world_tables.specs.declared.locks.LockHolder.{LockHolder}
use Rattle.world_tables.specs.Locks.{Holdings, lock_from, lock_by, lock_of}

abbrev none : Option Lock
none = None

tied : (q k : ℕ) → eq_by_cmp nat_cmp q k ≡ nat_eq k q
tied q k = sym (unsigned_ties q k) ∙ nat_eq_equiv.symm q k

-- ---- at first

pub lock_of-empty : lock_of empty ≡ (λ f. None)
lock_of-empty = fun_ext (λ f. ap lock_by (get-empty nat_cmp f))

-- ---- a file that was given

at_cond : (b : Bool) (holder : LockHolder) (o : Option LockHolder) → lock_by (cond b (Some holder) o) ≡ cond b (Some (lock_from holder)) (lock_by o)
at_cond true holder o = refl
at_cond false holder o = refl

pub lock_of-given : (locks : Holdings) (file : ℕ) (holder : LockHolder) (f : ℕ) → get locks file ≡ None → lock_of (insert locks file holder) f ≡ cond (nat_eq file f) (lock_taken (lock_of locks file) (lock_from holder)) (lock_of locks f)
lock_of-given locks file holder f free =
    ap lock_by (get-insert nat_cmp_total locks file holder f ∙ ap (λ (b : Bool). cond b (Some holder) (get locks f)) (tied f file))
    ∙ at_cond (nat_eq file f) holder (get locks f)
    ∙ ap (λ (o : Option LockHolder). cond (nat_eq file f) (lock_taken (lock_by o) (lock_from holder)) (lock_of locks f)) (sym free)

-- a lock that somebody has stays
same_taken : (b : Bool) (o p : Option LockHolder) (lock : Lock) (holder : LockHolder) → o ≡ Some holder → (b ≡ true → p ≡ o) → lock_by p ≡ cond b (lock_taken (lock_by o) lock) (lock_by p)
same_taken true o p lock holder is same = ap lock_by (same refl ∙ is) ∙ ap (λ (x : Option LockHolder). lock_taken (lock_by x) lock) (sym is)
same_taken false o p lock holder is same = refl

pub lock_of-kept : (locks : Holdings) (file : ℕ) (other : LockHolder) (lock : Lock) (f : ℕ) → get locks file ≡ Some other → lock_of locks f ≡ cond (nat_eq file f) (lock_taken (lock_of locks file) lock) (lock_of locks f)
lock_of-kept locks file other lock f is = same_taken (nat_eq file f) (get locks file) (get locks f) lock other is (λ e. ap (get locks) (sym (eqb-true file f e)))

-- ---- holders that were freed

freed_cond : (b : Bool) (holder : LockHolder) → lock_by (cond b None (Some holder)) ≡ cond b none (Some (lock_from holder))
freed_cond true holder = refl
freed_cond false holder = refl

pub freed_slot : (who : Who) (at : ℕ) (o : Option LockHolder) → lock_by (freed_of (λ (holder : LockHolder). same_seat holder.who who && nat_eq at holder.slot) o) ≡ cond (is_slot (lock_by o) who at) None (lock_by o)
freed_slot who at None = refl
freed_slot who at (Some holder) = freed_cond (same_seat holder.who who && nat_eq at holder.slot) holder

pub freed_process : (process : ℕ) (o : Option LockHolder) → lock_by (freed_of (λ (holder : LockHolder). nat_eq holder.who.process process) o) ≡ cond (is_process process (lock_by o)) None (lock_by o)
freed_process process None = refl
freed_process process (Some holder) = freed_cond (nat_eq holder.who.process process) holder
