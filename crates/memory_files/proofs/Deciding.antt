-- The test of a call is what its conditions say.
use Rattle.std.proofs.Common.{◌≡◌, ◌↔◌, ℕ, nat_lt, ◌&&◌, not, Bool, true, false, refl}
use Rattle.std.specs.Prelude.{is_some}
use Rattle.std.proofs.lemmas.Bool.{ltb-true, lt-ltb}
use Rattle.cache_types.specs.declared.seat.Who.{Who}
use Rattle.file_log.specs.declared.call.Call.{Call}
use Rattle.file_log.specs.declared.call.Call.TheVariants as calls
use Rattle.file_log.specs.Disk.{Disk}
use Rattle.file_log.specs.Log.{History}
use Rattle.file_log.specs.Seat.{IsFilled, IsEmpty, SlotFits, IsCalm, MayCall, course_of}
use Rattle.file_log.specs.State.{disk_of}
use Rattle.memory_files.specs.Allowed.{is_empty, slots_fit, is_calm, is_allowed}
use Rattle.memory_files.specs.Seats.{is_filled, seen_in}

first_of_two : (a b : Bool) → (a && b) ≡ true → a ≡ true
first_of_two true b e = refl
first_of_two false b e = absurd cc

second_of_two : (a b : Bool) → (a && b) ≡ true → b ≡ true
second_of_two true b e = e
second_of_two false b e = absurd cc

both : (a b : Bool) → a ≡ true → b ≡ true → (a && b) ≡ true
both true b p q = q
both false b p q = absurd cc

neither : (a b : Bool) → a ≡ true → not b ≡ true → (a && b) ≡ false
neither true true p q = absurd cc
neither true false p q = refl
neither false b p q = absurd cc

empty_then : (a b : Bool) → a ≡ true → (a && b) ≡ false → (a && not b) ≡ true
empty_then true true p q = absurd cc
empty_then true false p q = refl
empty_then false b p q = absurd cc

filled_is : (d : Disk) (me : Who) (slot : ℕ) → (is_filled d me slot ≡ true) ↔ IsFilled (is_filled d me) slot
filled_is d me slot = (λ e. (ltb-true slot 8 (first_of_two (nat_lt slot 8) (is_some (d.slots me slot)) e), e), λ p. p.1)

empty_is : (d : Disk) (me : Who) (slot : ℕ) → (is_empty d me slot ≡ true) ↔ IsEmpty (is_filled d me) slot
empty_is d me slot =
    let small = nat_lt slot 8 in
    let file = is_some (d.slots me slot) in (
      λ e. let s : small ≡ true = first_of_two small (not file) e in (ltb-true slot 8 s, neither small file s (second_of_two small (not file) e)),
      λ p. empty_then small file (lt-ltb slot 8 p.0) p.1,
    )

always : (true ≡ true) ↔ Unit {0}
always = (λ e. tt, λ u. refl)

slots_are : (d : Disk) (me : Who) (call : Call) → (slots_fit d me call ≡ true) ↔ SlotFits (is_filled d me) call
slots_are d me (calls.OpenOld slot name) = empty_is d me slot
slots_are d me (calls.OpenNew slot name) = empty_is d me slot
slots_are d me (calls.TryLock slot) = filled_is d me slot
slots_are d me (calls.Length slot) = filled_is d me slot
slots_are d me (calls.ReadAt slot at n) = filled_is d me slot
slots_are d me (calls.WriteAt slot at bytes) = filled_is d me slot
slots_are d me (calls.Cut slot n) = filled_is d me slot
slots_are d me (calls.Close slot) = filled_is d me slot
slots_are d me call = always

not_is : (hurt : Bool) → (not hurt ≡ true) ↔ (hurt ≡ false)
not_is true = (λ e. absurd cc, λ e. absurd cc)
not_is false = (λ e. refl, λ e. refl)

calm_is : (hurt : Bool) (call : Call) → (is_calm hurt call ≡ true) ↔ IsCalm hurt call
calm_is hurt (calls.Close slot) = always
calm_is hurt (calls.Tell note) = always
calm_is hurt call = not_is hurt

pub allowed_is : (me : Who) (h : History) (call : Call) → (is_allowed me h call ≡ true) ↔ MayCall (seen_in me h) call
allowed_is me h call =
    let slots = slots_are (disk_of h) me call in
    let calm = calm_is (course_of me h.log).hurt call in
    let a = slots_fit (disk_of h) me call in
    let b = is_calm (course_of me h.log).hurt call in (
      λ e. (slots.0 (first_of_two a b e), calm.0 (second_of_two a b e)),
      λ p. both a b (slots.1 p.0) (calm.1 p.1),
    )
