-- How many Ends and failures are to come where an operation begins, is hurt or ends.
use Rattle.std.proofs.Common.{◌≡◌, ℕ, ◌+◌, ◌≤◌, Bool, true, false, not, Option, Some, None, Result, Ok, Err, IsOk, IfOk, refl, ap, arith}
use Rattle.std.specs.Prelude.{IsPermutation, unwrap_or, option_map}
use Rattle.std.specs.HashMap.{HashMap, IsReordered, PutsEntry}
use Rattle.std.specs.Map.{remove_entry, set_value}
use Rattle.std.proofs.lemmas.Map.Entries.{sum_by_values_permutation, sum_by-remove_entry, sum_by-set_value, sum_by_puts_entry}
use Rattle.cache_types.specs.declared.seat.Who.{Who}
use Rattle.cache_types.specs.Seats.{same_seat}
use Rattle.file_model.specs.declared.operations.OpenOperation.{OpenOperation}
use Rattle.file_model.specs.Operations.{operation_of, course_from, is_whole}
use Rattle.file_model.specs.Room.{ends, ends_of, AreSame}

abbrev weight : OpenOperation → ℕ
weight x = ends_of x.hurt

abbrev whole : OpenOperation
whole = record { hurt = false }

abbrev hurt : OpenOperation
hurt = record { hurt = true }

-- of a seat's operation, 0 where none is open
abbrev ends_at : Option OpenOperation → ℕ
ends_at o = unwrap_or (option_map weight o) 0

pub whole_is : (o : Option OpenOperation) → is_whole o ≡ true → o ≡ Some whole
whole_is None e = absurd cc
whole_is (Some x) e = ap (λ (b : Bool). Some (record { hurt = b })) (not_hurt x.hurt e)
  where
    not_hurt : (b : Bool) → not b ≡ true → b ≡ false
    not_hurt true e = absurd cc
    not_hurt false e = refl

module _ {S : Type 0} (old new : HashMap Who OpenOperation S) where
  pub AreSame-reordered : IsReordered same_seat old new → AreSame old new
  AreSame-reordered h = record { courses = λ w. ap course_from (h.2 w); ends_are = sum_by_values_permutation weight old.entries new.entries h.0 }

  module _ (who : Who) where
    ends-put : (x : OpenOperation) (was : Option OpenOperation) → was ≡ operation_of old who → PutsEntry same_seat old new who x was → ends new + ends_at was ≡ ends old + ends_of x.hurt
    ends-put x was = sum_by_puts_entry weight same_seat old new who x was

    pub ends-begun : {E : Type 0} (result : Result (Option OpenOperation) E) → IsOk result → IfOk result (λ was. was ≡ operation_of old who) → IfOk result (PutsEntry same_seat old new who whole) → ends new ≤ ends old + 2
    ends-begun (Ok was) ok is put = omega (arith, ends-put whole was is put)
    ends-begun (Err e) ok is put = absurd cc

    pub ends-hurt : operation_of old who ≡ Some whole → new.entries ≡ set_value (same_seat who) old.entries hurt → ends new + 1 ≡ ends old
    ends-hurt is h =
        let moved : ends new + 2 ≡ ends old + 1 = rw h (sum_by-set_value weight (same_seat who) old.entries whole hurt is) in
        omega (arith, moved)

    pub ends-ended : (x : OpenOperation) → operation_of old who ≡ Some x → IsPermutation (remove_entry (same_seat who) old.entries) new.entries → ends new + ends_of x.hurt ≡ ends old
    ends-ended x is h =
        let same = sum_by_values_permutation weight (remove_entry (same_seat who) old.entries) new.entries h in
        let less = sum_by-remove_entry weight (same_seat who) old.entries in
        let had : ends_at (operation_of old who) ≡ ends_of x.hurt = ap ends_at is in
        omega (arith, same, less, had)
