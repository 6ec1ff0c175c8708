-- For how many Ends and failures a world keeps memory, so that they are never refused.
use Rattle.std.specs.Prelude.{◌≡◌, ℕ, Bool, true, false}
use Rattle.std.specs.HashMap.{HashMap, values}
use Rattle.std.specs.List.{sum_by}
use Rattle.cache_types.specs.declared.seat.Who.{Who}
use Rattle.file_model.specs.declared.operations.OpenOperation.{OpenOperation}
use Rattle.file_model.specs.Operations.{course_in}

-- an open operation has an End to come, and one failure while it has none yet
abbrev pub ends_of : Bool → ℕ
ends_of true = 1
ends_of false = 2

module _ {S : Type 0} where
  abbrev pub ends : HashMap Who OpenOperation S → ℕ
  ends operations = sum_by (λ (x : OpenOperation). ends_of x.hurt) (values operations)

  -- each seat's course is the same, and so are the Ends and failures to come
  pub record AreSame (old new : HashMap Who OpenOperation S) : Type 0 where
    pub courses : (who : Who) → course_in new who ≡ course_in old who
    pub ends_are : ends new ≡ ends old
