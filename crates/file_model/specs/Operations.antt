-- The open operation of a seat.
use Rattle.std.specs.Prelude.{Bool, true, false, not, Option, Some, None}
use Rattle.std.specs.HashMap.{HashMap, get}
use Rattle.cache_types.specs.declared.seat.Who.{Who}
use Rattle.cache_types.specs.Seats.{same_seat}
use Rattle.file_log.specs.Seat.{Course}
use Rattle.file_model.specs.declared.operations.OpenOperation.{OpenOperation}

abbrev pub course_from : Option OpenOperation → Course
course_from None = record { inside = false; hurt = false }
course_from (Some operation) = record { inside = true; hurt = operation.hurt }

module _ {S : Type 0} where
  abbrev pub operation_of : HashMap Who OpenOperation S → Who → Option OpenOperation
  operation_of operations who = get same_seat operations who

  -- whether a seat has an open operation, and whether it is hurt
  abbrev pub course_in : HashMap Who OpenOperation S → Who → Course
  course_in operations who = course_from (operation_of operations who)

-- it is open and not hurt
abbrev pub is_whole : Option OpenOperation → Bool
is_whole None = false
is_whole (Some operation) = not operation.hurt
