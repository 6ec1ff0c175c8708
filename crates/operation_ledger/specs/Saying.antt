-- What an answer says of an operation that is held.
use Rattle.std.specs.Prelude.{Bool, true}
use Rattle.cache_types.specs.declared.answer.Answer.{Answer}
use Rattle.cache_types.specs.declared.answer.Answer.TheVariants as answers
use Rattle.log_summary.specs.Summary.{Operation}
use Rattle.operation_ledger.specs.Tries.{tries_of}
use Rattle.operation_ledger.specs.declared.operation.OpenOperation.{OpenOperation}

-- the operation, with what is held of it
abbrev pub told_of : OpenOperation → Operation
told_of x = record { request = x.request; gave = x.gave.items; failed = x.failed; row = tries_of x.tries.items; held_off = x.held_off }

-- what answers say that every request may have
abbrev pub says_any : OpenOperation → Answer → Bool
says_any x answers.Busy = x.held_off
says_any x answers.FilesFault = x.failed
says_any x answer = true
