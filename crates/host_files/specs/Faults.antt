-- What failed, and how often.
use Rattle.std.specs.Prelude.{◌≡◌, ℕ, ◌+◌, ◌-◌, ◌^◌, min, ℤ, pos, Option, Some, None}
use Rattle.std.specs.IoError.{error_kind, raw_os_error}
use Rattle.std.specs.declared.io.Error.{Error}
use Rattle.std.specs.declared.io.ErrorKind.TheVariants as kinds
use Rattle.file_log.specs.declared.reply.Reply.{Reply}
use Rattle.file_log.specs.declared.reply.Reply.TheVariants as replies
use Rattle.files_api.specs.declared.took.Took.{Took}
use Rattle.files_api.specs.declared.took.Took.TheVariants as took
use Rattle.host_files.specs.declared.fault.Fault.{Fault}
use Rattle.host_files.specs.declared.fault.Fault.TheVariants as faults
use Rattle.host_files.specs.declared.reason.Reason.{Reason}
use Rattle.host_files.specs.declared.reason.Reason.TheVariants as reasons

-- why a call failed: the number that the system has for it, where it has one
abbrev pub reason_of : Option ℤ → Reason
reason_of (Some number) = reasons.System number
reason_of None = reasons.Other

-- why a call wasn't done; 12 is the system's number for its want of memory
abbrev pub reason_for : Fault → Reason
reason_for (faults.Failed reason) = reason
reason_for faults.NoMemory = reasons.System (pos 12)

-- an error is this fault: the system's want of memory is one of memory, and every other error a failure for its reason
pub record IsFaultOf (error : Error) (fault : Fault) : Type 0 where
  pub memory : error_kind error ≡ kinds.OutOfMemory → fault ≡ faults.NoMemory
  pub failed : (error_kind error ≡ kinds.OutOfMemory → ⊥) → fault ≡ faults.Failed (reason_of (raw_os_error error))

-- a count and one more; it ends at 2^64 - 1
abbrev pub risen : ℕ → ℕ
risen count = min (count + 1) (2 ^ 64 - 1)

-- the count of faults after a reply
abbrev pub count_after : Reply → ℕ → ℕ
count_after replies.Failed count = risen count
count_after reply count = count

-- the count of faults after a reading or a writing
abbrev pub count_taken : Took → ℕ → ℕ
count_taken took.Failed count = risen count
count_taken (took.Some n) count = count
