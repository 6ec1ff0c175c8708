-- Which calls of files are to fail.
use Rattle.std.specs.Prelude.{ℕ, ◌+◌, ◌-◌, ◌^◌, min, nat_eq, ◌&&◌, not, Bool, true, false, List, [], ◌∷◌, map, Option, Some, None, if◌then◌else◌}
use Rattle.file_log.specs.declared.call.Call.{Call}
use Rattle.file_log.specs.declared.call.Call.TheVariants as calls
use Rattle.file_log.specs.declared.note.Note.TheVariants as notes
use Rattle.memory_files.specs.declared.plan.Fault.{Fault}
use Rattle.memory_files.specs.declared.plan.Plan.{Plan}

-- ---- which calls have a number

-- all but a Close and the Tell of an End
abbrev pub is_counted : Call → Bool
is_counted (calls.Close slot) = false
is_counted (calls.Tell (notes.End answer)) = false
is_counted call = true

abbrev pub is_tell : Call → Bool
is_tell (calls.Tell note) = true
is_tell call = false

-- the last number that there is stays
abbrev pub next_number : ℕ → ℕ
next_number n = min (n + 1) (2 ^ 64 - 1)

-- ---- the fault that stands for a call

-- of those for its number, for a Tell only one that is a want of memory
abbrev pub stands_for : ℕ → Bool → Fault → Bool
stands_for number tell fault = nat_eq fault.call number && (if tell then fault.memory else true)

-- the earliest in the plan
abbrev pub earliest : ℕ → Bool → List Fault → Option Fault
earliest number tell [] = None
earliest number tell (fault ∷ faults) = if stands_for number tell fault then Some fault else earliest number tell faults

abbrev pub fault_for : Plan → Call → Option Fault
fault_for plan call = if is_counted call then earliest plan.calls (is_tell call) plan.faults.items else None

-- ---- the plan after a call

-- a fault that is no want of memory and falls on a Tell stands for the next call
abbrev pub put_off : ℕ → Fault → Fault
put_off number fault = if nat_eq fault.call number && not fault.memory then record fault { call = next_number number } else fault

-- its faults, and how many calls there were
abbrev pub counted : Plan → Call → List Fault × ℕ
counted plan call = if is_counted call then ((if is_tell call then map (put_off plan.calls) plan.faults.items else plan.faults.items), next_number plan.calls) else (plan.faults.items, plan.calls)

-- the count of faults after a call for which this stands: a want of memory is no fault
abbrev pub faults_after : Option Fault → ℕ → ℕ
faults_after None n = n
faults_after (Some fault) n = if fault.memory then n else next_number n
