-- For how many Closes the memory is kept, so that they are never refused.
use Rattle.std.specs.Prelude.{ℕ, List}
use Rattle.file_log.specs.declared.call.Call.{Call}
use Rattle.file_log.specs.declared.call.Call.TheVariants as calls
use Rattle.file_log.specs.declared.reply.Reply.{Reply}
use Rattle.file_log.specs.declared.reply.Reply.TheVariants.{Done}
use Rattle.world_tables.specs.declared.parts.OpenSlot.{OpenSlot}
use Rattle.world_tables.specs.Find.{total}

-- one for the Close of each filled slot
abbrev pub closes : List OpenSlot → ℕ
closes slots = total (λ (x : OpenSlot). 1) slots

-- an opening that is answered Done has a Close to come
abbrev pub closes_by : Call → Reply → ℕ
closes_by (calls.OpenOld slot name) Done = 1
closes_by (calls.OpenNew slot name) Done = 1
closes_by call reply = 0
