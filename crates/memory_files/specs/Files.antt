-- What files in memory show.
use Rattle.std.specs.Prelude.{◌≡◌}
use Rattle.file_log.specs.declared.call.Call.{Call}
use Rattle.file_model.specs.Held.{Held}
use Rattle.memory_files.specs.declared.files.MemFiles.{MemFiles}
use Rattle.memory_files.specs.declared.plan.Plan.{Plan}
use Rattle.memory_files.specs.Plans.{counted}

-- the world that they are
abbrev pub world_of : MemFiles → Held
world_of files = files.world

-- which of their calls are to fail
abbrev pub plan_of : MemFiles → Plan
plan_of files = files.plan

-- the call was counted in the plan
abbrev pub IsCounted : Plan → Call → Plan → Type 0
IsCounted old call new = (new.faults.items, new.calls) ≡ counted old call
