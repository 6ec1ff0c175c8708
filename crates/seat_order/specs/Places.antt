-- Where a seat is between two items of the log.
use Rattle.std.specs.Prelude.{◌≡◌, ℕ, ◌+◌}
use Rattle.cache_types.specs.declared.answer.Answer.{Answer}
use Rattle.cache_types.specs.declared.request.Request.{Request}
use Rattle.file_log.specs.declared.call.Call.{Call}
use Rattle.file_model.specs.declared.step.Progress.{Progress}
use Rattle.file_model.specs.declared.step.Progress.TheVariants.{More, Reply}
use Rattle.op_machine.specs.declared.op.Op.{Op}
use Rattle.op_machine.specs.Machine.{Fed}

-- Where it is: in no operation; in one that has no machine yet; between two calls, with the machine that says what comes next;
-- within a call that this machine has asked for, which has made so many items; at the end, with the answer that the machine gave.
pub data Where : Type 0 where
  Outside : Where
  Begun : Request → Where
  Between : Op → Where
  Within : Op → Call → ℕ → Where
  Ending : Answer → Where

-- where a step of a call leads: to the write's next byte, or to a machine that was fed the reply
abbrev pub Leads : Op → Call → ℕ → Progress → Where → Type 0
Leads n call done More (Within n' call' done') = (n' ≡ n) × (call' ≡ call) × (done' ≡ done + 1)
Leads n call done (Reply reply) (Between n') = Fed n reply n'
Leads n call done progress place = ⊥
