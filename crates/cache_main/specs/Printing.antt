-- Bytes written to a sink, all of them or a first part.
use Rattle.std.specs.Prelude.{◌≡◌, ◌≤◌, ◌<◌, ◌⊎◌, ℕ, Bool, true, false, List, length, take, Option}
use Rattle.cache_types.specs.declared.answer.Answer.{Answer}
use Rattle.cache_types.specs.declared.answer.Answer.TheVariants as answers
use Rattle.cache_types.specs.declared.request.Request.{Request}
use Rattle.file_log.specs.Told.{Rose}
use Rattle.files_api.specs.Streams.{IsAdded}
use Rattle.report_text.specs.declared.status.Status.{Status}
use Rattle.report_text.specs.declared.status.Status.TheVariants.{WriteFault}
use Rattle.report_text.specs.Outcomes.{status_of_answer}
use Rattle.report_text.specs.Printed.{printed}

-- a first part of the bytes was added, and then the sink failed
pub record IsCutOff (bytes : List ℕ) (old new : Option (List ℕ)) (before now : ℕ) : Type 0 where
  pub part : ℕ
  pub short : part < length bytes
  pub added : IsAdded old new (take part bytes)
  pub rose : Rose before now
  pub later : before ≤ now

-- all of the bytes were added
pub record IsWhole (bytes : List ℕ) (old new : Option (List ℕ)) (before now : ℕ) : Type 0 where
  pub added : IsAdded old new bytes
  pub later : before ≤ now

-- all of them, or a first part
abbrev pub Writes : Bool → List ℕ → Option (List ℕ) → Option (List ℕ) → ℕ → ℕ → Type 0
Writes true bytes old new before now = IsWhole bytes old new before now
Writes false bytes old new before now = IsCutOff bytes old new before now

-- the bytes were written, and the call ends as it has to; or a first part of them, and the sink failed
abbrev pub IsWritten : List ℕ → Status → Status → Option (List ℕ) → Option (List ℕ) → ℕ → ℕ → Type 0
IsWritten bytes ending status old new before now =
    ((status ≡ ending) × IsWhole bytes old new before now)
    ⊎ ((status ≡ WriteFault) × IsCutOff bytes old new before now)

-- an answer that prints a blob, a word or nothing
abbrev pub IsBlobOrWord : Answer → Type 0
IsBlobOrWord (answers.Keys keys) = ⊥
IsBlobOrWord (answers.Rows rows) = ⊥
IsBlobOrWord (answers.Trimmed n) = ⊥
IsBlobOrWord answer = Unit {0}

-- the bytes of the answer were written, and the status is the answer's; or a first part of them, and the sink failed
abbrev pub IsPrinted : Request → Answer → Status → Option (List ℕ) → Option (List ℕ) → ℕ → ℕ → Type 0
IsPrinted request answer status old new before now = IsWritten (printed request answer) (status_of_answer answer) status old new before now
