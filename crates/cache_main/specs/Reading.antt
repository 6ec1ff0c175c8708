-- A source that is read to its end.
use Rattle.std.specs.Prelude.{◌≡◌, ◌≤◌, ◌+◌, ℕ, List, [], ◌++◌, length, Option, Some, None, Result, Ok, Err}
use Rattle.cache_types.specs.declared.limits.TheConstants.{MAX_BLOB}
use Rattle.file_log.specs.Told.{Rose}
use Rattle.cache_main.specs.declared.reading.ReadRefusal.{ReadRefusal}
use Rattle.cache_main.specs.declared.reading.ReadRefusal.TheVariants as refusals
use Rattle.report_text.specs.declared.status.Status.{Status}
use Rattle.report_text.specs.declared.status.Status.TheVariants as statuses

-- where the source tells its bytes, they were these and the rest, and the rest is left
abbrev pub IsTaken : Option (List ℕ) → Option (List ℕ) → List ℕ → Type 0
IsTaken None new taken = Unit {0}
IsTaken (Some bytes) new taken = (rest : List ℕ) × (bytes ≡ taken ++ rest) × (new ≡ Some rest)

-- a first part of at most so many bytes was taken
pub record TakesAtMost (most : ℕ) (old new : Option (List ℕ)) : Type 0 where
  pub part : List ℕ
  pub few : length part ≤ most
  pub taken : IsTaken old new part

-- where the source tells its bytes, they were the blob, and none is left
abbrev pub IsReadOut : Option (List ℕ) → Option (List ℕ) → List ℕ → Type 0
IsReadOut None new blob = Unit {0}
IsReadOut (Some bytes) new blob = (bytes ≡ blob) × (new ≡ Some [])

-- a blob of at most so many bytes as an entry can have, the whole of the source
pub record IsWholeBlob (old new : Option (List ℕ)) (blob : List ℕ) : Type 0 where
  pub fits : length blob ≤ MAX_BLOB
  pub whole : IsReadOut old new blob

-- one byte more than the longest blob has was taken
pub record TakesTooMany (count : ℕ) (old new : Option (List ℕ)) : Type 0 where
  pub count_is : count ≡ MAX_BLOB + 1
  pub part : List ℕ
  pub length_is : length part ≡ count
  pub taken : IsTaken old new part

-- what a reading to the end gives: the whole blob; that it is too large; that the source failed; or want of memory
abbrev pub ReadsToEnd : Result (List ℕ) ReadRefusal → Option (List ℕ) → Option (List ℕ) → ℕ → ℕ → Type 0
ReadsToEnd (Ok blob) old new before now = IsWholeBlob old new blob
ReadsToEnd (Err (refusals.TooLarge count)) old new before now = TakesTooMany count old new
ReadsToEnd (Err refusals.ReadFault) old new before now = Rose before now
ReadsToEnd (Err refusals.NoMemory) old new before now = Unit {0}

-- the status of a source that gave no blob
abbrev pub status_of_refusal : ReadRefusal → Status
status_of_refusal refusals.ReadFault = statuses.ReadFault
status_of_refusal (refusals.TooLarge count) = statuses.TooLarge count
status_of_refusal refusals.NoMemory = statuses.NoMemory

-- why nothing was done with what was read: the source failed, it has too many bytes, or there was no memory
abbrev pub EndsUnread : Status → Option (List ℕ) → Option (List ℕ) → ℕ → ℕ → Type 0
EndsUnread statuses.ReadFault old new before now = Rose before now
EndsUnread (statuses.TooLarge count) old new before now = TakesTooMany count old new
EndsUnread statuses.NoMemory old new before now = Unit {0}
EndsUnread status old new before now = ⊥
