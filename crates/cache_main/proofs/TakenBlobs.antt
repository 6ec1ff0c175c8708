-- What taking a blob from the source gave.
use Rattle.std.proofs.Common.{◌≡◌, ℕ, List, Option, Ok, Err, sym, subst}
use Rattle.cmd_words.specs.declared.word.Word.{Word}
use Rattle.cmd_words.specs.declared.word.Word.TheVariants as commands
use Rattle.report_text.specs.declared.status.Status.{Status}
use Rattle.cache_main.specs.declared.reading.ReadRefusal.{ReadRefusal}
use Rattle.cache_main.specs.declared.reading.ReadRefusal.TheVariants as refusals
use Rattle.cache_main.specs.Reading.{ReadsToEnd, EndsUnread, status_of_refusal}
use Rattle.cache_main.specs.Requests.{IsBlobFor, TakesBlob}
use Rattle.cache_main.specs.Words.{IsOperation, ReadsSource}

-- the blob that was taken
pub blob_for : (word : Word) (blob : List ℕ) (old new : Option (List ℕ)) (before now : ℕ) → IsOperation word → TakesBlob word (Ok blob) old new before now → IsBlobFor word old new blob
blob_for commands.Put blob old new before now operation taken = taken
blob_for commands.Get blob old new before now operation taken = taken
blob_for word blob old new before now operation taken = absurd operation

-- a reading that gave none
read_ends : (refusal : ReadRefusal) (old new : Option (List ℕ)) (before now : ℕ) → ReadsToEnd (Err refusal) old new before now → EndsUnread (status_of_refusal refusal) old new before now
read_ends refusals.ReadFault old new before now read = read
read_ends (refusals.TooLarge count) old new before now read = read
read_ends refusals.NoMemory old new before now read = read

taken_ends : (word : Word) (refusal : ReadRefusal) (old new : Option (List ℕ)) (before now : ℕ) → IsOperation word → TakesBlob word (Err refusal) old new before now → EndsUnread (status_of_refusal refusal) old new before now
taken_ends commands.Put refusal old new before now operation taken = read_ends refusal old new before now taken
taken_ends commands.Get refusal old new before now operation taken = absurd taken
taken_ends word refusal old new before now operation taken = absurd operation

pub ends_unread : (word : Word) (refusal : ReadRefusal) (status : Status) (old new : Option (List ℕ)) (before now : ℕ) → IsOperation word → status ≡ status_of_refusal refusal → TakesBlob word (Err refusal) old new before now → EndsUnread status old new before now
ends_unread word refusal status old new before now operation is taken = subst (λ (s : Status). EndsUnread s old new before now) (sym is) (taken_ends word refusal old new before now operation taken)

-- only a put is refused one
pub reads_source : (word : Word) (refusal : ReadRefusal) (old new : Option (List ℕ)) (before now : ℕ) → IsOperation word → TakesBlob word (Err refusal) old new before now → ReadsSource word
reads_source commands.Put refusal old new before now operation taken = tt
reads_source commands.Get refusal old new before now operation taken = taken
reads_source word refusal old new before now operation taken = absurd operation
