-- Which statuses a call ends with.
use Rattle.std.proofs.Common.{◌≡◌, ◌≤◌, ◌⊎◌, inl, inr, ℕ, List, Option, refl, sym, subst, ◌∙◌}
use Rattle.cache_types.specs.declared.answer.Answer.{Answer}
use Rattle.cache_types.specs.declared.answer.Answer.TheVariants as answers
use Rattle.cache_types.specs.declared.request.Request.{Request}
use Rattle.file_log.specs.Told.{Rose}
use Rattle.folder_store.specs.Lookup.{IsLookupAnswer}
use Rattle.folder_store.specs.Put.{IsPutAnswer}
use Rattle.report_text.specs.declared.status.Status.{Status}
use Rattle.report_text.specs.declared.status.Status.TheVariants as statuses
use Rattle.report_text.specs.Outcomes.{status_of_answer}
use Rattle.cache_main.specs.declared.reading.ReadRefusal.{ReadRefusal}
use Rattle.cache_main.specs.declared.reading.ReadRefusal.TheVariants as refusals
use Rattle.cache_main.specs.Printing.{IsPrinted}
use Rattle.cache_main.specs.Reading.{status_of_refusal}
use Rattle.cache_main.specs.Top.{IsRefused, IsUnread}

-- an answer that a get or a put ends with
abbrev pub IsEnd : Answer → Type 0
IsEnd (answers.Hit blob) = Unit {0}
IsEnd answers.Miss = Unit {0}
IsEnd answers.Stored = Unit {0}
IsEnd answers.Kept = Unit {0}
IsEnd answers.Busy = Unit {0}
IsEnd answers.FilesFault = Unit {0}
IsEnd answers.NoMemory = Unit {0}
IsEnd answer = ⊥

pub lookup_ends : (a : Answer) → IsLookupAnswer a → IsEnd a
lookup_ends (answers.Hit blob) k = tt
lookup_ends answers.Miss k = tt
lookup_ends answers.FilesFault k = tt
lookup_ends answers.NoMemory k = tt
lookup_ends a k = absurd k

pub put_ends : (a : Answer) → IsPutAnswer a → IsEnd a
put_ends answers.Stored k = tt
put_ends answers.Kept k = tt
put_ends answers.Busy k = tt
put_ends answers.FilesFault k = tt
put_ends answers.NoMemory k = tt
put_ends a k = absurd k

-- none of them says that the words or the source are refused
apart : (a : Answer) → IsEnd a → IsRefused (status_of_answer a) ⊎ IsUnread (status_of_answer a) → ⊥
apart (answers.Hit blob) k e = elim e [ inl r ↦ r | inr u ↦ u ]
apart answers.Miss k e = elim e [ inl r ↦ r | inr u ↦ u ]
apart answers.Stored k e = elim e [ inl r ↦ r | inr u ↦ u ]
apart answers.Kept k e = elim e [ inl r ↦ r | inr u ↦ u ]
apart answers.Busy k e = elim e [ inl r ↦ r | inr u ↦ u ]
apart answers.FilesFault k e = elim e [ inl r ↦ r | inr u ↦ u ]
apart answers.NoMemory k e = elim e [ inl r ↦ r | inr u ↦ u ]
apart a k e = k

no_write_fault : (a : Answer) → IsEnd a → status_of_answer a ≡ statuses.WriteFault → ⊥
no_write_fault (answers.Hit blob) k e = cc
no_write_fault answers.Miss k e = cc
no_write_fault answers.Stored k e = cc
no_write_fault answers.Kept k e = cc
no_write_fault answers.Busy k e = cc
no_write_fault answers.FilesFault k e = cc
no_write_fault answers.NoMemory k e = cc
no_write_fault a k e = absurd k

fault_back : (a : Answer) → IsEnd a → status_of_answer a ≡ statuses.FilesFault → a ≡ answers.FilesFault
fault_back (answers.Hit blob) k e = absurd cc
fault_back answers.Miss k e = absurd cc
fault_back answers.Stored k e = absurd cc
fault_back answers.Kept k e = absurd cc
fault_back answers.Busy k e = absurd cc
fault_back answers.FilesFault k e = refl
fault_back answers.NoMemory k e = absurd cc
fault_back a k e = absurd k

-- a put that ended as busy is one that was
pub busy_back : (a : Answer) → IsPutAnswer a → status_of_answer a ≡ statuses.Busy → a ≡ answers.Busy
busy_back answers.Stored k e = absurd cc
busy_back answers.Kept k e = absurd cc
busy_back answers.Busy k e = refl
busy_back answers.FilesFault k e = absurd cc
busy_back answers.NoMemory k e = absurd cc
busy_back a k e = absurd k

pub printed_later : (request : Request) (a : Answer) (status : Status) (old new : Option (List ℕ)) (before now : ℕ) → IsPrinted request a status old new before now → before ≤ now
printed_later request a status old new before now p = elim p [ inl whole ↦ whole.1.later | inr cut ↦ cut.1.later ]

-- of what is printed
module _ (request : Request) (a : Answer) (ends : IsEnd a) (status : Status) (old new : Option (List ℕ)) (before now : ℕ) (p : IsPrinted request a status old new before now) where
  pub never_refused : IsRefused status ⊎ IsUnread status → ⊥
  never_refused e = elim p [
    | inl whole ↦ apart a ends (subst (λ (s : Status). IsRefused s ⊎ IsUnread s) whole.0 e)
    | inr cut ↦
        let none : IsRefused statuses.WriteFault ⊎ IsUnread statuses.WriteFault = subst (λ (s : Status). IsRefused s ⊎ IsUnread s) cut.0 e in
        elim none [ inl r ↦ r | inr u ↦ u ]
  ]

  pub from_files : status ≡ statuses.FilesFault → a ≡ answers.FilesFault
  from_files e = elim p [ inl whole ↦ fault_back a ends (sym whole.0 ∙ e) | inr cut ↦ let clash : statuses.WriteFault ≡ statuses.FilesFault = sym cut.0 ∙ e in absurd cc ]

  pub from_sink : status ≡ statuses.WriteFault → Rose before now
  from_sink e = elim p [ inl whole ↦ absurd (no_write_fault a ends (sym whole.0 ∙ e)) | inr cut ↦ cut.1.rose ]

-- a source that gave no blob doesn't say that the words are refused
pub no_words : (r : ReadRefusal) → IsRefused (status_of_refusal r) → ⊥
no_words refusals.ReadFault e = e
no_words (refusals.TooLarge count) e = e
no_words refusals.NoMemory e = e
