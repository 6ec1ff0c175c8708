-- How a put ends whose store is built and whose keys are keys.
use Rattle.std.proofs.Common.{◌≡◌, ◌≤◌, ◌⊎◌, inl, inr, ℕ, List, Option, Some, refl, sym, subst, arith}
use Rattle.cache_types.specs.declared.answer.Answer.{Answer}
use Rattle.cache_types.specs.declared.answer.Answer.TheVariants as answers
use Rattle.cache_types.specs.declared.key.Key.{Key}
use Rattle.cache_types.specs.declared.meta.Meta.{Meta}
use Rattle.cache_types.specs.declared.seat.Who.{Who}
use Rattle.cache_types.specs.Driver.{DriverKeys}
use Rattle.cmd_words.specs.declared.command.Command.{Command}
use Rattle.cmd_words.specs.declared.word.Word.{Word}
use Rattle.cmd_words.specs.declared.word.Word.TheVariants.{Put}
use Rattle.file_log.specs.Log.{History}
use Rattle.file_log.specs.Told.{Rose}
use Rattle.folder_store.specs.Put.{IsPutAnswer}
use Rattle.op_union.specs.Requests.{Operates}
use Rattle.report_text.specs.declared.status.Status.{Status}
use Rattle.report_text.specs.declared.status.Status.TheVariants as statuses
use Rattle.report_text.specs.Outcomes.{status_of_answer}
use Rattle.settings_read.specs.Variables.{Environment}
use Rattle.cache_main.specs.Keys.{HasKeys}
use Rattle.cache_main.specs.Reading.{TakesTooMany}
use Rattle.cache_main.specs.Requests.{request_for, IsBlobFor}
use Rattle.cache_main.specs.RoundTrip.{PutEnds}
use Rattle.cache_main.specs.Served.{Served, ServedBy, OperationServed}
use Rattle.cache_main.specs.Settings.{LiesInFolder}
use Rattle.cache_main.specs.Top.{IsRefused, IsUnread, RefusesSource}
use Rattle.cache_main.proofs.Asking.{of_asked}
use Rattle.cache_main.proofs.GoodWords.{RefusedWell, good_words}

-- a status that a put can end with
abbrev MayEnd : Status → Type 0
MayEnd statuses.Ok = Unit {0}
MayEnd statuses.NoMemory = Unit {0}
MayEnd statuses.Busy = Unit {0}
MayEnd statuses.FilesFault = Unit {0}
MayEnd statuses.ReadFault = Unit {0}
MayEnd statuses.WriteFault = Unit {0}
MayEnd (statuses.TooLarge count) = Unit {0}
MayEnd status = ⊥

unread_ends : (status : Status) → IsUnread status → MayEnd status
unread_ends statuses.ReadFault e = tt
unread_ends (statuses.TooLarge count) e = tt
unread_ends status e = absurd e

answer_ends : (answer : Answer) → IsPutAnswer answer → MayEnd (status_of_answer answer)
answer_ends answers.Stored k = tt
answer_ends answers.Kept k = tt
answer_ends answers.Busy k = tt
answer_ends answers.FilesFault k = tt
answer_ends answers.NoMemory k = tt
answer_ends answer k = absurd k

-- the answer of a put whose blob fits
put_kind : (word : Word) (driver : DriverKeys) (max : ℕ) (key : Key) (meta : Meta) (blob : List ℕ) (me : Who) (old new : Option History) (before now : ℕ) (left left' : Option (List ℕ)) (answer : Answer)
    → word ≡ Put → IsBlobFor word left left' blob → Operates me (request_for word driver max key meta blob) old new before now answer → IsPutAnswer answer
put_kind Put driver max key meta blob me old new before now left left' answer is taken done = elim done [
  | inl put ↦ put.1.kind
  | inr large ↦ absurd (omega (arith, taken.fits, large.0))
]
put_kind word driver max key meta blob me old new before now left left' answer is taken done = absurd cc

rose_until : (a b c : ℕ) → Rose a b → b ≤ c → Rose a c
rose_until a b c rose later = omega arith

-- what a put that was served did
pub put_served : (asked : Option Command) (vars : Environment) (command : Command) → asked ≡ Some command → command.word ≡ Put → (me : Who) (status : Status) (old new : Option History) (before now : ℕ) (left left' written written' : Option (List ℕ)) (failed failed' : ℕ)
    → Served asked vars me status old new before now left left' written written' failed failed' → OperationServed command vars me status old new before now left left' written written' failed failed'
put_served asked vars command is put me status old new before now left left' written written' failed failed' s =
    subst (λ (word : Word). ServedBy word command vars me status old new before now left left' written written' failed failed') put (of_asked asked command (λ c. ServedBy c.word c vars me status old new before now left left' written written' failed failed') is s)

module _ (asked : Option Command) (vars : Environment) (command : Command) (is : asked ≡ Some command) (put : command.word ≡ Put) (lies : LiesInFolder command vars) (keys : HasKeys command) where
  served_ends : (me : Who) (status : Status) (old new : Option History) (before now : ℕ) (left left' written written' : Option (List ℕ)) (failed failed' : ℕ) → OperationServed command vars me status old new before now left left' written written' failed failed' → MayEnd status
  served_ends me status old new before now left left' written written' failed failed' s =
      let kind = put_kind command.word _ _ s.key s.meta s.blob me old new before now left left' s.answer put s.taken s.done in
      elim s.printed [ inl p ↦ subst MayEnd (sym p.0) (answer_ends s.answer kind) | inr p ↦ subst MayEnd (sym p.0) tt ]

  pub may_end : {P Q : Type 0} (me : Who) (status : Status) (old new : Option History) (before now : ℕ) (left left' written written' : Option (List ℕ)) (failed failed' : ℕ) → RefusedWell asked vars status
      → IsRefused status ⊎ IsUnread status ⊎ ((status ≡ statuses.NoMemory) × P × Q) ⊎ Served asked vars me status old new before now left left' written written' failed failed' → MayEnd status
  may_end me status old new before now left left' written written' failed failed' r (inl refused) = absurd (good_words asked vars command is lies keys status r refused)
  may_end me status old new before now left left' written written' failed failed' r (inr (inl unread)) = unread_ends status unread
  may_end me status old new before now left left' written written' failed failed' r (inr (inr (inl none))) = subst MayEnd (sym none.0) tt
  may_end me status old new before now left left' written written' failed failed' r (inr (inr (inr s))) =
      served_ends me status old new before now left left' written written' failed failed' (put_served asked vars command is put me status old new before now left left' written written' failed failed' s)

  module _ {R : Type 0} (before between now : ℕ) (left left' left'' : Option (List ℕ)) (lost losing lost' failed failing failed' : ℕ) (later : between ≤ now) (same : left'' ≡ left') (less : losing ≤ lost') (more : failing ≤ failed') where
    pub put_ends : {Alone : Type 0} (status : Status) → MayEnd status → (status ≡ statuses.Busy → Alone → ⊥) → (status ≡ statuses.ReadFault → R × Rose lost losing) → ((count : ℕ) → status ≡ statuses.TooLarge count → RefusesSource asked count left left')
        → (status ≡ statuses.FilesFault → Rose before between) → (status ≡ statuses.WriteFault → Rose failed failing) → PutEnds Alone status before now left left'' lost lost' failed failed'
    put_ends statuses.Busy may busy read large files write = busy refl
    put_ends statuses.ReadFault may busy read large files write = rose_until lost losing lost' (read refl).1 less
    put_ends (statuses.TooLarge count) may busy read large files write = subst (TakesTooMany count left) (sym same) (large count refl).taken
    put_ends statuses.FilesFault may busy read large files write = rose_until before between now (files refl) later
    put_ends statuses.WriteFault may busy read large files write = rose_until failed failing failed' (write refl) more
    put_ends statuses.Ok may busy read large files write = tt
    put_ends statuses.NoMemory may busy read large files write = tt
    put_ends status may busy read large files write = may
