-- A call of the program among seats that keep the rules.
use Rattle.std.proofs.Common.{◌≡◌, ◌⊎◌, inl, inr, ℕ, true, List, Option, Some, refl, sym, ◌∙◌, subst}
use Rattle.std.proofs.lemmas.Bool.{false≢true}
use Rattle.cache_types.specs.Driver.{DriverKeys}
use Rattle.cache_types.specs.declared.answer.Answer.{Answer}
use Rattle.cache_types.specs.declared.answer.Answer.TheVariants as answers
use Rattle.cache_types.specs.declared.key.Key.{Key}
use Rattle.cache_types.specs.declared.meta.Meta.{Meta}
use Rattle.cache_types.specs.declared.seat.Who.{Who}
use Rattle.cmd_words.specs.declared.command.Command.{Command}
use Rattle.cmd_words.specs.declared.word.Word.{Word}
use Rattle.cmd_words.specs.declared.word.Word.TheVariants as commands
use Rattle.cmd_words.specs.Asked.{driver_asked}
use Rattle.file_log.specs.Log.{History}
use Rattle.file_log.specs.Told.{Grows}
use Rattle.file_log.proofs.All.{none_keeps}
use Rattle.file_log.proofs.Logs.{nothing_yet}
use Rattle.seat_rules.specs.Changes.{with_item}
use Rattle.layout_rules.specs.Rules.{KeepsRules}
use Rattle.folder_store.specs.Keeping.{HasKept, OthersKeepRules, WasLacking}
use Rattle.folder_store.specs.Lookup.{IsLookupAnswer}
use Rattle.folder_store.specs.Put.{IsPutAnswer}
use Rattle.folder_store.proofs.Operations.{Grows-map}
use Rattle.op_union.specs.Cooperating.{KeepsOwn}
use Rattle.op_union.specs.Requests.{Operates}
use Rattle.op_union.proofs.Among.{AsksFolder, own_kept, keeps_own}
use Rattle.report_text.specs.declared.status.Status.{Status}
use Rattle.report_text.specs.declared.status.Status.TheVariants as statuses
use Rattle.report_text.specs.Outcomes.{status_of_answer}
use Rattle.settings_read.specs.Variables.{Environment}
use Rattle.cache_main.specs.Cooperating.{WasMissing}
use Rattle.cache_main.specs.Ends.{Ends}
use Rattle.cache_main.specs.Printing.{IsWritten}
use Rattle.cache_main.specs.Requests.{request_for, request_of}
use Rattle.cache_main.specs.Served.{OperationServed, ServedBy}
use Rattle.cache_main.specs.Top.{IsRefused, IsUnread, AsksNoFiles}
use Rattle.cache_main.specs.Words.{IsOperation, is_served}

-- ---- own items keep the rules

-- a log that didn't grow breaks none
rests : (me : Who) (old : Option History) → Grows old old (KeepsOwn me)
rests me old = Grows-map old old _ _ (nothing_yet me old) (λ h news o. own_kept me h news (λ kept. none_keeps with_item KeepsRules me h news o.own_items))

pub stays : (me : Who) (old new : Option History) → new ≡ old → Grows old new (KeepsOwn me)
stays me old new same = subst (λ (o : Option History). Grows old o (KeepsOwn me)) (sym same) (rests me old)

-- what a put and a get ask is in a folder store
asks_folder : (word : Word) (driver : DriverKeys) (max : ℕ) (key : Key) (meta : Meta) (blob : List ℕ) → AsksFolder (request_for word driver max key meta blob)
asks_folder commands.Put driver max key meta blob = tt
asks_folder word driver max key meta blob = refl

-- ---- a miss

lookup_missed : (a : Answer) → IsLookupAnswer a → status_of_answer a ≡ statuses.Miss → a ≡ answers.Miss
lookup_missed (answers.Hit blob) k e = absurd cc
lookup_missed answers.Miss k e = refl
lookup_missed answers.FilesFault k e = absurd cc
lookup_missed answers.NoMemory k e = absurd cc
lookup_missed a k e = absurd k

put_missed : (a : Answer) → IsPutAnswer a → status_of_answer a ≡ statuses.Miss → ⊥
put_missed answers.Stored k e = cc
put_missed answers.Kept k e = cc
put_missed answers.Busy k e = cc
put_missed answers.FilesFault k e = cc
put_missed answers.NoMemory k e = cc
put_missed a k e = k

large_missed : (a : Answer) (n : ℕ) → (a ≡ answers.TooLarge n) ⊎ (a ≡ answers.NoMemory) → status_of_answer a ≡ statuses.Miss → ⊥
large_missed a n (inl is) e = let clash : statuses.TooLarge n ≡ statuses.Miss = subst (λ (b : Answer). status_of_answer b ≡ statuses.Miss) is e in cc
large_missed a n (inr is) e = let clash : statuses.NoMemory ≡ statuses.Miss = subst (λ (b : Answer). status_of_answer b ≡ statuses.Miss) is e in cc

-- what was written whole ends as it has to
missed : (bytes : List ℕ) (ending status : Status) (old new : Option (List ℕ)) (before now : ℕ) → IsWritten bytes ending status old new before now → status ≡ statuses.Miss → ending ≡ statuses.Miss
missed bytes ending status old new before now (inl whole) e = sym whole.0 ∙ e
missed bytes ending status old new before now (inr cut) e = let clash : statuses.WriteFault ≡ statuses.Miss = sym cut.0 ∙ e in absurd cc

module _ (me : Who) (old new : Option History) (before now : ℕ) where
  abbrev Lacks : DriverKeys → Key → Type 0
  Lacks driver key = Grows old new (λ h news. HasKept h → OthersKeepRules me h news → WasLacking me 0 driver key h news)

  -- a get alone ends in a miss
  operation_missed : (word : Word) (driver : DriverKeys) (max : ℕ) (key : Key) (meta : Meta) (blob : List ℕ) (a : Answer) → IsOperation word → status_of_answer a ≡ statuses.Miss → Operates me (request_for word driver max key meta blob) old new before now a
      → (word ≡ commands.Get) × Lacks driver key
  operation_missed commands.Put driver max key meta blob a operates e (inl put) = absurd (put_missed a put.1.kind e)
  operation_missed commands.Put driver max key meta blob a operates e (inr large) = absurd (large_missed a _ large.1.answer_is e)
  operation_missed commands.Get driver max key meta blob a operates e done =
      (refl, Grows-map old new _ _ done.told (λ h news looks kept others. looks.misses (refl, refl, refl) kept others (lookup_missed a done.kind e)))
  operation_missed word driver max key meta blob a operates e done = absurd operates

  module _ (command : Command) (vars : Environment) (status : Status) (left left' written written' : Option (List ℕ)) (failed failed' : ℕ) where
    served_keeps : (word : Word) → ((IsOperation word → ⊥) → new ≡ old) → ServedBy word command vars me status old new before now left left' written written' failed failed' → Grows old new (KeepsOwn me)
    served_keeps commands.Key none s = stays me old new (none (λ operation. operation))
    served_keeps commands.Settings none s = stays me old new (none (λ operation. operation))
    served_keeps word none s = keeps_own me old new before now s.answer (request_of command s.settings s.key s.meta s.blob) (asks_folder command.word (driver_asked command) s.settings.max s.key s.meta s.blob) s.done

    operation_missing : IsOperation command.word → status ≡ statuses.Miss → OperationServed command vars me status old new before now left left' written written' failed failed' → WasMissing command me old new
    operation_missing operates e s =
        let m = operation_missed command.word (driver_asked command) s.settings.max s.key s.meta s.blob s.answer operates (missed _ (status_of_answer s.answer) status written written' failed failed' s.printed e) s.done in
        record { gets = m.0; key = s.key; spells = s.spells; lacking = m.1 }

    served_missed : (word : Word) → command.word ≡ word → is_served word ≡ true → status ≡ statuses.Miss → ServedBy word command vars me status old new before now left left' written written' failed failed' → WasMissing command me old new
    served_missed commands.Key is served e s = let clash : statuses.Ok ≡ statuses.Miss = missed _ statuses.Ok status written written' failed failed' s.printed e in absurd cc
    served_missed commands.Settings is served e s = let clash : statuses.Ok ≡ statuses.Miss = missed _ statuses.Ok status written written' failed failed' s.printed e in absurd cc
    served_missed commands.Put is served e s = operation_missing (subst IsOperation (sym is) tt) e s
    served_missed commands.Get is served e s = operation_missing (subst IsOperation (sym is) tt) e s
    served_missed word is served e s = absurd (false≢true served)

    module _ {Files Source Sink : Type 0} (lost lost' : ℕ) (ends : Ends (Some command) vars me status Files Source Sink old new before now left left' lost lost' written written' failed failed') where
      abbrev Outcome : Type 0
      Outcome = IsRefused status ⊎ IsUnread status ⊎ ((status ≡ statuses.NoMemory) × Files × Sink) ⊎ ServedBy command.word command vars me status old new before now left left' written written' failed failed'

      -- However a call ends, its seat is not the first to break a rule.
      pub ends_keep : (Files → new ≡ old) → (AsksNoFiles (Some command) → Files) → Grows old new (KeepsOwn me)
      ends_keep same none = by_outcome ends.served
        where
          by_outcome : Outcome → Grows old new (KeepsOwn me)
          by_outcome (inl refused) = stays me old new (same (ends.refused refused).0)
          by_outcome (inr (inl unread)) = stays me old new (same (ends.unread unread).0)
          by_outcome (inr (inr (inl lack))) = stays me old new (same lack.1)
          by_outcome (inr (inr (inr served))) = served_keeps command.word (λ no. same (none no)) served

      -- Where it ends in a miss, its store was lacking.
      pub ends_missed : is_served command.word ≡ true → status ≡ statuses.Miss → WasMissing command me old new
      ends_missed serves e = by_outcome ends.served
        where
          by_outcome : Outcome → WasMissing command me old new
          by_outcome (inl refused) = absurd (subst IsRefused e refused)
          by_outcome (inr (inl unread)) = absurd (subst IsUnread e unread)
          by_outcome (inr (inr (inl lack))) = let clash : statuses.NoMemory ≡ statuses.Miss = sym lack.0 ∙ e in absurd cc
          by_outcome (inr (inr (inr served))) = served_missed command.word refl serves e served
