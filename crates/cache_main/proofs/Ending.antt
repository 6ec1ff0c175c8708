-- How a put or a get ends.
use Rattle.std.proofs.Common.{◌≡◌, ◌≤◌, ◌<◌, ◌⊎◌, inl, inr, ℕ, List, length, Option, Some, None, refl, sym, ap, subst, arith}
use Rattle.cache_types.specs.declared.answer.Answer.{Answer}
use Rattle.cache_types.specs.declared.answer.Answer.TheVariants as answers
use Rattle.cache_types.specs.declared.key.Key.{Key}
use Rattle.cache_types.specs.declared.limits.TheConstants.{MAX_BLOB}
use Rattle.cache_types.specs.declared.meta.Meta.{Meta}
use Rattle.cache_types.specs.declared.seat.Who.{Who}
use Rattle.cache_types.specs.Driver.{DriverKeys}
use Rattle.cmd_words.specs.declared.command.Command.{Command}
use Rattle.cmd_words.specs.declared.word.Word.{Word}
use Rattle.cmd_words.specs.declared.word.Word.TheVariants as commands
use Rattle.cmd_words.specs.Asked.{driver_asked}
use Rattle.file_log.specs.Log.{History}
use Rattle.file_log.specs.Told.{Rose}
use Rattle.op_union.specs.Requests.{Operates}
use Rattle.report_text.specs.declared.status.Status.{Status}
use Rattle.report_text.specs.declared.status.Status.TheVariants as statuses
use Rattle.settings_read.specs.Variables.{Environment}
use Rattle.cache_main.specs.declared.admission.Admitted.{Admitted}
use Rattle.cache_main.specs.Admission.{Admits, RefusesOperation}
use Rattle.cache_main.specs.Ends.{Ends}
use Rattle.cache_main.specs.Keys.{HasKeys}
use Rattle.cache_main.specs.Reading.{EndsUnread}
use Rattle.cache_main.specs.Requests.{request_for, request_of, IsBlobFor}
use Rattle.cache_main.specs.Served.{ServedBy, OperationServed}
use Rattle.cache_main.specs.Settings.{over_of, LiesInFolder, LiesElsewhere}
use Rattle.settings_read.specs.Settings.{IsOff, HasNoRoot, HasTooMany}
use Rattle.cache_main.specs.Top.{EndsExactly, IsRefused, IsUnread, ComesToRead, HasLargeSource}
use Rattle.cache_main.specs.Words.{NeedsSettings, IsOperation, ReadsSource}
use Rattle.cache_main.proofs.Exact.{refusal, success, step_ends, not_after, never}
use Rattle.cache_main.proofs.Excluded.{comes_through}
use Rattle.cache_main.proofs.Statuses.{IsEnd, lookup_ends, put_ends, never_refused, from_files, from_sink, printed_later}

-- a put and a get need settings
needs : (word : Word) → IsOperation word → NeedsSettings word
needs commands.Put operation = tt
needs commands.Get operation = tt
needs word operation = absurd operation

-- only a put of them comes to read the source, where its store is built and its keys are keys
comes : (word : Word) (command : Command) (vars : Environment) → IsOperation word → ComesToRead word command vars → LiesInFolder command vars × HasKeys command
comes commands.Put command vars operation c = c
comes commands.Get command vars operation c = absurd c
comes word command vars operation c = absurd operation

-- of an operation, what is served is one
served_by : (word : Word) (command : Command) (vars : Environment) (me : Who) (status : Status) (old new : Option History) (before now : ℕ) (left left' written written' : Option (List ℕ)) (failed failed' : ℕ)
    → IsOperation word → OperationServed command vars me status old new before now left left' written written' failed failed' → ServedBy word command vars me status old new before now left left' written written' failed failed'
served_by commands.Put command vars me status old new before now left left' written written' failed failed' operation s = s
served_by commands.Get command vars me status old new before now left left' written written' failed failed' operation s = s
served_by word command vars me status old new before now left left' written written' failed failed' operation s = absurd operation

-- what refuses it is a refusal, or want of memory
refused_or_none : (status : Status) → RefusesOperation status → IsRefused status ⊎ (status ≡ statuses.NoMemory)
refused_or_none statuses.Off may = inl tt
refused_or_none statuses.NoRoot may = inl tt
refused_or_none (statuses.TooManyReadOnly n) may = inl tt
refused_or_none statuses.NotBuilt may = inl tt
refused_or_none statuses.BadKey may = inl tt
refused_or_none statuses.NoMemory may = inr refl
refused_or_none status may = absurd may

not_unread : (status : Status) → RefusesOperation status → IsUnread status → ⊥
not_unread statuses.Off may unread = unread
not_unread statuses.NoRoot may unread = unread
not_unread (statuses.TooManyReadOnly n) may unread = unread
not_unread statuses.NotBuilt may unread = unread
not_unread statuses.BadKey may unread = unread
not_unread statuses.NoMemory may unread = unread
not_unread status may unread = may

unread_or_none : (status : Status) (left left' : Option (List ℕ)) (lost lost' : ℕ) → EndsUnread status left left' lost lost' → IsUnread status ⊎ (status ≡ statuses.NoMemory)
unread_or_none statuses.ReadFault left left' lost lost' ends = inl tt
unread_or_none (statuses.TooLarge count) left left' lost lost' ends = inl tt
unread_or_none statuses.NoMemory left left' lost lost' ends = inr refl
unread_or_none status left left' lost lost' ends = absurd ends

not_refused : (status : Status) (left left' : Option (List ℕ)) (lost lost' : ℕ) → EndsUnread status left left' lost lost' → IsRefused status → ⊥
not_refused statuses.ReadFault left left' lost lost' ends refused = refused
not_refused (statuses.TooLarge count) left left' lost lost' ends refused = refused
not_refused statuses.NoMemory left left' lost lost' ends refused = refused
not_refused status left left' lost lost' ends refused = ends

-- where it comes to read the source, what refuses it is want of memory
refused_large : (command : Command) (vars : Environment) (status : Status) (left : Option (List ℕ)) → IsOperation command.word → Admits command vars (refusal Admitted status) → HasLargeSource (Some command) vars left → IsUnread status ⊎ (status ≡ statuses.NoMemory)
refused_large command vars status None operation admits large = absurd large
refused_large command vars status (Some bytes) operation admits large =
    let good = comes command.word command vars operation large.0 in
    inr (comes_through command vars status admits.refused admits good.0 good.1)

-- a get or a put was done, and a fault of the files has its cause
pub record Done (answer : Answer) (before now : ℕ) : Type 0 where
  pub kind : IsEnd answer
  pub cause : answer ≡ answers.FilesFault → Rose before now

done_so : (word : Word) (driver : DriverKeys) (max : ℕ) (key : Key) (meta : Meta) (blob : List ℕ) (me : Who) (old new : Option History) (before now : ℕ) (left left' : Option (List ℕ)) (answer : Answer)
    → IsOperation word → IsBlobFor word left left' blob → Operates me (request_for word driver max key meta blob) old new before now answer → Done answer before now
done_so commands.Get driver max key meta blob me old new before now left left' answer operation taken done = record { kind = lookup_ends answer done.kind; cause = done.cause }
done_so commands.Put driver max key meta blob me old new before now left left' answer operation taken done = elim done [
  | inl put ↦ record { kind = put_ends answer put.1.kind; cause = put.1.cause }
  | inr large ↦ absurd (omega (arith, taken.fits, large.0))
]
done_so word driver max key meta blob me old new before now left left' answer operation taken done = absurd operation

-- a blob that fits isn't a large source
small_for : (word : Word) (command : Command) (vars : Environment) (bytes blob : List ℕ) (left' : Option (List ℕ)) → IsOperation word → IsBlobFor word (Some bytes) left' blob → ComesToRead word command vars → MAX_BLOB < length bytes → ⊥
small_for commands.Put command vars bytes blob left' operation taken reads large = omega (arith, taken.fits, ap length taken.whole.0)
small_for commands.Get command vars bytes blob left' operation taken reads large = reads
small_for word command vars bytes blob left' operation taken reads large = operation

small : (command : Command) (vars : Environment) (left left' : Option (List ℕ)) (blob : List ℕ) → IsOperation command.word → IsBlobFor command.word left left' blob → HasLargeSource (Some command) vars left → ⊥
small command vars None left' blob operation taken large = large
small command vars (Some bytes) left' blob operation taken large = small_for command.word command vars bytes blob left' operation taken large.0 large.1

module _ (command : Command) (vars : Environment) (me : Who) (operation : IsOperation command.word) where
  -- ---- what is wrong is found before anything is done

  pub refused_ends : {Files Source Sink : Type 0} (status : Status) (old : Option History) (before : ℕ) (left : Option (List ℕ)) (lost : ℕ) (written : Option (List ℕ)) (failed : ℕ)
      → Admits command vars (refusal Admitted status) → Files → Source → Sink → Ends (Some command) vars me status Files Source Sink old old before before left left lost lost written written failed failed
  refused_ends status old before left lost written failed admits files source sink =
      let need = needs command.word operation in
      record {
        read = λ e. subst RefusesOperation e admits.refused;
        off = step_ends Admitted status statuses.Off (λ p. (need, p)) (λ p. p.1) admits.off;
        no_root = step_ends Admitted status statuses.NoRoot (λ p. (need, p)) (λ p. p.1) admits.no_root;
        too_many = λ n. step_ends Admitted status (statuses.TooManyReadOnly n) (λ p. (need, p)) (λ p. p.1) (admits.too_many n);
        not_built = step_ends Admitted status statuses.NotBuilt (λ p. (operation, p)) (λ p. p.1) admits.not_built;
        bad_key = step_ends Admitted status statuses.BadKey (λ p. (operation, p.0, p.1)) (λ p. (p.1, p.2)) admits.bad_key;
        refused = λ e. (files, source, sink);
        read_fault = λ e. absurd (subst RefusesOperation e admits.refused);
        too_large = λ count e. absurd (subst RefusesOperation e admits.refused);
        large = refused_large command vars status left operation admits;
        unread = λ e. absurd (not_unread status admits.refused e);
        served = elim (refused_or_none status admits.refused) [ inl r ↦ inl r | inr none ↦ inr (inr (inl (none, files, sink))) ];
        files_fault = λ e. absurd (subst RefusesOperation e admits.refused);
        write_fault = λ e. absurd (subst RefusesOperation e admits.refused);
        counts = (omega arith, omega arith, omega arith);
      }

  -- ---- after the words and the variables were found good

  module _ (admitted : Admitted) (admits : Admits command vars (success admitted)) where
    -- none of their refusals comes
    not_off : (status : Status) → (status ≡ statuses.Off → ⊥) → EndsExactly status statuses.Off (NeedsSettings command.word × IsOff vars)
    not_off status other = never status statuses.Off statuses.NoMemory other (λ p. not_after admitted statuses.Off admits.off p.1)

    not_rootless : (status : Status) → (status ≡ statuses.NoRoot → ⊥) → EndsExactly status statuses.NoRoot (NeedsSettings command.word × HasNoRoot vars (over_of command))
    not_rootless status other = never status statuses.NoRoot statuses.NoMemory other (λ p. not_after admitted statuses.NoRoot admits.no_root p.1)

    not_many : (status : Status) (n : ℕ) → (status ≡ statuses.TooManyReadOnly n → ⊥) → EndsExactly status (statuses.TooManyReadOnly n) (NeedsSettings command.word × HasTooMany vars (over_of command) n)
    not_many status n other = never status (statuses.TooManyReadOnly n) statuses.NoMemory other (λ p. not_after admitted (statuses.TooManyReadOnly n) (admits.too_many n) p.1)

    not_elsewhere : (status : Status) → (status ≡ statuses.NotBuilt → ⊥) → EndsExactly status statuses.NotBuilt (IsOperation command.word × LiesElsewhere command vars)
    not_elsewhere status other = never status statuses.NotBuilt statuses.NoMemory other (λ p. not_after admitted statuses.NotBuilt admits.not_built p.1)

    not_bad : (status : Status) → (status ≡ statuses.BadKey → ⊥) → EndsExactly status statuses.BadKey (IsOperation command.word × LiesInFolder command vars × (HasKeys command → ⊥))
    not_bad status other = never status statuses.BadKey statuses.NoMemory other (λ p. not_after admitted statuses.BadKey admits.bad_key (p.1, p.2))

    -- the source gave no blob, or there was no memory for what is asked
    pub stopped_ends : {Files Source Sink : Type 0} (status : Status) (old : Option History) (before : ℕ) (left left' : Option (List ℕ)) (lost lost' : ℕ) (written : Option (List ℕ)) (failed : ℕ)
        → EndsUnread status left left' lost lost' → (IsUnread status → ReadsSource command.word) → lost ≤ lost' → Files → Sink → Ends (Some command) vars me status Files Source Sink old old before before left left' lost lost' written written failed failed
    stopped_ends status old before left left' lost lost' written failed ends reads later files sink =
        let Unread : Status → Type 0 = λ s. EndsUnread s left left' lost lost' in
        record {
          read = λ e. subst Unread e ends;
          off = not_off status (λ e. subst Unread e ends);
          no_root = not_rootless status (λ e. subst Unread e ends);
          too_many = λ n. not_many status n (λ e. subst Unread e ends);
          not_built = not_elsewhere status (λ e. subst Unread e ends);
          bad_key = not_bad status (λ e. subst Unread e ends);
          refused = λ e. absurd (not_refused status left left' lost lost' ends e);
          read_fault = λ e. (reads (subst IsUnread (sym e) tt), subst Unread e ends);
          too_large = λ count e. record { asks = reads (subst IsUnread (sym e) tt); taken = subst Unread e ends };
          large = λ l. unread_or_none status left left' lost lost' ends;
          unread = λ e. (files, sink);
          served = elim (unread_or_none status left left' lost lost' ends) [ inl u ↦ inr (inl u) | inr none ↦ inr (inr (inl (none, files, sink))) ];
          files_fault = λ e. absurd (subst Unread e ends);
          write_fault = λ e. absurd (subst Unread e ends);
          counts = (omega arith, later, omega arith);
        }

    -- ---- the operation was done

    module _ (status : Status) (old new : Option History) (before now : ℕ) (left left' : Option (List ℕ)) (lost lost' : ℕ) (written written' : Option (List ℕ)) (failed failed' : ℕ)
        (s : OperationServed command vars me status old new before now left left' written written' failed failed') where
      done : Done s.answer before now
      done = done_so command.word (driver_asked command) s.settings.max s.key s.meta s.blob me old new before now left left' s.answer operation s.taken s.done

      never_so : IsRefused status ⊎ IsUnread status → ⊥
      never_so e = never_refused (request_of command s.settings s.key s.meta s.blob) s.answer done.kind status written written' failed failed' s.printed e

      pub operated_ends : {Files Source Sink : Type 0} → lost ≤ lost' → before ≤ now → Ends (Some command) vars me status Files Source Sink old new before now left left' lost lost' written written' failed failed'
      operated_ends later passed =
          let refused : IsRefused status → ⊥ = λ e. never_so (inl e) in
          let unread : IsUnread status → ⊥ = λ e. never_so (inr e) in
          record {
            read = λ e. refused (subst IsRefused (sym e) tt);
            off = not_off status (λ e. refused (subst IsRefused (sym e) tt));
            no_root = not_rootless status (λ e. refused (subst IsRefused (sym e) tt));
            too_many = λ n. not_many status n (λ e. refused (subst IsRefused (sym e) tt));
            not_built = not_elsewhere status (λ e. refused (subst IsRefused (sym e) tt));
            bad_key = not_bad status (λ e. refused (subst IsRefused (sym e) tt));
            refused = λ e. absurd (refused e);
            read_fault = λ e. absurd (unread (subst IsUnread (sym e) tt));
            too_large = λ count e. absurd (unread (subst IsUnread (sym e) tt));
            large = λ l. absurd (small command vars left left' s.blob operation s.taken l);
            unread = λ e. absurd (unread e);
            served = inr (inr (inr (served_by command.word command vars me status old new before now left left' written written' failed failed' operation s)));
            files_fault = λ e. done.cause (from_files (request_of command s.settings s.key s.meta s.blob) s.answer done.kind status written written' failed failed' s.printed e);
            write_fault = λ e. from_sink (request_of command s.settings s.key s.meta s.blob) s.answer done.kind status written written' failed failed' s.printed e;
            counts = (passed, later, printed_later (request_of command s.settings s.key s.meta s.blob) s.answer status written written' failed failed' s.printed);
          }
