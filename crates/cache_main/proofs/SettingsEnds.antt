-- How `settings` ends.
use Rattle.std.proofs.Common.{◌≡◌, ◌≤◌, ◌⊎◌, inl, inr, ℕ, List, Option, Some, None, refl, sym, subst, ◌∙◌, arith}
use Rattle.cache_types.specs.declared.seat.Who.{Who}
use Rattle.cmd_words.specs.declared.command.Command.{Command}
use Rattle.cmd_words.specs.declared.word.Word.{Word}
use Rattle.cmd_words.specs.declared.word.Word.TheVariants as commands
use Rattle.file_log.specs.Log.{History}
use Rattle.file_log.specs.Told.{Rose}
use Rattle.report_text.specs.declared.status.Status.{Status}
use Rattle.report_text.specs.declared.status.Status.TheVariants as statuses
use Rattle.settings_read.specs.Variables.{Environment}
use Rattle.cache_main.specs.Ends.{Ends, SettingsEnd}
use Rattle.cache_main.specs.Printing.{IsWritten}
use Rattle.cache_main.specs.Served.{ServedBy}
use Rattle.cache_main.specs.Settings.{IsSettingsRefusal}
use Rattle.cache_main.specs.Top.{IsRefused, IsUnread, ComesToRead, HasLargeSource}
use Rattle.cache_main.specs.Words.{NeedsSettings, IsOperation}
use Rattle.cache_main.proofs.Exact.{never}

-- ---- statuses

-- what was written ends well, or in a write fault
abbrev pub EndsWritten : Status → Type 0
EndsWritten statuses.Ok = Unit {0}
EndsWritten statuses.WriteFault = Unit {0}
EndsWritten status = ⊥

ends_written : (bytes : List ℕ) (status : Status) (old new : Option (List ℕ)) (before now : ℕ) → IsWritten bytes statuses.Ok status old new before now → EndsWritten status
ends_written bytes status old new before now (inl p) = subst EndsWritten (sym p.0) tt
ends_written bytes status old new before now (inr p) = subst EndsWritten (sym p.0) tt

written_later : (bytes : List ℕ) (status : Status) (old new : Option (List ℕ)) (before now : ℕ) → IsWritten bytes statuses.Ok status old new before now → before ≤ now
written_later bytes status old new before now (inl p) = p.1.later
written_later bytes status old new before now (inr p) = p.1.later

write_fault_rose : (bytes : List ℕ) (status : Status) (old new : Option (List ℕ)) (before now : ℕ) → IsWritten bytes statuses.Ok status old new before now → status ≡ statuses.WriteFault → Rose before now
write_fault_rose bytes status old new before now (inl p) e = let clash : statuses.Ok ≡ statuses.WriteFault = sym p.0 ∙ e in absurd cc
write_fault_rose bytes status old new before now (inr p) e = p.1.rose

written_not_refused : (status : Status) → EndsWritten status → IsRefused status → ⊥
written_not_refused statuses.Ok w r = r
written_not_refused statuses.WriteFault w r = r
written_not_refused status w r = w

written_not_unread : (status : Status) → EndsWritten status → IsUnread status → ⊥
written_not_unread statuses.Ok w r = r
written_not_unread statuses.WriteFault w r = r
written_not_unread status w r = w

-- ---- `settings`

settings_refused_or_none : (status : Status) → IsSettingsRefusal status → IsRefused status ⊎ (status ≡ statuses.NoMemory)
settings_refused_or_none statuses.Off r = inl tt
settings_refused_or_none statuses.NoRoot r = inl tt
settings_refused_or_none (statuses.TooManyReadOnly n) r = inl tt
settings_refused_or_none statuses.NoMemory r = inr refl
settings_refused_or_none status r = absurd r

settings_not_unread : (status : Status) → IsSettingsRefusal status → IsUnread status → ⊥
settings_not_unread statuses.Off r u = u
settings_not_unread statuses.NoRoot r u = u
settings_not_unread (statuses.TooManyReadOnly n) r u = u
settings_not_unread statuses.NoMemory r u = u
settings_not_unread status r u = r

-- it ends so
abbrev pub EndsSettings : Status → Type 0
EndsSettings status = EndsWritten status ⊎ IsSettingsRefusal status

-- the store isn't asked
settings_no_operation : (word : Word) → word ≡ commands.Settings → IsOperation word → ⊥
settings_no_operation word e n = subst IsOperation e n

settings_reads_nothing : (word : Word) (command : Command) (vars : Environment) → word ≡ commands.Settings → ComesToRead word command vars → ⊥
settings_reads_nothing word command vars e c = subst (λ (w : Word). ComesToRead w command vars) e c

no_large : (command : Command) (vars : Environment) (left : Option (List ℕ)) → command.word ≡ commands.Settings → HasLargeSource (Some command) vars left → ⊥
no_large command vars None e large = large
no_large command vars (Some bytes) e large = settings_reads_nothing command.word command vars e large.0

module _ (Files Source Sink : Type 0) (command : Command) (vars : Environment) (me : Who) (status : Status) (h : Option History) (n : ℕ) (left left' : Option (List ℕ)) (lost lost' : ℕ) (written written' : Option (List ℕ)) (failed failed' : ℕ) where
  module _ (settings : command.word ≡ commands.Settings) (files : Files) (source : Source) (s : SettingsEnd command vars status Sink written written' failed failed') where
    need : NeedsSettings command.word
    need = subst NeedsSettings (sym settings) tt

    kind : EndsSettings status
    kind = elim s.ended [ inl served ↦ inl (ends_written _ status written written' failed failed' served.printed) | inr refused ↦ inr refused.0 ]

    is_not : (other : Status) → (EndsSettings other → ⊥) → status ≡ other → ⊥
    is_not other fails e = fails (subst EndsSettings e kind)

    kept : IsRefused status → Files × Source × Sink
    kept e = elim s.ended [ inl served ↦ absurd (written_not_refused status (ends_written _ status written written' failed failed' served.printed) e) | inr refused ↦ (files, source, refused.1) ]

    not_unread : IsUnread status → ⊥
    not_unread e = elim kind [ inl w ↦ written_not_unread status w e | inr r ↦ settings_not_unread status r e ]

    rose : status ≡ statuses.WriteFault → Rose failed failed'
    rose e = elim s.ended [ inl served ↦ write_fault_rose _ status written written' failed failed' served.printed e | inr refused ↦ absurd (subst IsSettingsRefusal e refused.0) ]

    no_less : (Sink → failed ≡ failed') → failed ≤ failed'
    no_less same = elim s.ended [ inl served ↦ written_later _ status written written' failed failed' served.printed | inr refused ↦ omega (arith, same refused.1) ]

    after : IsRefused status ⊎ IsUnread status ⊎ ((status ≡ statuses.NoMemory) × Files × Sink) ⊎ ServedBy command.word command vars me status h h n n left left' written written' failed failed'
    after = elim s.ended [
      | inl served ↦ inr (inr (inr (subst (λ (word : Word). ServedBy word command vars me status h h n n left left' written written' failed failed') (sym settings) served)))
      | inr refused ↦ elim (settings_refused_or_none status refused.0) [ inl r ↦ inl r | inr none ↦ inr (inr (inl (none, files, refused.1))) ]
    ]

    pub settings_ends : lost ≤ lost' → (Sink → failed ≡ failed') → Ends (Some command) vars me status Files Source Sink h h n n left left' lost lost' written written' failed failed'
    settings_ends later same = record {
      read = is_not statuses.Usage (λ e. elim e [ inl w ↦ w | inr r ↦ r ]);
      off = record { only = λ e. (need, s.off.only e); always = λ p. s.off.always p.1 };
      no_root = record { only = λ e. (need, s.no_root.only e); always = λ p. s.no_root.always p.1 };
      too_many = λ count. record { only = λ e. (need, (s.too_many count).only e); always = λ p. (s.too_many count).always p.1 };
      not_built = never status statuses.NotBuilt statuses.NoMemory (is_not statuses.NotBuilt (λ e. elim e [ inl w ↦ w | inr r ↦ r ])) (λ p. settings_no_operation command.word settings p.0);
      bad_key = never status statuses.BadKey statuses.NoMemory (is_not statuses.BadKey (λ e. elim e [ inl w ↦ w | inr r ↦ r ])) (λ p. settings_no_operation command.word settings p.0);
      refused = kept;
      read_fault = λ e. absurd (not_unread (subst IsUnread (sym e) tt));
      too_large = λ count e. absurd (not_unread (subst IsUnread (sym e) tt));
      large = λ l. absurd (no_large command vars left settings l);
      unread = λ e. absurd (not_unread e);
      served = after;
      files_fault = λ e. absurd (is_not statuses.FilesFault (λ w. elim w [ inl x ↦ x | inr r ↦ r ]) e);
      write_fault = rose;
      counts = (omega arith, later, no_less same);
    }
