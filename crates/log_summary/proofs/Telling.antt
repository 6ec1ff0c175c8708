-- A log's summary tells its past.
use Rattle.log_summary.specs.Telling.{Tells}
use Rattle.std.proofs.Common.{◌≡◌, ℕ, List, [], ◌∷◌, ◌++◌, fold, Some, None, refl, sym, ap, ◌∙◌, subst, append_assoc, append-nil, arith}
use Rattle.std.proofs.lemmas.List.Sums.{fold-append}
use Rattle.cache_types.specs.declared.name.Name.{Name}
use Rattle.file_log.specs.State.{State, first, after, disk_of}
use Rattle.file_log.specs.declared.item.LogItem.{LogItem}
use Rattle.seat_rules.specs.Changes.{HasHad}
use Rattle.log_summary.specs.Summary.{Summary, nothing, summed, summary_of}
use Rattle.seat_rules.proofs.Along.{past}
use Rattle.log_summary.proofs.Carried.{carried_then}
use Rattle.seat_rules.proofs.Courses.{nothing_made}
use Rattle.log_summary.proofs.Files.{had_now}
use Rattle.log_summary.specs.Telling.{In}
use Rattle.log_summary.proofs.Past.{files_then, puts_then, evicts_then, calm_then}

no_file_had : (name : Name) (f : ℕ) → HasHad (past []) name f → ⊥
no_file_had name f h = by_front h.before h.later h.log_is h.named
  where
    by_front : (before later : List LogItem) → [] ≡ before ++ later → (disk_of (past before)).names name ≡ Some f → ⊥
    by_front [] later e named = let clash : None ≡ Some f = named in absurd cc
    by_front (y ∷ before) later e named = cc

tells_nothing : Tells [] nothing
tells_nothing = record {
  state = refl;
  files = record { right = λ name f i. absurd i; all = λ name f h. absurd (no_file_had name f h) };
  puts = record { right = λ p i. absurd i; all = λ at blob w. let short = w.3.1 in absurd (omega (arith, short)) };
  evicts = record { right = λ e i. absurd i; all = λ who at o. absurd (nothing_made o.before _ o.later o.log_is) };
  calm = (λ e. tt, λ q. refl);
  inside = λ who request i. absurd (nothing_made i.before _ i.since i.log_is);
}

pub tells_then : (log : List LogItem) (s : Summary) (x : LogItem) → Tells log s → Tells (log ++ x ∷ []) (summed s x)
tells_then log s x t = record {
  state = fold-append after (first []) log (x ∷ []) ∙ ap (λ (st : State). after st x) t.state;
  files = files_then log s.had s.state.disk x (ap (λ (st : State). st.disk) t.state) t.files;
  puts = puts_then log s.puts x t.puts;
  evicts = evicts_then log s.evicting x t.evicts;
  calm = calm_then log s.rough x t.calm;
  inside = λ who. carried_then log s.had s.state.disk x who (s.inside who) (ap (λ (st : State). st.disk) t.state) current (t.inside who);
}
  where
    current : (name : Name) (f : ℕ) → s.state.disk.names name ≡ Some f → In s.had (name, f)
    current name f e = t.files.all name f (had_now log name f (ap (λ (st : State). st.disk.names name) t.state ∙ e))

tells_from : (before : List LogItem) (s : Summary) (log : List LogItem) → Tells before s → Tells (before ++ log) (fold summed s log)
tells_from before s [] t = subst (λ (l : List LogItem). Tells l s) (sym (append-nil before)) t
tells_from before s (x ∷ log) t = subst (λ (l : List LogItem). Tells l (fold summed (summed s x) log)) (append_assoc before (x ∷ []) log) (tells_from (before ++ x ∷ []) (summed s x) log (tells_then before s x t))

pub tells : (log : List LogItem) → Tells log (summary_of log)
tells log = tells_from [] nothing log tells_nothing
