-- What a log's summary says of its past: the files that names have had, the puts that began, the open Evicts, whether it was calm.
use Rattle.log_summary.specs.Telling.{ListsFiles, ListsPuts, ListsEvicts, TellsCalm}
use Rattle.std.proofs.Common.{◌≡◌, inl, inr, ℕ, Bool, true, false, not, ◌||◌, List, [], ◌∷◌, ◌++◌, refl, sym, ap, ◌∙◌, subst, append_assoc}
use Rattle.std.proofs.lemmas.Bool.{false≢true}
use Rattle.std.proofs.lemmas.List.Elements.{Contains-push, Contains-append_left, Contains-push_cases}
use Rattle.cache_types.specs.Seats.{same_seat}
use Rattle.cache_types.specs.declared.name.Name.{Name}
use Rattle.cache_types.specs.declared.request.Request.TheVariants as requests
use Rattle.cache_types.specs.declared.seat.Who.{Who}
use Rattle.file_log.specs.Disk.{Disk}
use Rattle.file_log.specs.Effect.{applied}
use Rattle.file_log.specs.Log.{WasPut, is_rough}
use Rattle.file_log.specs.State.{disk_of}
use Rattle.file_log.specs.declared.item.LogItem.{LogItem}
use Rattle.file_log.specs.declared.item.LogItem.TheVariants as items
use Rattle.seat_rules.specs.Address.{Address}
use Rattle.seat_rules.specs.Operations.{is_end_of, NoEndOf, EvictIsOpen}
use Rattle.log_summary.specs.Summary.{BegunPut, OpenEvict, gained, put_in, evicting_after}
use Rattle.seat_rules.proofs.Along.{past}
use Rattle.log_summary.proofs.Files.{had_grows, had_now, had_split, gained_named, named_gained}
use Rattle.seat_rules.proofs.Histories.{disk_then, quiet_then, quiet_front, quiet_rest, last_of, no_end_front, no_end_last, no_end_then}
use Rattle.log_summary.specs.Telling.{In}
use Rattle.log_summary.proofs.Lists.{in_left, in_right, in_cases, in_filter, filter_in, or_neither}

-- ---- files that names have had

pub files_then : (log : List LogItem) (had : List (Name × ℕ)) (d : Disk) (x : LogItem) → disk_of (past log) ≡ d → ListsFiles log had → ListsFiles (log ++ x ∷ []) (had ++ gained d x)
files_then log had d x disk l = record {
  right = λ name f i. elim (in_cases had (gained d x) (name, f) i) [
    | inl old ↦ had_grows log (x ∷ []) name f (l.right name f old)
    | inr new ↦ had_now (log ++ x ∷ []) name f (ap (λ (e : Disk). e.names name) after_is ∙ gained_named d x name f new)
  ];
  all = λ name f h. elim (had_split log x name f h) [
    | inl old ↦ in_left had (gained d x) (name, f) (l.all name f old)
    | inr now ↦ elim (named_gained d x name f (sym (ap (λ (e : Disk). e.names name) after_is) ∙ now)) [
      | inl kept ↦ in_left had (gained d x) (name, f) (l.all name f (had_now log name f (ap (λ (e : Disk). e.names name) disk ∙ kept)))
      | inr new ↦ in_right had (gained d x) (name, f) new
    ]
  ];
}
  where
    after_is : disk_of (past (log ++ x ∷ [])) ≡ applied d x
    after_is = disk_then (past log) x ∙ ap (λ (e : Disk). applied e x) disk

-- ---- puts

put_now : (log : List LogItem) (x : LogItem) (p : BegunPut) → In (put_in x) p → WasPut (log ++ x ∷ []) p.at.store p.at.driver p.at.key p.blob
put_now log (items.Begin who (requests.Put store driver key meta blob limit)) p (inl e) =
    let x : LogItem = items.Begin who (requests.Put store driver key meta blob limit) in
    subst (λ (q : BegunPut). WasPut (log ++ x ∷ []) q.at.store q.at.driver q.at.key q.blob) e (who, meta, limit, Contains-push log x)
put_now log (items.Begin who (requests.Put store driver key meta blob limit)) p (inr i) = absurd i
put_now log (items.Begin who (requests.Get store driver key ro)) p i = absurd i
put_now log (items.Begin who (requests.HasKey root key)) p i = absurd i
put_now log (items.Begin who (requests.PutKey root key)) p i = absurd i
put_now log (items.Begin who (requests.Keys store driver)) p i = absurd i
put_now log (items.Begin who (requests.Verify store)) p i = absurd i
put_now log (items.Begin who (requests.Trim store to)) p i = absurd i
put_now log x p i = absurd i

pub puts_then : (log : List LogItem) (puts : List BegunPut) (x : LogItem) → ListsPuts log puts → ListsPuts (log ++ x ∷ []) (puts ++ put_in x)
puts_then log puts x l = record {
  right = λ p i. elim (in_cases puts (put_in x) p i) [
    | inl old ↦ let w = l.right p old in (w.0, w.1, w.2, Contains-append_left log (x ∷ []) _ w.3)
    | inr new ↦ put_now log x p new
  ];
  all = λ at blob w. elim (Contains-push_cases log x (items.Begin w.0 (requests.Put at.store at.driver at.key w.1 blob w.2)) w.3) [
    | inl old ↦ in_left puts (put_in x) _ (l.all at blob (w.0, w.1, w.2, old))
    | inr same ↦ in_right puts (put_in x) _ (subst (λ (y : LogItem). In (put_in y) (record { at = at; blob = blob })) (sym same) (inl refl))
  ];
}

-- ---- open Evicts

stays_open : (log : List LogItem) (x : LogItem) (who : Who) (at : Address) → EvictIsOpen log who at → is_end_of who x ≡ false → EvictIsOpen (log ++ x ∷ []) who at
stays_open log x who at o e = record {
  before = o.before;
  later = o.later ++ x ∷ [];
  log_is = ap (λ (l : List LogItem). l ++ x ∷ []) o.log_is ∙ append_assoc o.before (items.Evict who at.store at.driver at.key ∷ o.later) (x ∷ []);
  is_open = no_end_then who o.later x o.is_open e;
}

not_true : (b : Bool) → not b ≡ true → b ≡ false
not_true true e = absurd (false≢true e)
not_true false e = refl

evict_listed : (log : List LogItem) (evicting : List OpenEvict) (x : LogItem) → ((e : OpenEvict) → In evicting e → EvictIsOpen log e.who e.at) → (e : OpenEvict) → In (evicting_after evicting x) e → EvictIsOpen (log ++ x ∷ []) e.who e.at
evict_listed log evicting (items.Evict who store driver key) right e (inl same) =
    subst (λ (o : OpenEvict). EvictIsOpen (log ++ items.Evict who store driver key ∷ []) o.who o.at) same (record { before = log; later = []; log_is = refl; is_open = tt })
evict_listed log evicting (items.Evict who store driver key) right e (inr i) = stays_open log (items.Evict who store driver key) e.who e.at (right e i) refl
evict_listed log evicting (items.End who answer) right e i =
    let kept = in_filter (λ o. not (same_seat o.who who)) evicting e i in
    stays_open log (items.End who answer) e.who e.at (right e kept.0) (not_true _ kept.1)
evict_listed log evicting x right e i = stays_open log x e.who e.at (right e i) refl

still_listed : (evicting : List OpenEvict) (x : LogItem) (who : Who) (at : Address) → In evicting (record { who = who; at = at }) → is_end_of who x ≡ false → In (evicting_after evicting x) (record { who = who; at = at })
still_listed evicting (items.Evict by store driver key) who at i e = inr i
still_listed evicting (items.End by answer) who at i e = filter_in (λ o. not (same_seat o.who by)) evicting (record { who = who; at = at }) i (rw e refl)
still_listed evicting x who at i e = i

listed_evict : (log : List LogItem) (evicting : List OpenEvict) (x : LogItem) (who : Who) (at : Address) → (EvictIsOpen log who at → In evicting (record { who = who; at = at })) → EvictIsOpen (log ++ x ∷ []) who at → In (evicting_after evicting x) (record { who = who; at = at })
listed_evict log evicting x who at all o =
    elim (last_of log x o.before (items.Evict who at.store at.driver at.key) o.later o.log_is) [
      | inl r ↦
          let goes : NoEndOf who (r.shorter ++ x ∷ []) = subst (NoEndOf who) r.later_is o.is_open in
          still_listed evicting x who at (all (record { before = o.before; later = r.shorter; log_is = r.log_is; is_open = no_end_front who r.shorter (x ∷ []) goes })) (no_end_last who r.shorter x goes)
      | inr same ↦ subst (λ (y : LogItem). In (evicting_after evicting y) (record { who = who; at = at })) (sym same.0) (inl refl)
    ]

pub evicts_then : (log : List LogItem) (evicting : List OpenEvict) (x : LogItem) → ListsEvicts log evicting → ListsEvicts (log ++ x ∷ []) (evicting_after evicting x)
evicts_then log evicting x l = record { right = evict_listed log evicting x l.right; all = λ who at o. listed_evict log evicting x who at (l.all who at) o }

-- ---- calm

pub calm_then : (log : List LogItem) (rough : Bool) (x : LogItem) → TellsCalm log rough → TellsCalm (log ++ x ∷ []) (rough || is_rough x)
calm_then log rough x t = (
  λ e. let parts = or_neither rough (is_rough x) e in quiet_then log (x ∷ []) (t.0 parts.0) (parts.1, tt),
  λ q. rw (t.1 (quiet_front log (x ∷ []) q)) (quiet_rest log (x ∷ []) q).0,
)
