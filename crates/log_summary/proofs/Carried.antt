-- The operation that each seat is in, as a log's summary carries it.
use Rattle.log_summary.specs.Telling.{TellsOperation, TellsInside}
use Rattle.std.proofs.Common.{◌≡◌, inl, inr, ℕ, Bool, true, false, cond, ◌||◌, List, [], ◌∷◌, ◌++◌, fold, Option, Some, None, refl, sym, ap, ◌∙◌, subst, append-nil}
use Rattle.std.specs.Bool.{Decides}
use Rattle.std.specs.List.{list_any}
use Rattle.std.proofs.lemmas.Bool.{false≢true}
use Rattle.std.proofs.lemmas.Bool.Decides.{Decides-at}
use Rattle.cache_types.specs.declared.name.Name.{Name}
use Rattle.cache_types.specs.declared.request.Request.{Request}
use Rattle.cache_types.specs.declared.seat.Who.{Who}
use Rattle.file_log.specs.Disk.{Disk}
use Rattle.file_log.specs.Effect.{applied}
use Rattle.file_log.specs.Log.{own, is_own}
use Rattle.file_log.specs.Operation.{is_fault}
use Rattle.file_log.specs.State.{disk_of}
use Rattle.file_log.specs.declared.item.LogItem.{LogItem}
use Rattle.file_log.specs.declared.item.LogItem.TheVariants as items
use Rattle.file_log.proofs.All.{seat_self}
use Rattle.file_log.proofs.Logs.{own-append}
use Rattle.seat_rules.specs.Answers.{root_of}
use Rattle.seat_rules.specs.Operations.{is_bound, AfterOne, WasHeldOff}
use Rattle.log_summary.specs.Summary.{Operation, given_for, row_after, is_64th, goes_on, goes_on_if, begun, operation_after}
use Rattle.seat_rules.proofs.Along.{past}
use Rattle.seat_rules.proofs.Courses.{after_split, after_stays, after_now, inside_then, outside_then, outside_end, disk_now, own_other, own_mine, or_nothing, failed_then, nothing_made}
use Rattle.log_summary.proofs.Seats.{same_seat_decides}
use Rattle.log_summary.specs.Telling.{In}
use Rattle.log_summary.proofs.Lists.{or_cases, or_left, or_right}
use Rattle.log_summary.proofs.Streaks.{row_then, row_stays, last_is_64th, is_64th_last}
use Rattle.seat_rules.proofs.Trying.{held_off_split, held_off_stays, held_off_now}

-- ---- another's item leaves it

tells_other : (log : List LogItem) (x : LogItem) (who : Who) (o : Operation) → is_own who x ≡ false → TellsOperation log who o → TellsOperation (log ++ x ∷ []) who o
tells_other log x who o other t = record {
  at = inside_then log x who o.request (rw other refl) t.at;
  gave = λ test. (
    λ e. after_stays who (gives test) d made x ((t.gave test).0 e),
    λ a. elim (after_split who (gives test) d made x a) [ inl before ↦ (t.gave test).1 before | inr now ↦ absurd (false≢true (sym other ∙ now.0)) ],
  );
  failed = t.failed ∙ ap (list_any is_fault) (sym (append-nil (own who made)) ∙ ap (λ (l : List LogItem). own who made ++ l) (sym (own_other who x other)) ∙ sym (own-append who made (x ∷ [])));
  row = λ f. t.row f ∙ row_stays who f d made x other;
  held_off = (
    λ e. held_off_stays who (root_of o.request) d made x (t.held_off.0 e),
    λ w. elim (held_off_split who (root_of o.request) d made x w) [
      | inl before ↦ t.held_off.1 before
      | inr last ↦ absurd (false≢true (sym other ∙ ap (is_own who) last.item_is ∙ seat_self who))
    ],
  );
}
  where
    d : Disk
    d = disk_of (past t.at.before)

    made : List LogItem
    made = items.Begin who o.request ∷ t.at.since

    gives : (Option (List ℕ) → Bool) → Disk → Type 0
    gives test e = test (given_for e o.request) ≡ true

-- ---- an own item goes on with it

-- what the store gave after it is one more of what it gave
pub gave_then : (who : Who) (start : Disk) (made : List LogItem) (x : LogItem) (request : Request) (gave : List (Option (List ℕ))) (test : Option (List ℕ) → Bool) → is_own who x ≡ true
    → Decides (list_any test gave) (AfterOne who (λ d. test (given_for d request) ≡ true) start made)
    → Decides (test (given_for (applied (fold applied start made) x) request) || list_any test gave) (AfterOne who (λ d. test (given_for d request) ≡ true) start (made ++ x ∷ []))
gave_then who start made x request gave test mine d = (
  λ e. elim (or_cases (test (given_for (applied (fold applied start made) x) request)) (list_any test gave) e) [
    | inl now ↦ after_now who (λ d. test (given_for d request) ≡ true) start made x mine now
    | inr before ↦ after_stays who (λ d. test (given_for d request) ≡ true) start made x (d.0 before)
  ],
  λ a. elim (after_split who (λ d. test (given_for d request) ≡ true) start made x a) [
    | inl before ↦ or_right (test (given_for (applied (fold applied start made) x) request)) _ (d.1 before)
    | inr now ↦ or_left (test (given_for (applied (fold applied start made) x) request)) _ now.1
  ],
)

tells_own : (log : List LogItem) (had : List (Name × ℕ)) (d : Disk) (x : LogItem) (who : Who) (o : Operation) → disk_of (past log) ≡ d → ((name : Name) (f : ℕ) → d.names name ≡ Some f → In had (name, f))
    → is_own who x ≡ true → is_bound x ≡ false → TellsOperation log who o → TellsOperation (log ++ x ∷ []) who (goes_on had d x o)
tells_own log had d x who o disk current mine within t = record {
  at = inside_then log x who o.request (rw (mine, within) refl) t.at;
  gave = λ test. Decides-at _ _ (ap (λ (e : Disk). test (given_for (applied e x) o.request) || list_any test o.gave) (sym now_disk)) (gave_then who start made x o.request o.gave test mine (t.gave test));
  failed = failed_then who made x o.failed mine t.failed;
  row = λ f. ap (λ (e : Disk). row_after o.row e x f) (sym now_disk) ∙ row_then o.row who f start made x mine (t.row f);
  held_off = (
    λ e. elim (or_cases o.held_off (is_64th had d (root_of o.request) o.row x) e) [
      | inl before ↦ held_off_stays who (root_of o.request) start made x (t.held_off.0 before)
      | inr now ↦ held_off_now who (root_of o.request) start made x (is_64th_last who (root_of o.request) start made x had o.row t.row mine (subst (λ (e : Disk). is_64th had e (root_of o.request) o.row x ≡ true) (sym now_disk) now))
    ],
    λ w. elim (held_off_split who (root_of o.request) start made x w) [
      | inl before ↦ or_left o.held_off _ (t.held_off.1 before)
      | inr now ↦ or_right o.held_off _ (subst (λ (e : Disk). is_64th had e (root_of o.request) o.row x ≡ true) now_disk (last_is_64th who (root_of o.request) start made x had o.row t.row now_names now))
    ],
  );
}
  where
    start : Disk
    start = disk_of (past t.at.before)

    made : List LogItem
    made = items.Begin who o.request ∷ t.at.since

    gives : (Option (List ℕ) → Bool) → Disk → Type 0
    gives test e = test (given_for e o.request) ≡ true

    now_disk : fold applied start made ≡ d
    now_disk = disk_now log who o.request t.at ∙ disk

    now_names : (name : Name) (f : ℕ) → (fold applied start made).names name ≡ Some f → In had (name, f)
    now_names name f e = current name f (ap (λ (e : Disk). e.names name) (sym now_disk) ∙ e)

-- ---- a Begin

tells_begun : (log : List LogItem) (d : Disk) (who : Who) (request : Request) → disk_of (past log) ≡ d → TellsOperation (log ++ items.Begin who request ∷ []) who (begun d request)
tells_begun log d who request disk = record {
  at = record { before = log; since = []; log_is = refl; goes_on = tt };
  gave = λ test. (
    λ e. inl (seat_self who, subst (λ (e : Disk). test (given_for e request) ≡ true) (sym disk) (sym (or_nothing (test (given_for d request))) ∙ e)),
    λ a. elim a [ inl now ↦ or_left (test (given_for d request)) false (subst (λ (e : Disk). test (given_for e request) ≡ true) disk now.1) | inr none ↦ absurd none ],
  );
  failed = sym (ap (list_any is_fault) (own_mine who (items.Begin who request) (seat_self who)));
  row = λ f. refl;
  held_off = (λ e. absurd (false≢true e), λ w. absurd (no_try w));
}
  where
    no_try : WasHeldOff who (root_of request) (disk_of (past log)) (items.Begin who request ∷ []) → ⊥
    no_try w = elim (held_off_split who (root_of request) (disk_of (past log)) [] (items.Begin who request) w) [
      | inl before ↦ nothing_made before.before _ before.later before.made_are
      | inr last ↦ let clash = last.item_is in absurd cc
    ]

-- ---- each item

begin_bound : (x : LogItem) (who : Who) (request : Request) → is_bound x ≡ false → x ≡ items.Begin who request → ⊥
begin_bound x who request e same = false≢true (sym e ∙ ap is_bound same)

within_then : (log : List LogItem) (had : List (Name × ℕ)) (d : Disk) (x : LogItem) (who : Who) (o : Option Operation) → disk_of (past log) ≡ d → ((name : Name) (f : ℕ) → d.names name ≡ Some f → In had (name, f))
    → is_own who x ≡ true → is_bound x ≡ false → TellsInside log who o → TellsInside (log ++ x ∷ []) who (goes_on_if had d x o)
within_then log had d x who None disk current mine within t = outside_then log x who (λ request. begin_bound x who request within) t
within_then log had d x who (Some o) disk current mine within t = tells_own log had d x who o disk current mine within t

own_then : (log : List LogItem) (had : List (Name × ℕ)) (d : Disk) (x : LogItem) (who : Who) (o : Option Operation) → disk_of (past log) ≡ d → ((name : Name) (f : ℕ) → d.names name ≡ Some f → In had (name, f))
    → is_own who x ≡ true → TellsInside log who o → TellsInside (log ++ x ∷ []) who (operation_after had d x o)
own_then log had d (items.Begin by request) who o disk current mine t =
    subst (λ (w : Who). TellsOperation (log ++ items.Begin by request ∷ []) w (begun d request)) (sym ((same_seat_decides who by).0 mine)) (tells_begun log d by request disk)
own_then log had d (items.End by answer) who o disk current mine t = outside_end log (items.End by answer) who (rw mine refl) (λ request e. cc)
own_then log had d x who o disk current mine t = within_then log had d x who o disk current mine refl t

other_then : (log : List LogItem) (x : LogItem) (who : Who) (o : Option Operation) → is_own who x ≡ false → TellsInside log who o → TellsInside (log ++ x ∷ []) who o
other_then log x who None other t = outside_then log x who (λ request same. false≢true (sym other ∙ ap (is_own who) same ∙ seat_self who)) t
other_then log x who (Some o) other t = tells_other log x who o other t

-- what is carried is so after one item more
pub carried_then : (log : List LogItem) (had : List (Name × ℕ)) (d : Disk) (x : LogItem) (who : Who) (o : Option Operation) → disk_of (past log) ≡ d → ((name : Name) (f : ℕ) → d.names name ≡ Some f → In had (name, f))
    → TellsInside log who o → TellsInside (log ++ x ∷ []) who (cond (is_own who x) (operation_after had d x o) o)
carried_then log had d x who o disk current t = by_test (is_own who x) refl
  where
    by_test : (b : Bool) → is_own who x ≡ b → TellsInside (log ++ x ∷ []) who (cond b (operation_after had d x o) o)
    by_test true e = own_then log had d x who o disk current e t
    by_test false e = other_then log x who o e t
