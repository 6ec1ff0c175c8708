-- What a whole lookup does, from its Begin to its End.
use Rattle.std.proofs.Common.{◌≡◌, ◌≤◌, ◌⊎◌, inl, inr, ℕ, true, false, List, [], ◌∷◌, ◌++◌, Option, refl, sym, ap, subst, ◌∙◌, arith}
use Rattle.cache_types.specs.declared.answer.Answer.{Answer}
use Rattle.cache_types.specs.declared.answer.Answer.TheVariants as answers
use Rattle.cache_types.specs.declared.key.Key.{Key}
use Rattle.cache_types.specs.declared.request.Request.{Request}
use Rattle.cache_types.specs.declared.seat.Who.{Who}
use Rattle.cache_types.specs.Answers.{IsSmall}
use Rattle.cache_types.specs.Driver.{DriverKeys, IsDriver}
use Rattle.file_log.specs.declared.item.LogItem.{LogItem}
use Rattle.file_log.specs.declared.item.LogItem.TheVariants.{Begin, End}
use Rattle.file_log.specs.Legal.{Legal}
use Rattle.file_log.specs.Log.{History, own}
use Rattle.file_log.specs.Operation.{LeavesAll, is_fault, calls_in}
use Rattle.file_log.specs.State.{after, state_of}
use Rattle.file_log.proofs.All.{none_keeps}
use Rattle.files_api.specs.Drive.{items_of_all, IsEndOf, Refused, Unmade, Operated}
use Rattle.folder_rules.specs.Holds.{FolderHolds}
use Rattle.folder_store.specs.Finds.{FindsOrFails}
use Rattle.folder_store.specs.Lookup.{IsLookupAnswer, LookedUp}
use Rattle.folder_store.specs.Gets.{FolderGet, get_asks, get_asked, GetFed, get_left, IsNew}
use Rattle.folder_store.specs.Rests.{RestsOn}
use Rattle.folder_store.proofs.Items.{any_fault, all_within, all_counted}
use Rattle.folder_store.proofs.Operations.{Grows-from, no_fault, never_fault, any_inside}
use Rattle.folder_store.proofs.Calls.{looks, looks_within, same_root, looks_spend, IsInRoot, new_root, new_left}
use Rattle.folder_store.proofs.Still.{all_as_own, looking_stays, nothing_stays}
use Rattle.folder_store.proofs.Outcome.{EndsSo, outcome, looked_so}
use Rattle.seat_rules.specs.Changes.{with_item}
use Rattle.layout_rules.specs.Rules.{KeepsRules}
use Rattle.folder_store.proofs.GetKeeps.{lookup_keeps, lookup_misses}
use Rattle.folder_store.proofs.Keeping.{IsIdleIn, unmade_keeps}
use Rattle.folder_store.proofs.Finding.{finding, rests_so}

module _ (me : Who) (request : Request) (root : ℕ) (driver : DriverKeys) (key : Key) (old new : Option History) (before now : ℕ) (answer : Answer) (idle : IsIdleIn me old) where
  -- ---- an operation that made no call

  no_memory_kind : answer ≡ answers.NoMemory → IsLookupAnswer answer
  no_memory_kind e = rw e tt

  no_miss : answer ≡ answers.NoMemory → answer ≡ answers.Miss → ⊥
  no_miss e f = let clash : answers.NoMemory ≡ answers.Miss = sym e ∙ f in absurd cc

  refused : Refused me old new answer → LookedUp me request root driver key old new before now answer
  refused r = record {
    kind = no_memory_kind r.answer_is;
    cause = λ e. absurd (no_fault answer r.answer_is e);
    told = Grows-from old new _ _ r.told (λ h news is_old o. record {
      operation = inl (o.own_items, r.answer_is);
      finds = λ alone. rw r.answer_is tt;
      rests = rw r.answer_is tt;
      still = all_as_own after (LeavesAll me) me (λ s item other mine. let clash : false ≡ true = sym other ∙ mine in absurd cc) (state_of h) news (none_keeps after (LeavesAll me) me (state_of h) news o.own_items);
      fault = never_fault answer (own me news) r.answer_is (ap any_fault o.own_items);
      keeps = λ asks kept. none_keeps with_item KeepsRules me h news o.own_items;
      misses = λ asks kept others miss. absurd (no_miss r.answer_is miss);
    });
  }

  unmade : Unmade me request old new answer → LookedUp me request root driver key old new before now answer
  unmade r = record {
    kind = no_memory_kind r.answer_is;
    cause = λ e. absurd (no_fault answer r.answer_is e);
    told = Grows-from old new _ _ r.told (λ h news is_old o. record {
      operation = inr (record { inner = []; whole = o.owns.own_items ∙ ap (λ (a : Answer). Begin me request ∷ End me a ∷ []) (sym r.answer_is); within = tt; few = omega arith });
      finds = λ alone. rw r.answer_is tt;
      rests = rw r.answer_is tt;
      still = nothing_stays me request news (state_of h) o.owns.own_items o.owns.legal o.owns.goes_on;
      fault = never_fault answer (own me news) r.answer_is (ap any_fault o.owns.own_items);
      keeps = λ asks kept. unmade_keeps me request h news o.owns.own_items o.owns.legal o.owns.goes_on (idle h is_old) kept;
      misses = λ asks kept others miss. absurd (no_miss r.answer_is miss);
    });
  }

  -- ---- an operation of a machine

  -- the answer that is told: the machine's, or want of memory in place of a blob
  end_kind : (given : Answer) → IsEndOf given answer → IsLookupAnswer given → IsLookupAnswer answer
  end_kind given (inl e) kind = rw e kind
  end_kind given (inr lack) kind = rw lack.0 tt

  fault_given : (given : Answer) → IsEndOf given answer → answer ≡ answers.FilesFault → given ≡ answers.FilesFault
  fault_given given (inl e) f = sym e ∙ f
  fault_given given (inr lack) f = absurd (no_fault answer lack.0 f)

  fault_told : (given : Answer) → IsEndOf given answer → given ≡ answers.FilesFault → answer ≡ answers.FilesFault
  fault_told given (inl e) f = e ∙ f
  fault_told given (inr lack) f = absurd (lack.1 (subst IsSmall (sym f) tt))

  end_finds : (given : Answer) (Held : List ℕ → Type 0) → IsEndOf given answer → FindsOrFails Held given → FindsOrFails Held answer
  end_finds given Held (inl e) finds = rw e finds
  end_finds given Held (inr lack) finds = rw lack.0 tt

  -- a blob that there is no memory for rests on nothing
  end_rests : (given : Answer) (made : List LogItem) → IsEndOf given answer → RestsOn me root key made driver given → RestsOn me root key made driver answer
  end_rests given made (inl e) rests = rw e rests
  end_rests given made (inr lack) rests = rw lack.0 tt

  operated : (IsMade : FolderGet → Type 0) → ((m : FolderGet) → IsMade m → IsNew root driver key m) → IsDriver driver → Operated get_asks get_asked GetFed get_left IsMade me request old new before now answer
      → LookedUp me request root driver key old new before now answer
  operated IsMade is_new fits r =
      let begun = is_new r.first r.made in
      let inner = items_of_all r.exchanges in
      let out = outcome me root driver key r.first r.last r.exchanges r.given begun r.runs in
      let so : EndsSo me root driver key r.given inner = looked_so me root driver key r.first r.last r.exchanges r.given begun r.runs in
      let few : calls_in inner ≤ 4 = subst (λ (n : ℕ). calls_in inner ≤ n) (new_left root driver key r.first begun) (all_counted get_asks get_asked GetFed me get_left looks_spend r.first r.last r.exchanges r.given r.runs) in
      record {
        kind = end_kind r.given r.answer_is out.kind;
        cause = λ e. r.counts.rose (out.failed (fault_given r.given r.answer_is e));
        told = Grows-from old new _ _ r.told (λ h news is_old o. record {
          operation = inr (record { inner = inner; whole = o.owns.own_items; within = all_within get_asks get_asked GetFed me root (IsInRoot root) (looks_within root) (same_root root) r.first r.last r.exchanges r.given (new_root root driver key r.first begun) r.runs; few = few });
          finds = λ alone. end_finds r.given _ r.answer_is (found r.given inner so fits h news (sym alone ∙ o.owns.own_items) o.owns.legal);
          still = looking_stays get_asks get_asked GetFed me looks r.first request answer news (state_of h) r.exchanges r.given r.last r.runs r.answer_is o.owns.own_items o.owns.legal o.owns.goes_on;
          fault =
              let same : any_fault (own me news) ≡ any_fault inner = ap any_fault o.owns.own_items ∙ any_inside is_fault me request answer inner refl refl in
              (λ e. same ∙ out.told (fault_given r.given r.answer_is e), λ some. fault_told r.given r.answer_is (out.only (sym same ∙ some)));
          rests = end_rests r.given (own me news) r.answer_is (subst (λ (made : List LogItem). RestsOn me root key made driver r.given) (sym o.owns.own_items) (rests_so me root driver key r.given inner (Begin me request) (End me answer ∷ []) so));
          keeps = λ asks kept. lookup_keeps me request root driver key r.first r.last r.exchanges r.given answer h news fits begun r.runs r.answer_is o.owns.own_items o.owns.legal o.owns.goes_on (idle h is_old) asks kept;
          misses = lookup_misses me request root driver key r.first r.last r.exchanges r.given answer h news fits begun r.runs r.answer_is o.owns.own_items o.owns.legal o.owns.goes_on (idle h is_old);
        });
      }
    where
      found : (given : Answer) (inner : List LogItem) → EndsSo me root driver key given inner → IsDriver driver → (h : History) (news : List LogItem)
          → news ≡ Begin me request ∷ (inner ++ End me answer ∷ []) → Legal (state_of h) news → FindsOrFails (FolderHolds (state_of h).disk root driver key) given
      found given inner so fits h news whole legal =
          let legal' = subst (Legal (state_of h)) whole legal in
          finding me root driver key (after (state_of h) (Begin me request)) given inner (End me answer ∷ []) fits so legal'.1

  -- However it ended, it did what a lookup does.
  pub looked_up : (IsMade : FolderGet → Type 0) → ((m : FolderGet) → IsMade m → IsNew root driver key m) → IsDriver driver
      → Refused me old new answer ⊎ (Unmade me request old new answer ⊎ Operated get_asks get_asked GetFed get_left IsMade me request old new before now answer) → LookedUp me request root driver key old new before now answer
  looked_up IsMade is_new fits (inl r) = refused r
  looked_up IsMade is_new fits (inr (inl r)) = unmade r
  looked_up IsMade is_new fits (inr (inr r)) = operated IsMade is_new fits r
