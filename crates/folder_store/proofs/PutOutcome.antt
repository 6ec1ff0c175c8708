-- Which answer a put ends with, that a fault is one that its log tells, and that want of memory is one once a file was changed.
use Rattle.std.proofs.Common.{◌≡◌, inl, inr, ℕ, ◌-◌, Bool, true, false, cond, nat_eq, nat_lt, ◌||◌, List, [], ◌∷◌, ◌++◌, refl, sym, ap, subst, ◌∙◌}
use Rattle.std.specs.List.{list_any}
use Rattle.std.proofs.lemmas.List.Folds.{list_any-append}
use Rattle.cache_types.specs.declared.answer.Answer.{Answer}
use Rattle.cache_types.specs.declared.answer.Answer.TheVariants as answers
use Rattle.cache_types.specs.declared.key.Key.{Key}
use Rattle.cache_types.specs.declared.limits.TheConstants.{MAX_ITEM}
use Rattle.cache_types.specs.declared.seat.Who.{Who}
use Rattle.cache_types.specs.Driver.{DriverKeys}
use Rattle.file_log.specs.declared.call.Call.{Call}
use Rattle.file_log.specs.declared.call.Call.TheVariants as calls
use Rattle.file_log.specs.declared.item.LogItem.{LogItem}
use Rattle.file_log.specs.declared.reply.Reply.{Reply}
use Rattle.file_log.specs.declared.reply.Reply.TheVariants as replies
use Rattle.file_log.specs.Exchange.{Answers, Makes, Exchange}
use Rattle.file_log.specs.Operation.{is_fault}
use Rattle.files_api.specs.declared.machine.Step.{Step}
use Rattle.files_api.specs.declared.machine.Step.TheVariants.{Ask, Done}
use Rattle.files_api.specs.Drive.{Runs, items_of_all, SomeFailed}
use Rattle.folder_store.specs.declared.put.FolderPut.{FolderPut}
use Rattle.folder_store.specs.declared.put_phase.Besides.{Besides}
use Rattle.folder_store.specs.declared.put_phase.Besides.TheVariants.{Nothing, Lock, LockAndTemp}
use Rattle.folder_store.specs.declared.put_phase.Look.{Look}
use Rattle.folder_store.specs.declared.put_phase.Look.TheVariants.{First, Second}
use Rattle.folder_store.specs.declared.put_phase.PutPhase.{PutPhase}
use Rattle.folder_store.specs.declared.put_phase.PutPhase.TheVariants.{Opening, Measuring, Reading, ReadingFront, Leaving, OpeningLock, Locking, Pausing, Evicting, Evicted, Making, Cutting, Writing, Renaming, ClosingEntry, ClosingTemp, ClosingLock, Ended, Spent}
use Rattle.folder_store.specs.OwnChanges.{is_change, is_want}
use Rattle.folder_store.specs.Put.{IsPutAnswer}
use Rattle.folder_store.specs.PutPhases.{asks_put, asks_put_in, asked_put, after_put_asking, too_long, closing, Fronted, Judged, NextPut, FedPut}
use Rattle.folder_store.proofs.Items.{IsNoNote, IsQuiet, any_fault, any_want, any_change, failures_told, tests_faults, tests_wants, refused_no_fault, refused_wants, quiet_changes}
use Rattle.folder_store.proofs.PutCalls.{put_next_of}
use Rattle.folder_store.proofs.PutSteps.{AnswersIn}

-- what a run ends with: an answer of a put, a fault exactly where a call failed, and want of memory only where a call was refused it, if a file was changed
pub record Outcome (Changed : Type 0) (answer : Answer) (made : List LogItem) (xs : List Exchange) : Type 0 where
  pub kind : IsPutAnswer answer
  pub told : answer ≡ answers.FilesFault → any_fault made ≡ true
  pub only : any_fault made ≡ true → answer ≡ answers.FilesFault
  pub failed : answer ≡ answers.FilesFault → SomeFailed xs
  pub want : answer ≡ answers.NoMemory → Changed → any_want made ≡ true

-- an answer that stands fast, with no failure and no change after it
pub record Settles (given answer : Answer) (made : List LogItem) : Type 0 where
  pub same : answer ≡ given
  pub fine : any_fault made ≡ false
  pub still : any_change made ≡ false

-- ---- how far a put has come

-- it has changed no file, it makes and fills the temporary file, or its answer stands fast
data Stage : Type 0 where
  Early : Stage
  Late : Stage
  Settled : Answer → Stage

abbrev stage : PutPhase → Stage
stage (Making entry) = Late
stage (Cutting entry) = Late
stage (Writing entry) = Late
stage (Renaming entry) = Late
stage (ClosingEntry answer besides) = Settled answer
stage (ClosingTemp answer) = Settled answer
stage (ClosingLock answer) = Settled answer
stage (Ended answer) = Settled answer
stage Evicted = Settled answers.NoMemory
stage Spent = Settled answers.NoMemory
stage p = Early

stage_closing : (answer : Answer) (entry : Bool) (besides : Besides) → stage (closing answer entry besides) ≡ Settled answer
stage_closing answer true besides = refl
stage_closing answer false Nothing = refl
stage_closing answer false Lock = refl
stage_closing answer false LockAndTemp = refl

-- what it asks then
abbrev AsksAt : Stage → Step → Type 0
AsksAt stage (Done answer) = stage ≡ Settled answer
AsksAt Early (Ask call) = IsQuiet call
AsksAt Late (Ask call) = IsNoNote call
AsksAt (Settled answer) (Ask (calls.Close slot)) = Unit {0}
AsksAt (Settled answer) (Ask call) = ⊥

asks_at : (root : ℕ) (key : Key) (item : List ℕ) (p : PutPhase) → AsksAt (stage p) (asks_put_in root key item p)
asks_at root key item (Ended answer) = refl
asks_at root key item Evicted = refl
asks_at root key item Spent = refl
asks_at root key item p = tt

-- an answer without want of memory or a fault
abbrev IsFine : Answer → Type 0
IsFine answers.Stored = Unit {0}
IsFine answers.Kept = Unit {0}
IsFine answers.Busy = Unit {0}
IsFine answer = ⊥

-- where a reply leads that is no failure
abbrev LeadsOn : Stage → Stage → Type 0
LeadsOn Early (Settled answer) = IsFine answer
LeadsOn Early next = Unit {0}
LeadsOn Late (Settled answer) = IsFine answer
LeadsOn Late Late = Unit {0}
LeadsOn stage next = ⊥

abbrev Leads : Stage → Reply → Stage → Type 0
Leads (Settled answer) reply next = next ≡ Settled answer
Leads stage replies.Failed next = next ≡ Settled answers.FilesFault
Leads stage replies.NoMemory next = next ≡ Settled answers.NoMemory
Leads stage reply next = LeadsOn stage next

fronted : (bytes : List ℕ) (q : PutPhase) → Fronted bytes q → LeadsOn Early (stage q)
fronted bytes (Evicting driver) f = tt
fronted bytes (Making true) f = tt
fronted bytes q f = absurd f

judged : (driver : DriverKeys) (look : Look) (bytes : List ℕ) (q : PutPhase) → Judged driver look bytes q → LeadsOn Early (stage q)
judged driver look bytes q (inl kept) = rw kept.1 tt
judged driver First bytes q (inr other) = rw other.1 tt
judged driver Second bytes q (inr other) = fronted bytes q other.1

measured : (look : Look) (length : ℕ) (b : Bool) → LeadsOn Early (stage (cond b (too_long look) (Reading look length)))
measured First length true = tt
measured First length false = tt
measured Second length true = tt
measured Second length false = tt

held : (again : ℕ) (b : Bool) → LeadsOn Early (stage (cond b (ClosingLock answers.Busy) (Pausing (again - 1))))
held again true = tt
held again false = tt

leads : (root : ℕ) (key : Key) (item : List ℕ) (driver : DriverKeys) (p : PutPhase) (reply : Reply) (q : PutPhase) → AnswersIn (asks_put_in root key item p) reply → NextPut driver (after_put_asking p) reply q → Leads (stage p) reply (stage q)
leads root key item driver (Opening First) replies.Done q fits e = rw e tt
leads root key item driver (Opening First) replies.Missing q fits e = rw e tt
leads root key item driver (Opening First) replies.Failed q fits e = rw e refl
leads root key item driver (Opening First) replies.NoMemory q fits e = rw e refl
leads root key item driver (Opening First) reply q fits e = absurd fits
leads root key item driver (Opening Second) replies.Done q fits e = rw e tt
leads root key item driver (Opening Second) replies.Missing q fits e = rw e tt
leads root key item driver (Opening Second) replies.Failed q fits e = rw e refl
leads root key item driver (Opening Second) replies.NoMemory q fits e = rw e refl
leads root key item driver (Opening Second) reply q fits e = absurd fits
leads root key item driver (Measuring look) (replies.Number length) q fits e = rw e (measured look length (nat_lt MAX_ITEM length))
leads root key item driver (Measuring look) replies.Failed q fits e = rw e refl
leads root key item driver (Measuring look) replies.NoMemory q fits e = rw e refl
leads root key item driver (Measuring look) reply q fits e = absurd fits
leads root key item driver (Reading look length) (replies.Got bytes) q fits e = judged driver look bytes q e
leads root key item driver (Reading look length) replies.Failed q fits e = rw e refl
leads root key item driver (Reading look length) replies.NoMemory q fits e = rw e refl
leads root key item driver (Reading look length) reply q fits e = absurd fits
leads root key item driver ReadingFront (replies.Got bytes) q fits e = fronted bytes q e
leads root key item driver ReadingFront replies.Failed q fits e = rw e refl
leads root key item driver ReadingFront replies.NoMemory q fits e = rw e refl
leads root key item driver ReadingFront reply q fits e = absurd fits
leads root key item driver Leaving replies.Done q fits e = rw e tt
leads root key item driver Leaving reply q fits e = absurd fits
leads root key item driver OpeningLock replies.Done q fits e = rw e tt
leads root key item driver OpeningLock replies.Failed q fits e = rw e refl
leads root key item driver OpeningLock replies.NoMemory q fits e = rw e refl
leads root key item driver OpeningLock reply q fits e = absurd fits
leads root key item driver (Locking again) replies.Done q fits e = rw e tt
leads root key item driver (Locking again) replies.Held q fits e = rw e (held again (nat_eq again 0))
leads root key item driver (Locking again) replies.Failed q fits e = rw e refl
leads root key item driver (Locking again) replies.NoMemory q fits e = rw e refl
leads root key item driver (Locking again) reply q fits e = absurd fits
leads root key item driver (Pausing again) replies.Done q fits e = rw e tt
leads root key item driver (Pausing again) replies.Failed q fits e = rw e refl
leads root key item driver (Pausing again) replies.NoMemory q fits e = rw e refl
leads root key item driver (Pausing again) reply q fits e = absurd fits
leads root key item driver (Evicting driver') replies.Done q fits e = rw e tt
leads root key item driver (Evicting driver') replies.NoMemory q fits e = rw e refl
leads root key item driver (Evicting driver') reply q fits e = absurd fits
leads root key item driver Evicted reply q fits e = absurd fits
leads root key item driver (Making entry) replies.Done q fits e = rw e tt
leads root key item driver (Making entry) replies.Failed q fits e = rw (e, stage_closing answers.FilesFault entry Lock) refl
leads root key item driver (Making entry) replies.NoMemory q fits e = rw (e, stage_closing answers.NoMemory entry Lock) refl
leads root key item driver (Making entry) reply q fits e = absurd fits
leads root key item driver (Cutting entry) replies.Done q fits e = rw e tt
leads root key item driver (Cutting entry) replies.Failed q fits e = rw (e, stage_closing answers.FilesFault entry LockAndTemp) refl
leads root key item driver (Cutting entry) replies.NoMemory q fits e = rw (e, stage_closing answers.NoMemory entry LockAndTemp) refl
leads root key item driver (Cutting entry) reply q fits e = absurd fits
leads root key item driver (Writing entry) replies.Done q fits e = rw e tt
leads root key item driver (Writing entry) replies.Failed q fits e = rw (e, stage_closing answers.FilesFault entry LockAndTemp) refl
leads root key item driver (Writing entry) replies.NoMemory q fits e = rw (e, stage_closing answers.NoMemory entry LockAndTemp) refl
leads root key item driver (Writing entry) reply q fits e = absurd fits
leads root key item driver (Renaming entry) replies.Done q fits e = rw (e, stage_closing answers.Stored entry LockAndTemp) tt
leads root key item driver (Renaming entry) replies.Failed q fits e = rw (e, stage_closing answers.FilesFault entry LockAndTemp) refl
leads root key item driver (Renaming entry) replies.NoMemory q fits e = rw (e, stage_closing answers.NoMemory entry LockAndTemp) refl
leads root key item driver (Renaming entry) reply q fits e = absurd fits
leads root key item driver (ClosingEntry answer besides) replies.Done q fits e = rw (e, stage_closing answer false besides) refl
leads root key item driver (ClosingEntry answer besides) reply q fits e = absurd fits
leads root key item driver (ClosingTemp answer) replies.Done q fits e = rw e refl
leads root key item driver (ClosingTemp answer) reply q fits e = absurd fits
leads root key item driver (ClosingLock answer) replies.Done q fits e = rw e refl
leads root key item driver (ClosingLock answer) reply q fits e = absurd fits
leads root key item driver (Ended answer) reply q fits e = absurd fits
leads root key item driver Spent reply q fits e = absurd fits

-- ---- what a call adds

abbrev Ends : Stage → Answer → List LogItem → List Exchange → Type 0
Ends Early answer made xs = Outcome (any_change made ≡ true) answer made xs
Ends Late answer made xs = Outcome (Unit {0}) answer made xs
Ends (Settled given) answer made xs = Settles given answer made

fine_kind : (answer : Answer) → IsFine answer → IsPutAnswer answer
fine_kind answers.Stored fine = tt
fine_kind answers.Kept fine = tt
fine_kind answers.Busy fine = tt
fine_kind answer fine = absurd fine

close_tells : (me : Who) (given : Answer) (call : Call) (reply : Reply) (made : List LogItem) → AsksAt (Settled given) (Ask call) → Answers true call reply → Makes me true call reply made → (any_fault made ≡ false) × (any_change made ≡ false)
close_tells me given (calls.Close slot) replies.Done made asks fits makes = (ap any_fault makes, ap any_change makes)
close_tells me given (calls.Close slot) reply made asks fits makes = absurd fits
close_tells me given call reply made asks fits makes = absurd asks

module _ (me : Who) (call : Call) (made rest : List LogItem) (x : Exchange) (xs : List Exchange) (answer : Answer) where
  joined : (test : LogItem → Bool) (u v : Bool) → list_any test made ≡ u → list_any test rest ≡ v → list_any test (made ++ rest) ≡ (u || v)
  joined test u v a b = list_any-append test made rest ∙ rw (a, b) refl

  failed_end : (Changed : Type 0) → Makes me true call replies.Failed made → x.reply ≡ replies.Failed → Settles answers.FilesFault answer rest → Outcome Changed answer (made ++ rest) (x ∷ xs)
  failed_end Changed makes same s = record {
    kind = rw s.same tt;
    told = λ e. joined is_fault true false (failures_told me is_fault (tests_faults me) call replies.Failed made makes) s.fine;
    only = λ e. s.same;
    failed = λ e. inl same;
    want = λ e. let clash : answers.FilesFault ≡ answers.NoMemory = sym s.same ∙ e in absurd cc;
  }

  refused_end : (Changed : Type 0) → Makes me true call replies.NoMemory made → Settles answers.NoMemory answer rest → (Changed → any_want (made ++ rest) ≡ true) → Outcome Changed answer (made ++ rest) (x ∷ xs)
  refused_end Changed makes s want =
      let none : any_fault (made ++ rest) ≡ false = joined is_fault false false (failures_told me is_fault (tests_faults me) call replies.NoMemory made makes ∙ refused_no_fault me call) s.fine in
      record {
        kind = rw s.same tt;
        told = λ e. let clash : answers.NoMemory ≡ answers.FilesFault = sym s.same ∙ e in absurd cc;
        only = λ e. let clash : true ≡ false = sym e ∙ none in absurd cc;
        failed = λ e. let clash : answers.NoMemory ≡ answers.FilesFault = sym s.same ∙ e in absurd cc;
        want = λ e. want;
      }

  fine_end : (Changed : Type 0) (given : Answer) → IsFine given → any_fault made ≡ false → Settles given answer rest → Outcome Changed answer (made ++ rest) (x ∷ xs)
  fine_end Changed given fine none s = record {
    kind = rw s.same (fine_kind given fine);
    told = λ e. absurd (subst IsFine (sym s.same ∙ e) fine);
    only = λ e. let clash : true ≡ false = sym e ∙ joined is_fault false false none s.fine in absurd cc;
    failed = λ e. absurd (subst IsFine (sym s.same ∙ e) fine);
    want = λ e. absurd (subst IsFine (sym s.same ∙ e) fine);
  }

  onward : (Changed Changed' : Type 0) → any_fault made ≡ false → any_want made ≡ false → (Changed → Changed') → Outcome Changed' answer rest xs → Outcome Changed answer (made ++ rest) (x ∷ xs)
  onward Changed Changed' none calm on more =
      let same : any_fault (made ++ rest) ≡ any_fault rest = joined is_fault false (any_fault rest) none refl in
      let wants : any_want (made ++ rest) ≡ any_want rest = joined is_want false (any_want rest) calm refl in
      record {
        kind = more.kind;
        told = λ e. same ∙ more.told e;
        only = λ e. more.only (sym same ∙ e);
        failed = λ e. inr (more.failed e);
        want = λ e c. wants ∙ more.want e (on c);
      }

  -- a call that changes no file
  changed_later : (b : Bool) → any_change made ≡ false → any_change rest ≡ b → any_change (made ++ rest) ≡ true → b ≡ true
  changed_later b none is e = sym (joined is_change false b none is) ∙ e

  step : (now next : Stage) (reply : Reply) → AsksAt now (Ask call) → Answers true call reply → Makes me true call reply made → x.reply ≡ reply → Leads now reply next → Ends next answer rest xs → Ends now answer (made ++ rest) (x ∷ xs)
  step (Settled given) next reply asks fits makes same l ends =
      let s = subst (λ (n : Stage). Ends n answer rest xs) l ends in
      let tells = close_tells me given call reply made asks fits makes in
      record { same = s.same; fine = joined is_fault false false tells.0 s.fine; still = joined is_change false false tells.1 s.still }
  step Early next replies.Failed asks fits makes same l ends = failed_end _ makes same (subst (λ (n : Stage). Ends n answer rest xs) l ends)
  step Early next replies.NoMemory asks fits makes same l ends =
      let s = subst (λ (n : Stage). Ends n answer rest xs) l ends in
      refused_end _ makes s (λ c. let clash : false ≡ true = changed_later false (quiet_changes me call replies.NoMemory made asks makes) s.still c in absurd cc)
  step Early Early reply asks fits makes same l ends =
      onward _ _ (failures_told me is_fault (tests_faults me) call reply made makes) (failures_told me is_want (tests_wants me) call reply made makes) (changed_later (any_change rest) (quiet_changes me call reply made asks makes) refl) ends
  step Early Late reply asks fits makes same l ends =
      onward _ (Unit {0}) (failures_told me is_fault (tests_faults me) call reply made makes) (failures_told me is_want (tests_wants me) call reply made makes) (λ c. tt) ends
  step Early (Settled given) reply asks fits makes same l ends = fine_end _ given l (failures_told me is_fault (tests_faults me) call reply made makes) ends
  step Late next replies.Failed asks fits makes same l ends = failed_end _ makes same (subst (λ (n : Stage). Ends n answer rest xs) l ends)
  step Late next replies.NoMemory asks fits makes same l ends =
      refused_end _ makes (subst (λ (n : Stage). Ends n answer rest xs) l ends)
      (λ c. joined is_want true (any_want rest) (failures_told me is_want (tests_wants me) call replies.NoMemory made makes ∙ refused_wants me call asks) refl)
  step Late Late reply asks fits makes same l ends =
      onward _ (Unit {0}) (failures_told me is_fault (tests_faults me) call reply made makes) (failures_told me is_want (tests_wants me) call reply made makes) (λ c. tt) ends
  step Late (Settled given) reply asks fits makes same l ends = fine_end _ given l (failures_told me is_fault (tests_faults me) call reply made makes) ends
  step Late Early reply asks fits makes same l ends = absurd l

-- ---- a whole run

ends_from : (me : Who) (m last : FolderPut) (xs : List Exchange) (answer : Answer) → Runs asks_put asked_put FedPut me m xs answer last → Ends (stage m.phase) answer (items_of_all xs) xs
ends_from me m last [] answer run =
    let is : stage m.phase ≡ Settled answer = subst (AsksAt (stage m.phase)) run.0 (asks_at m.root m.key m.item m.phase) in
    subst (λ (s : Stage). Ends s answer [] []) (sym is) (record { same = refl; fine = refl; still = refl })
ends_from me m last (x ∷ xs) answer run =
    let n = run.3.0 in
    step me x.call x.items (items_of_all xs) x xs answer (stage m.phase) (stage n.phase) x.reply (subst (AsksAt (stage m.phase)) run.0 (asks_at m.root m.key m.item m.phase)) run.1 run.2 refl
    (leads m.root m.key m.item m.driver m.phase x.reply n.phase (subst (λ (s : Step). AnswersIn s x.reply) (sym run.0) run.1) (put_next_of m n m.phase x.reply refl run.3.1))
    (ends_from me n last xs answer run.3.2)

-- what a whole run ends with
pub put_outcome : (me : Who) (m last : FolderPut) (xs : List Exchange) (answer : Answer) → m.phase ≡ Opening First → Runs asks_put asked_put FedPut me m xs answer last → Outcome (any_change (items_of_all xs) ≡ true) answer (items_of_all xs) xs
put_outcome me m last xs answer e run = subst (λ (p : PutPhase). Ends (stage p) answer (items_of_all xs) xs) e (ends_from me m last xs answer run)
