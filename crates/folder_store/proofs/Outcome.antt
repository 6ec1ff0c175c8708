-- Which answer a lookup ends with, what it rests on, and that a fault is one that its log tells.
use Rattle.std.proofs.Common.{◌≡◌, ◌⊎◌, inl, inr, ℕ, Bool, true, false, ◌||◌, List, [], ◌∷◌, ◌++◌, Option, Some, None, refl, sym, ap, subst, ◌∙◌}
use Rattle.std.proofs.lemmas.List.Concat.{flat_map-append}
use Rattle.std.proofs.lemmas.List.Folds.{list_any-append}
use Rattle.cache_types.specs.Driver.{DriverKeys}
use Rattle.cache_types.specs.declared.answer.Answer.{Answer}
use Rattle.cache_types.specs.declared.answer.Answer.TheVariants as answers
use Rattle.cache_types.specs.declared.key.Key.{Key}
use Rattle.cache_types.specs.declared.limits.TheConstants.{MAX_ITEM}
use Rattle.cache_types.specs.declared.name.Name.TheVariants.{Entry}
use Rattle.cache_types.specs.declared.seat.Who.{Who}
use Rattle.file_log.specs.declared.call.Call.{Call}
use Rattle.file_log.specs.declared.item.LogItem.{LogItem}
use Rattle.file_log.specs.declared.reply.Reply.{Reply}
use Rattle.file_log.specs.declared.reply.Reply.TheVariants as replies
use Rattle.file_log.specs.Exchange.{Makes, Exchange}
use Rattle.files_api.specs.declared.machine.Step.{Step}
use Rattle.files_api.specs.Drive.{Runs, items_of_all, SomeFailed}
use Rattle.item_frame.specs.Item.{Reads}
use Rattle.machine_parts.specs.declared.whole.Whole.TheVariants.{Going}
use Rattle.machine_parts.proofs.Ends.{Comes, HasEnded, Came, Failed, Lacked, whole_ends, AnswersFaults, whole_faults, Judging, judged_comes}
use Rattle.machine_parts.proofs.Readings.{HasRead, reading_comes}
use Rattle.machine_parts.specs.Reading.{reading_asks, reading_next}
use Rattle.folder_store.specs.declared.get.EntryFile.{EntryFile}
use Rattle.folder_store.specs.declared.get.ForDriver.{ForDriver}
use Rattle.folder_store.specs.Finds.{Finds}
use Rattle.folder_store.specs.Gets.{entry_name, JudgesFor, GetPart, FolderGet, part_asks, part_asked, PartFed, part_slots, get_asks, get_asked, GetFed, IsNewPart, IsNew}
use Rattle.folder_store.specs.Lookup.{IsLookupAnswer}
use Rattle.folder_store.proofs.Calls.{new_going}
use Rattle.folder_store.proofs.Items.{any_fault, failures_told, failure_of, tests_faults, refused_no_fault}

-- ---- a call that fails is told as a fault

failure_fault : (me : Who) (call : Call) (reply : Reply) → reply ≡ replies.Failed → any_fault (failure_of me call reply) ≡ true
failure_fault me call reply e = rw e refl

fault_failure : (me : Who) (call : Call) (reply : Reply) → any_fault (failure_of me call reply) ≡ true → reply ≡ replies.Failed
fault_failure me call replies.Failed e = refl
fault_failure me call replies.NoMemory e = let clash : false ≡ true = sym (refused_no_fault me call) ∙ e in absurd cc
fault_failure me call reply e = absurd cc

one_of : (a b : Bool) → (a || b) ≡ true → (a ≡ true) ⊎ (b ≡ true)
one_of true b e = inl refl
one_of false b e = inr e

or_true : (a b : Bool) → b ≡ true → (a || b) ≡ true
or_true true b e = refl
or_true false b e = e

module _ {M : Type 0} (asks : M → Step) (asked : M → M) (fed : M → Reply → M → Type 0) (me : Who) where
  told_of : (call : Call) (reply : Reply) (made : List LogItem) → Makes me true call reply made → any_fault made ≡ any_fault (failure_of me call reply)
  told_of call reply made makes = failures_told me _ (tests_faults me) call reply made makes

  pub faults_told : (m last : M) (xs : List Exchange) (answer : Answer) → Runs asks asked fed me m xs answer last → SomeFailed xs → any_fault (items_of_all xs) ≡ true
  faults_told m last [] answer run some = absurd some
  faults_told m last (x ∷ xs) answer run (inl e) = list_any-append _ x.items (items_of_all xs) ∙ ap (λ (b : Bool). b || any_fault (items_of_all xs)) (told_of x.call x.reply x.items run.2 ∙ failure_fault me x.call x.reply e)
  faults_told m last (x ∷ xs) answer run (inr more) = list_any-append _ x.items (items_of_all xs) ∙ or_true (any_fault x.items) (any_fault (items_of_all xs)) (faults_told run.3.0 last xs answer run.3.2 more)

  pub faults_only : (m last : M) (xs : List Exchange) (answer : Answer) → Runs asks asked fed me m xs answer last → any_fault (items_of_all xs) ≡ true → SomeFailed xs
  faults_only m last [] answer run e = absurd cc
  faults_only m last (x ∷ xs) answer run e = elim (one_of (any_fault x.items) (any_fault (items_of_all xs)) (sym (list_any-append _ x.items (items_of_all xs)) ∙ e)) [
    | inl one ↦ inl (fault_failure me x.call x.reply (sym (told_of x.call x.reply x.items run.2) ∙ one))
    | inr more ↦ inr (faults_only run.3.0 last xs answer run.3.2 more)
  ]

-- ---- what a lookup has read, and what it makes of it

-- what a lookup made of what it read: its items, and those that close what is open
pub record HasLooked (me : Who) (root : ℕ) (driver : DriverKeys) (key : Key) (answer : Answer) (made : List LogItem) : Type 0 where
  pub judge : ForDriver
  pub driver_is : judge.driver ≡ driver
  pub given : Option (List ℕ)
  pub read : List LogItem
  pub closing : List LogItem
  pub made_are : made ≡ read ++ closing
  pub has_read : HasRead me 1 MAX_ITEM (Entry root key) given read
  pub judged : JudgesFor judge given answer

-- what it ends with: what it made of what it read, a fault, or want of memory
abbrev pub EndsSo : Who → ℕ → DriverKeys → Key → Answer → List LogItem → Type 0
EndsSo me root driver key answer made = HasLooked me root driver key answer made ⊎ ((answer ≡ answers.FilesFault) ⊎ (answer ≡ answers.NoMemory))

module _ (me : Who) (root : ℕ) (driver : DriverKeys) (key : Key) where
  abbrev PartComes : GetPart → List Exchange → Answer → Type 0
  PartComes p xs answer = Comes part_asks part_asked PartFed me p xs answer

  abbrev Ended : GetPart → Answer → List Exchange → Type 0
  Ended p answer xs = HasEnded part_asks part_asked PartFed part_slots me p answer xs

  has_judged : (p : GetPart) (xs : List Exchange) (answer : Answer) → PartComes p xs answer → Judging (reading_asks 1 entry_name) (λ r. r) (λ m reply a. a ≡ reading_next MAX_ITEM m reply) JudgesFor me p xs answer
  has_judged p xs answer c = judged_comes (reading_asks 1 entry_name) (λ r. r) (λ m reply a. a ≡ reading_next MAX_ITEM m reply) JudgesFor me p xs answer c

  ended_so : (p : GetPart) (answer : Answer) (xs : List Exchange) → IsNewPart root driver key p → Ended p answer xs → EndsSo me root driver key answer (items_of_all xs)
  ended_so p answer xs new (Came ys zs e c z) =
      let j = has_judged p ys answer c in
      inl (record {
        judge = p.judge;
        driver_is = new.driver_is;
        given = j.given;
        read = items_of_all ys;
        closing = items_of_all zs;
        made_are = ap items_of_all e ∙ flat_map-append _ ys zs;
        has_read = subst (λ (f : EntryFile). HasRead me 1 MAX_ITEM (entry_name f) j.given (items_of_all ys)) new.file_is (reading_comes me 1 MAX_ITEM entry_name p.part j.given ys new.opening j.comes);
        judged = j.judged;
      })
  ended_so p answer xs new (Failed ys zs e b z a) = inr (inl a)
  ended_so p answer xs new (Lacked ys zs e b z a) = inr (inr a)

  ended_of : (p : GetPart) (m last : FolderGet) (xs : List Exchange) (answer : Answer) → m ≡ Going p → Runs get_asks get_asked GetFed me m xs answer last → Ended p answer xs
  ended_of p m last xs answer going run = whole_ends part_asks part_asked PartFed part_slots me p m last xs answer going run

  pub looked_so : (m last : FolderGet) (xs : List Exchange) (answer : Answer) → IsNew root driver key m → Runs get_asks get_asked GetFed me m xs answer last → EndsSo me root driver key answer (items_of_all xs)
  looked_so m last xs answer new run = let g = new_going root driver key m new in ended_so g.0 answer xs g.2 (ended_of g.0 m last xs answer g.1 run)

  -- ---- its answer

  no_fault_found : (judge : ForDriver) (given : Option (List ℕ)) → JudgesFor judge given answers.FilesFault → ⊥
  no_fault_found judge None j = absurd cc
  no_fault_found judge (Some bytes) j = j

  never_faults : (p : GetPart) (ys : List Exchange) → PartComes p ys answers.FilesFault → ⊥
  never_faults p ys c = let j = has_judged p ys answers.FilesFault c in no_fault_found p.judge j.given j.judged

  found_kind : (Held : List ℕ → Type 0) (answer : Answer) → Finds Held answer → IsLookupAnswer answer
  found_kind Held (answers.Hit blob) f = tt
  found_kind Held answers.Miss f = tt
  found_kind Held answers.NoMemory f = tt
  found_kind Held answer f = absurd f

  judged_kind : (judge : ForDriver) (given : Option (List ℕ)) (answer : Answer) → JudgesFor judge given answer → IsLookupAnswer answer
  judged_kind judge None answer j = rw j tt
  judged_kind judge (Some bytes) answer j = found_kind (Reads judge.driver bytes) answer j

  ends_kind : (answer : Answer) (made : List LogItem) → EndsSo me root driver key answer made → IsLookupAnswer answer
  ends_kind answer made (inl l) = judged_kind l.judge l.given answer l.judged
  ends_kind answer made (inr (inl e)) = rw e tt
  ends_kind answer made (inr (inr e)) = rw e tt

  -- what a run ends with: an answer of a lookup, and a fault exactly where a call failed
  pub record Outcome (answer : Answer) (made : List LogItem) (xs : List Exchange) : Type 0 where
    pub kind : IsLookupAnswer answer
    pub told : answer ≡ answers.FilesFault → any_fault made ≡ true
    pub only : any_fault made ≡ true → answer ≡ answers.FilesFault
    pub failed : answer ≡ answers.FilesFault → SomeFailed xs

  pub outcome : (m last : FolderGet) (xs : List Exchange) (answer : Answer) → IsNew root driver key m → Runs get_asks get_asked GetFed me m xs answer last → Outcome answer (items_of_all xs) xs
  outcome m last xs answer new run =
      let g = new_going root driver key m new in
      let faults = whole_faults part_asks part_asked PartFed part_slots me g.0 answer xs (never_faults g.0) (ended_of g.0 m last xs answer g.1 run) in
      record {
        kind = ends_kind answer (items_of_all xs) (looked_so m last xs answer new run);
        told = λ fault. faults_told get_asks get_asked GetFed me m last xs answer run (faults.told fault);
        only = λ some. faults.only (faults_only get_asks get_asked GetFed me m last xs answer run some);
        failed = faults.told;
      }
