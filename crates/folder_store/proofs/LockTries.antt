-- A put is busy exactly after all its tries of the lock, and has then changed nothing but that the lock file may be there.
use Rattle.std.proofs.Common.{◌≡◌, ◌⊎◌, ◌↔◌, ◌≤◌, ◌<◌, ◌+◌, ◌-◌, ◌≢◌, inl, inr, ℕ, zero, suc, nat_eq, Bool, true, false, cond, List, [], ◌∷◌, ◌++◌, length, take, refl, sym, ap, subst, ◌∙◌, arith, replicate, append_assoc}
use Rattle.std.specs.List.{AllByRecursion}
use Rattle.std.proofs.lemmas.Bool.{false≢true, eq-eqb, eqb-true}
use Rattle.std.proofs.lemmas.List.{append-nil}
use Rattle.cache_types.specs.declared.answer.Answer.{Answer}
use Rattle.cache_types.specs.declared.answer.Answer.TheVariants as answers
use Rattle.cache_types.specs.declared.key.Key.{Key}
use Rattle.cache_types.specs.declared.request.Request.{Request}
use Rattle.cache_types.specs.declared.seat.Who.{Who}
use Rattle.file_log.specs.declared.call.Call.{Call}
use Rattle.file_log.specs.declared.call.Call.TheVariants as calls
use Rattle.file_log.specs.declared.item.LogItem.{LogItem}
use Rattle.file_log.specs.declared.item.LogItem.TheVariants as items
use Rattle.file_log.specs.declared.note.Note.TheVariants as notes
use Rattle.file_log.specs.declared.reply.Reply.{Reply}
use Rattle.file_log.specs.declared.reply.Reply.TheVariants as replies
use Rattle.file_log.specs.Disk.{Disk}
use Rattle.file_log.specs.Effect.{applied}
use Rattle.file_log.specs.Exchange.{Answers, Makes, Exchange, byte_items}
use Rattle.file_log.specs.Operation.{IsStill}
use Rattle.files_api.specs.declared.machine.Step.{Step}
use Rattle.files_api.specs.declared.machine.Step.TheVariants.{Ask, Done}
use Rattle.files_api.specs.Drive.{Runs, items_of_all}
use Rattle.folder_store.specs.declared.put.FolderPut.{FolderPut}
use Rattle.folder_store.specs.declared.put_phase.PutPhase.{PutPhase}
use Rattle.folder_store.specs.declared.put_phase.PutPhase.TheVariants.{Opening}
use Rattle.folder_store.specs.declared.put_phase.Look.TheVariants.{First}
use Rattle.folder_store.specs.Locking.{lock_name, lock_replies, IsHeldOff, MakesLockAlone}
use Rattle.folder_store.specs.Readings.{Meanwhile, HasOpen}
use Rattle.cache_types.specs.declared.name.Name.{Name}
use Rattle.folder_store.specs.PutPhases.{asks_put, asked_put, FedPut}
use Rattle.folder_store.proofs.Calls.{IsLooking, item_for, makes_one}
use Rattle.folder_store.proofs.Items.{all_append}
use Rattle.folder_store.proofs.LockDisks.{opening_alone}
use Rattle.folder_store.proofs.LockStages.{LockStage, Before, Entering, Trying, Resting, Inside, Over, lock_stage, LeavesAlone, AsksIn, lock_asks, IsNoBusy, Gives, LockLeads, lock_leads}
use Rattle.folder_store.proofs.PutCalls.{put_next_of}
use Rattle.folder_store.proofs.PutLocking.{locked_still}
use Rattle.folder_store.proofs.PutSteps.{AnswersIn}
use Rattle.folder_store.proofs.Still.{looking_still}

-- ---- replies

-- the replies to all tries for a lock
abbrev pub all_replies : List LogItem → List Reply
all_replies [] = []
all_replies (items.Did who (calls.TryLock slot) reply ∷ log) = reply ∷ all_replies log
all_replies (x ∷ log) = all_replies log

pub replies-append : (xs ys : List LogItem) → all_replies (xs ++ ys) ≡ all_replies xs ++ all_replies ys
replies-append [] ys = refl
replies-append (items.Did who (calls.TryLock slot) reply ∷ xs) ys = ap (λ (l : List Reply). reply ∷ l) (replies-append xs ys)
replies-append (x ∷ xs) ys = replies-append xs ys

abbrev held_count : List Reply → ℕ
held_count [] = 0
held_count (replies.Held ∷ rest) = 1 + held_count rest
held_count (reply ∷ rest) = held_count rest

count_more : (before rest : List Reply) → held_count rest ≤ held_count (before ++ rest)
count_more [] rest = omega arith
count_more (replies.Held ∷ before) rest = omega (arith, count_more before rest)
count_more (reply ∷ before) rest = count_more before rest

count_front : (before rest : List Reply) → held_count before ≤ held_count (before ++ rest)
count_front [] rest = omega arith
count_front (replies.Held ∷ before) rest = omega (arith, count_front before rest)
count_front (reply ∷ before) rest = count_front before rest

count_held : (n : ℕ) → n ≤ held_count (replicate n replies.Held)
count_held zero = omega arith
count_held (suc n) = omega (arith, count_held n)

-- of one slot there are no more than of all
slot_fewer : (slot : ℕ) (made : List LogItem) → held_count (lock_replies slot made) ≤ held_count (all_replies made)
slot_fewer slot [] = omega arith
slot_fewer slot (items.Did who (calls.TryLock other) reply ∷ log) = by_slot (nat_eq slot other) reply (slot_fewer slot log)
  where
    by_slot : (b : Bool) (reply : Reply) → held_count (lock_replies slot log) ≤ held_count (all_replies log) → held_count (cond b (reply ∷ lock_replies slot log) (lock_replies slot log)) ≤ held_count (reply ∷ all_replies log)
    by_slot true replies.Held less = omega (arith, less)
    by_slot false replies.Held less = omega (arith, less)
    by_slot true reply less = less
    by_slot false reply less = less
slot_fewer slot (x ∷ log) = slot_fewer slot log

row_counts : (root : ℕ) (key : Key) (made : List LogItem) → IsHeldOff root key made → 64 ≤ held_count (all_replies made)
row_counts root key made off =
    let row : 64 ≤ held_count (lock_replies off.slot off.tries) = rw off.held (count_held 64) in
    let here : held_count (all_replies off.tries) ≤ held_count (all_replies (off.tries ++ off.later)) = rw (replies-append off.tries off.later) (count_front (all_replies off.tries) (all_replies off.later)) in
    let there : held_count (all_replies (off.tries ++ off.later)) ≤ held_count (all_replies (off.before ++ (off.tries ++ off.later))) = rw (replies-append off.before (off.tries ++ off.later)) (count_more (all_replies off.before) (all_replies (off.tries ++ off.later))) in
    rw off.made_are omega (arith, row, slot_fewer off.slot off.tries, here, there)

-- the reply of a try that didn't fail
abbrev tries_in : Reply → List Reply
tries_in replies.Failed = []
tries_in replies.NoMemory = []
tries_in reply = reply ∷ []

-- ---- calls that try no lock

bytes_none : (me : Who) (slot at : ℕ) (bytes : List ℕ) (rest : List LogItem) → all_replies (byte_items me slot at bytes ++ rest) ≡ all_replies rest
bytes_none me slot at [] rest = refl
bytes_none me slot at (value ∷ bytes) rest = bytes_none me slot (at + 1) bytes rest

abbrev pub IsNoTry : Call → Type 0
IsNoTry (calls.TryLock slot) = ⊥
IsNoTry call = Unit {0}

written_none : (me : Who) (slot at : ℕ) (bytes : List ℕ) (made : List LogItem) (b : Bool) → made ≡ cond b (items.Did me (calls.WriteAt slot at bytes) replies.Done ∷ []) (byte_items me slot at bytes) → all_replies made ≡ []
written_none me slot at bytes made true e = ap all_replies e
written_none me slot at bytes made false e = ap all_replies (e ∙ sym (append-nil (byte_items me slot at bytes))) ∙ bytes_none me slot at bytes []

pub no_try : (me : Who) (call : Call) (reply : Reply) (made : List LogItem) → IsNoTry call → Makes me true call reply made → all_replies made ≡ []
no_try me (calls.TryLock slot) reply made calm makes = absurd calm
no_try me (calls.WriteAt slot at bytes) replies.Done made calm makes = written_none me slot at bytes made (nat_eq (length bytes) 0) makes
no_try me (calls.WriteAt slot at bytes) replies.Failed made calm makes = ap all_replies makes.1 ∙ bytes_none me slot at (take makes.0 bytes) (items.Failed me false ∷ [])
no_try me (calls.WriteAt slot at bytes) replies.NoMemory made calm makes = ap all_replies makes.1 ∙ bytes_none me slot at (take makes.0 bytes) (items.Failed me true ∷ [])
no_try me (calls.Tell (notes.Begin request)) replies.Done made calm makes = ap all_replies makes
no_try me (calls.Tell (notes.Evict store driver key)) replies.Done made calm makes = ap all_replies makes
no_try me (calls.Tell (notes.End answer)) replies.Done made calm makes = ap all_replies makes
no_try me call replies.Done made calm makes = ap all_replies makes
no_try me call replies.Failed made calm makes = ap all_replies makes.1
no_try me call replies.NoMemory made calm makes = ap all_replies makes.1
no_try me call reply made calm makes = ap all_replies makes

pub looking_no_try : (call : Call) → IsLooking call → IsNoTry call
looking_no_try (calls.TryLock slot) looks = absurd looks
looking_no_try call looks = tt

pub alone_no_try : (root : ℕ) (key : Key) (call : Call) → LeavesAlone root key call → IsNoTry call
alone_no_try root key (calls.TryLock slot) leaves = absurd leaves
alone_no_try root key call leaves = tt

-- ---- items that change nothing but the lock file

pub still_alone : (root : ℕ) (key : Key) (d d' : Disk) → IsStill d d' → MakesLockAlone root key d d'
still_alone root key d d' still = record {
  names = λ name other. still.names name;
  kept = λ file is. still.names (lock_name root key) ∙ is;
  files = λ file below. still.files file;
  empty = λ file is. inl (sym (still.names (lock_name root key)) ∙ is);
}

module _ (me : Who) (root : ℕ) (key : Key) where
  abbrev pub IsCalm : LogItem → Type 0
  IsCalm x = (d : Disk) → MakesLockAlone root key d (applied d x)

  abbrev pub AreCalm : List LogItem → Type 0
  AreCalm made = AllByRecursion IsCalm made

  pub nothing_calm : (d : Disk) → MakesLockAlone root key d d
  nothing_calm d = still_alone root key d d (record { names = λ name. refl; files = λ f. refl })

  looking_calm : (call : Call) (reply : Reply) (made : List LogItem) → IsLooking call → Makes me true call reply made → AreCalm made
  looking_calm call reply made looks makes = subst AreCalm (sym (makes_one me call reply made looks makes)) (λ d. still_alone root key d (applied d (item_for me call reply)) (looking_still me call reply looks d), tt)

  opening_calm : (reply : Reply) (made : List LogItem) → Answers true (calls.OpenNew 0 (lock_name root key)) reply → Makes me true (calls.OpenNew 0 (lock_name root key)) reply made → AreCalm made
  opening_calm replies.Done made fits makes = subst AreCalm (sym makes) (λ d. opening_alone me root key d, tt)
  opening_calm replies.Failed made fits makes = subst AreCalm (sym makes.1) (nothing_calm, tt)
  opening_calm replies.NoMemory made fits makes = subst AreCalm (sym makes.1) (nothing_calm, tt)
  opening_calm reply made fits makes = absurd fits

  trying_calm : (reply : Reply) (made : List LogItem) → Answers true (calls.TryLock 0) reply → Makes me true (calls.TryLock 0) reply made → AreCalm made
  trying_calm replies.Done made fits makes = subst AreCalm (sym makes) (λ d. still_alone root key d (applied d (items.Did me (calls.TryLock 0) replies.Done)) (locked_still d me 0 (d.slots me 0)), tt)
  trying_calm replies.Held made fits makes = subst AreCalm (sym makes) (nothing_calm, tt)
  trying_calm replies.Failed made fits makes = subst AreCalm (sym makes.1) (nothing_calm, tt)
  trying_calm replies.NoMemory made fits makes = subst AreCalm (sym makes.1) (nothing_calm, tt)
  trying_calm reply made fits makes = absurd fits

  pausing_calm : (reply : Reply) (made : List LogItem) → Answers true calls.Pause reply → Makes me true calls.Pause reply made → AreCalm made
  pausing_calm replies.Done made fits makes = subst AreCalm (sym makes) (nothing_calm, tt)
  pausing_calm replies.Failed made fits makes = subst AreCalm (sym makes.1) (nothing_calm, tt)
  pausing_calm replies.NoMemory made fits makes = subst AreCalm (sym makes.1) (nothing_calm, tt)
  pausing_calm reply made fits makes = absurd fits

  -- ---- items that the seat is held off by

  -- so many tries of slot 0 in a row, first of all
  pub record Row (n : ℕ) (made : List LogItem) : Type 0 where
    pub tries : List LogItem
    pub later : List LogItem
    pub made_are : made ≡ tries ++ later
    pub meanwhile : Meanwhile 0 tries
    pub held : lock_replies 0 tries ≡ replicate n replies.Held

  abbrev IsOff : List LogItem → Type 0
  IsOff made = IsHeldOff root key made

  -- more items before them
  pub open_later : (slot : ℕ) (name : Name) (xs made : List LogItem) → HasOpen slot name made → HasOpen slot name (xs ++ made)
  open_later slot name xs made h = record {
    before = xs ++ h.before;
    opening = h.opening;
    since = h.since;
    made_are = ap (λ (l : List LogItem). xs ++ l) h.made_are ∙ sym (append_assoc xs h.before (h.opening ∷ h.since));
    opens = h.opens;
    meanwhile = h.meanwhile;
  }

  off_later : (xs made : List LogItem) → IsOff made → IsOff (xs ++ made)
  off_later xs made off = record {
    before = xs ++ off.before;
    tries = off.tries;
    later = off.later;
    made_are = ap (λ (l : List LogItem). xs ++ l) off.made_are ∙ sym (append_assoc xs off.before (off.tries ++ off.later));
    slot = off.slot;
    file = open_later off.slot (lock_name root key) xs off.before off.file;
    meanwhile = off.meanwhile;
    held = off.held;
  }

  -- and behind them
  off_front : (made ys : List LogItem) → IsOff made → IsOff (made ++ ys)
  off_front made ys off = record {
    before = off.before;
    tries = off.tries;
    later = off.later ++ ys;
    made_are = ap (λ (l : List LogItem). l ++ ys) off.made_are ∙ append_assoc off.before (off.tries ++ off.later) ys ∙ ap (λ (l : List LogItem). off.before ++ l) (append_assoc off.tries off.later ys);
    slot = off.slot;
    file = off.file;
    meanwhile = off.meanwhile;
    held = off.held;
  }

  -- the lock file was opened first of all
  row_off : (rest : List LogItem) → Row 64 rest → IsOff (items.Did me (calls.OpenNew 0 (lock_name root key)) replies.Done ∷ rest)
  row_off rest row =
      let x : LogItem = items.Did me (calls.OpenNew 0 (lock_name root key)) replies.Done in
      record {
        before = x ∷ [];
        tries = row.tries;
        later = row.later;
        made_are = ap (λ (l : List LogItem). x ∷ l) row.made_are;
        slot = 0;
        file = record { before = []; opening = x; since = []; made_are = refl; opens = (refl, refl); meanwhile = refl };
        meanwhile = row.meanwhile;
        held = row.held;
      }

  row_held : (n : ℕ) (rest : List LogItem) → Row n rest → Row (suc n) (items.Did me (calls.TryLock 0) replies.Held ∷ rest)
  row_held n rest row =
      let x : LogItem = items.Did me (calls.TryLock 0) replies.Held in
      record { tries = x ∷ row.tries; later = row.later; made_are = ap (λ (l : List LogItem). x ∷ l) row.made_are; meanwhile = row.meanwhile; held = ap (λ (l : List Reply). replies.Held ∷ l) row.held }

  row_paused : (n : ℕ) (rest : List LogItem) → Row n rest → Row n (items.Did me calls.Pause replies.Done ∷ rest)
  row_paused n rest row =
      let x : LogItem = items.Did me calls.Pause replies.Done in
      record { tries = x ∷ row.tries; later = row.later; made_are = ap (λ (l : List LogItem). x ∷ l) row.made_are; meanwhile = row.meanwhile; held = row.held }

  -- ---- what a run ends with, with so many tries left

  pub record Tried (n : ℕ) (Off : List LogItem → Type 0) (answer : Answer) (made : List LogItem) : Type 0 where
    pub off : answer ≡ answers.Busy → Off made
    pub few : (answer ≡ answers.Busy) ⊎ (held_count (all_replies made) < n)
    pub calm : answer ≡ answers.Busy → AreCalm made

  -- it isn't busy, and tries no more
  pub record Takes (answer : Answer) (made : List LogItem) : Type 0 where
    pub free : answer ≡ answers.Busy → ⊥
    pub none : all_replies made ≡ []

  -- its answer stands fast
  pub record Closes (given answer : Answer) (made : List LogItem) : Type 0 where
    pub same : answer ≡ given
    pub none : all_replies made ≡ []
    pub calm : AreCalm made

  abbrev Ends : LockStage → Answer → List LogItem → Type 0
  Ends Before answer made = Tried 64 IsOff answer made
  Ends Entering answer made = Tried 64 IsOff answer made
  Ends (Trying again) answer made = Tried (suc again) (Row (suc again)) answer made
  Ends (Resting again) answer made = Tried (suc again) (Row (suc again)) answer made
  Ends Inside answer made = Takes answer made
  Ends (Over given) answer made = Closes given answer made

  no_busy : (given answer : Answer) → IsNoBusy given → answer ≡ given → answer ≡ answers.Busy → ⊥
  no_busy given answer none same busy = subst IsNoBusy (sym same ∙ busy) none

  module _ (answer : Answer) (made rest : List LogItem) where
    joined : (us vs : List Reply) → all_replies made ≡ us → all_replies rest ≡ vs → all_replies (made ++ rest) ≡ us ++ vs
    joined us vs a b = replies-append made rest ∙ rw (a, b) refl

    -- a call without a try goes on
    onward : (n : ℕ) (Off Off' : List LogItem → Type 0) → all_replies made ≡ [] → AreCalm made → (Off' rest → Off (made ++ rest)) → Tried n Off' answer rest → Tried n Off answer (made ++ rest)
    onward n Off Off' none calm on t =
        let same : all_replies (made ++ rest) ≡ all_replies rest = joined [] (all_replies rest) none refl in
        record { off = λ e. on (t.off e); few = rw same t.few; calm = λ e. all_append IsCalm made rest calm (t.calm e) }

    -- it gives up, or takes the lock, with no reply Held so far
    stops : (n : ℕ) (Off : List LogItem → Type 0) (us : List Reply) → all_replies made ≡ us → held_count (us ++ []) < n → (answer ≡ answers.Busy → ⊥) → all_replies rest ≡ [] → Tried n Off answer (made ++ rest)
    stops n Off us now few free none = record {
      off = λ e. absurd (free e);
      few = inr (rw (joined us [] now none) few);
      calm = λ e. absurd (free e);
    }

    gives : (n : ℕ) (Off : List LogItem → Type 0) (next : LockStage) → 0 < n → all_replies made ≡ [] → Gives next → Ends next answer rest → Tried n Off answer (made ++ rest)
    gives n Off (Over given) some now fine c = stops n Off [] now some (no_busy given answer fine c.same) c.none
    gives n Off next some now fine c = absurd fine

    -- another seat holds the lock
    held_on : (again : ℕ) (b : Bool) → nat_eq again 0 ≡ b → made ≡ items.Did me (calls.TryLock 0) replies.Held ∷ [] → AreCalm made → Ends (cond b (Over answers.Busy) (Resting (again - 1))) answer rest → Tried (suc again) (Row (suc again)) answer (made ++ rest)
    held_on again true last is calm c =
        let none : again ≡ 0 = eqb-true again 0 last in
        let row : Row 1 (made ++ rest) = subst (λ (l : List LogItem). Row 1 (l ++ rest)) (sym is) (row_held 0 rest (record { tries = []; later = rest; made_are = refl; meanwhile = refl; held = refl })) in
        record {
          off = λ e. subst (λ (n : ℕ). Row (suc n) (made ++ rest)) (sym none) row;
          few = inl c.same;
          calm = λ e. all_append IsCalm made rest calm c.calm;
        }
    held_on again false more is calm t =
        let some : again ≢ 0 = λ is'. false≢true (sym more ∙ eq-eqb again 0 is') in
        let next : suc (again - 1) ≡ again = omega (arith, some) in
        record {
          off = λ e. subst (λ (n : ℕ). Row (suc n) (made ++ rest)) next (subst (λ (l : List LogItem). Row (suc (suc (again - 1))) (l ++ rest)) (sym is) (row_held (suc (again - 1)) rest (t.off e)));
          few = by_few t.few;
          calm = λ e. all_append IsCalm made rest calm (t.calm e);
        }
      where
        by_few : (answer ≡ answers.Busy) ⊎ (held_count (all_replies rest) < suc (again - 1)) → (answer ≡ answers.Busy) ⊎ (held_count (all_replies (made ++ rest)) < suc again)
        by_few (inl e) = inl e
        by_few (inr less) =
            let some : again ≢ 0 = λ is'. false≢true (sym more ∙ eq-eqb again 0 is') in
            inr (rw (joined (replies.Held ∷ []) (all_replies rest) (ap all_replies is) refl) omega (arith, less, some))

  tried_replies : (reply : Reply) (made : List LogItem) → Makes me true (calls.TryLock 0) reply made → Answers true (calls.TryLock 0) reply → all_replies made ≡ tries_in reply
  tried_replies replies.Done made makes fits = ap all_replies makes
  tried_replies replies.Held made makes fits = ap all_replies makes
  tried_replies replies.Failed made makes fits = ap all_replies makes.1
  tried_replies replies.NoMemory made makes fits = ap all_replies makes.1
  tried_replies reply made makes fits = absurd fits

  -- ---- one call more

  abbrev Made : Call → Reply → List LogItem → Type 0
  Made call reply made = Answers true call reply × Makes me true call reply made

  step : (now next : LockStage) (call : Call) (reply : Reply) (answer : Answer) (made rest : List LogItem) → AsksIn root key now (Ask call) → Made call reply made → LockLeads now reply next → Ends next answer rest → Ends now answer (made ++ rest)
  step Before Before call reply answer made rest asks m l t = onward answer made rest 64 IsOff IsOff (no_try me call reply made (looking_no_try call asks) m.1) (looking_calm call reply made asks m.1) (off_later made rest) t
  step Before Entering call reply answer made rest asks m l t = onward answer made rest 64 IsOff IsOff (no_try me call reply made (looking_no_try call asks) m.1) (looking_calm call reply made asks m.1) (off_later made rest) t
  step Before (Over given) call reply answer made rest asks m l c = gives answer made rest 64 IsOff (Over given) (omega arith) (no_try me call reply made (looking_no_try call asks) m.1) l c
  step Before next call reply answer made rest asks m l t = absurd l
  step Entering next call replies.Done answer made rest asks m l t =
      let m' : Made (calls.OpenNew 0 (lock_name root key)) replies.Done made = subst (λ (c : Call). Made c replies.Done made) (sym asks) m in
      let opened : Row 64 rest → IsOff (made ++ rest) = λ row. subst (λ (l : List LogItem). IsOff (l ++ rest)) (sym m'.1) (row_off rest row) in
      onward answer made rest 64 IsOff (Row 64) (no_try me (calls.OpenNew 0 (lock_name root key)) replies.Done made tt m'.1) (opening_calm replies.Done made m'.0 m'.1) opened (subst (λ (n : LockStage). Ends n answer rest) l t)
  step Entering next call reply answer made rest asks m l t =
      let m' : Made (calls.OpenNew 0 (lock_name root key)) reply made = subst (λ (c : Call). Made c reply made) (sym asks) m in
      gives answer made rest 64 IsOff next (omega arith) (no_try me (calls.OpenNew 0 (lock_name root key)) reply made tt m'.1) l t
  step (Trying again) next call reply answer made rest asks m l t = tries again next reply answer made rest (subst (λ (c : Call). Made c reply made) (sym asks) m) l t
    where
      tries : (again : ℕ) (next : LockStage) (reply : Reply) (answer : Answer) (made rest : List LogItem) → Made (calls.TryLock 0) reply made → LockLeads (Trying again) reply next → Ends next answer rest → Tried (suc again) (Row (suc again)) answer (made ++ rest)
      tries again next replies.Done answer made rest m l t =
          let took : Takes answer rest = subst (λ (n : LockStage). Ends n answer rest) l t in
          stops answer made rest (suc again) (Row (suc again)) (replies.Done ∷ []) (tried_replies replies.Done made m.1 m.0) (omega arith) took.free took.none
      tries again next replies.Held answer made rest m l t =
          held_on answer made rest again (nat_eq again 0) refl m.1 (trying_calm replies.Held made m.0 m.1) (subst (λ (n : LockStage). Ends n answer rest) l t)
      tries again next replies.Failed answer made rest m l t = gives answer made rest (suc again) (Row (suc again)) next (omega arith) (tried_replies replies.Failed made m.1 m.0) l t
      tries again next replies.NoMemory answer made rest m l t = gives answer made rest (suc again) (Row (suc again)) next (omega arith) (tried_replies replies.NoMemory made m.1 m.0) l t
      tries again next reply answer made rest m l t = absurd m.0
  step (Resting again) next call replies.Done answer made rest asks m l t =
      let m' : Made calls.Pause replies.Done made = subst (λ (c : Call). Made c replies.Done made) (sym asks) m in
      let paused : Row (suc again) rest → Row (suc again) (made ++ rest) = λ row. subst (λ (l : List LogItem). Row (suc again) (l ++ rest)) (sym m'.1) (row_paused (suc again) rest row) in
      onward answer made rest (suc again) (Row (suc again)) (Row (suc again)) (no_try me calls.Pause replies.Done made tt m'.1) (pausing_calm replies.Done made m'.0 m'.1) paused (subst (λ (n : LockStage). Ends n answer rest) l t)
  step (Resting again) next call reply answer made rest asks m l t =
      let m' : Made calls.Pause reply made = subst (λ (c : Call). Made c reply made) (sym asks) m in
      gives answer made rest (suc again) (Row (suc again)) next (omega arith) (no_try me calls.Pause reply made tt m'.1) l t
  step Inside Inside call reply answer made rest asks m l t = record { free = t.free; none = joined answer made rest [] [] (no_try me call reply made (alone_no_try root key call asks) m.1) t.none }
  step Inside (Over given) call reply answer made rest asks m l c = record { free = no_busy given answer l c.same; none = joined answer made rest [] [] (no_try me call reply made (alone_no_try root key call asks) m.1) c.none }
  step Inside next call reply answer made rest asks m l t = absurd l
  step (Over given) next call reply answer made rest asks m l t =
      let c : Closes given answer rest = subst (λ (n : LockStage). Ends n answer rest) l t in
      record {
        same = c.same;
        none = joined answer made rest [] [] (no_try me call reply made (looking_no_try call asks) m.1) c.none;
        calm = all_append IsCalm made rest (looking_calm call reply made asks m.1) c.calm;
      }

  -- ---- a whole run

  last_ends : (s : LockStage) (answer : Answer) → AsksIn root key s (Done answer) → Ends s answer []
  last_ends (Over given) answer asks = record { same = sym asks; none = refl; calm = tt }
  last_ends s answer asks = absurd asks

  -- the machine is a put of this key in this root
  pub record IsOf (m : FolderPut) : Type 0 where
    pub root_is : m.root ≡ root
    pub key_is : m.key ≡ key

  pub asks_of : (m : FolderPut) → IsOf m → AsksIn root key (lock_stage m.phase) (asks_put m)
  asks_of m of =
      let here = lock_asks m.root m.key m.item m.phase in
      let at_root = subst (λ (r : ℕ). AsksIn r m.key (lock_stage m.phase) (asks_put m)) of.root_is here in
      subst (λ (k : Key). AsksIn root k (lock_stage m.phase) (asks_put m)) of.key_is at_root

  pub still_of : (m n : FolderPut) (reply : Reply) → IsOf m → FedPut (asked_put m) reply n → IsOf n
  still_of m n reply of fed = record { root_is = ap (λ (x : FolderPut). x.root) fed.1 ∙ of.root_is; key_is = ap (λ (x : FolderPut). x.key) fed.1 ∙ of.key_is }

  pub leads_of : (m n : FolderPut) (call : Call) (reply : Reply) → asks_put m ≡ Ask call → Answers true call reply → FedPut (asked_put m) reply n → LockLeads (lock_stage m.phase) reply (lock_stage n.phase)
  leads_of m n call reply e fits fed =
      lock_leads m.root m.key m.item m.driver m.phase reply n.phase (subst (λ (s : Step). AnswersIn s reply) (sym e) fits) (put_next_of m n m.phase reply refl fed)

  ends_from : (m last : FolderPut) (xs : List Exchange) (answer : Answer) → IsOf m → Runs asks_put asked_put FedPut me m xs answer last → Ends (lock_stage m.phase) answer (items_of_all xs)
  ends_from m last [] answer of run = last_ends (lock_stage m.phase) answer (subst (AsksIn root key (lock_stage m.phase)) run.0 (asks_of m of))
  ends_from m last (x ∷ xs) answer of run =
      let n = run.3.0 in
      step (lock_stage m.phase) (lock_stage n.phase) x.call x.reply answer x.items (items_of_all xs) (subst (AsksIn root key (lock_stage m.phase)) run.0 (asks_of m of)) (run.1, run.2) (leads_of m n x.call x.reply run.0 run.1 run.3.1)
      (ends_from n last xs answer (still_of m n x.reply of run.3.1) run.3.2)

  pub tried_lock : (m last : FolderPut) (xs : List Exchange) (answer : Answer) → IsOf m → m.phase ≡ Opening First → Runs asks_put asked_put FedPut me m xs answer last → Tried 64 IsOff answer (items_of_all xs)
  tried_lock m last xs answer of e run = subst (λ (p : PutPhase). Ends (lock_stage p) answer (items_of_all xs)) e (ends_from m last xs answer of run)

  -- a put is busy exactly where it was held off
  pub busy_is : (answer : Answer) (made : List LogItem) → Tried 64 IsOff answer made → (answer ≡ answers.Busy) ↔ IsHeldOff root key made
  busy_is answer made t = (t.off, λ off. by_few off t.few)
    where
      by_few : IsHeldOff root key made → (answer ≡ answers.Busy) ⊎ (held_count (all_replies made) < 64) → answer ≡ answers.Busy
      by_few off (inl e) = e
      by_few off (inr less) = absurd (omega (arith, less, row_counts root key made off))

  -- an operation that tried nothing and found no memory
  pub never_tried : (answer : Answer) (made : List LogItem) → answer ≡ answers.NoMemory → all_replies made ≡ [] → Tried 64 IsOff answer made
  never_tried answer made same none = record {
    off = λ e. absurd (clash e);
    few = inr (rw none omega arith);
    calm = λ e. absurd (clash e);
  }
    where
      clash : answer ≡ answers.Busy → ⊥
      clash e = let both : answers.NoMemory ≡ answers.Busy = sym same ∙ e in absurd cc

  -- the same from a Begin to an End
  pub whole_replies : (request : Request) (answer : Answer) (inner : List LogItem) → all_replies (items.Begin me request ∷ (inner ++ items.End me answer ∷ [])) ≡ all_replies inner
  whole_replies request answer inner = replies-append inner (items.End me answer ∷ []) ∙ append-nil (all_replies inner)

  pub whole_calm : (request : Request) (answer : Answer) (inner : List LogItem) → AreCalm inner → AreCalm (items.Begin me request ∷ (inner ++ items.End me answer ∷ []))
  whole_calm request answer inner calm = (nothing_calm, all_append IsCalm inner (items.End me answer ∷ []) calm (nothing_calm, tt))

  pub whole_tried : (request : Request) (given answer : Answer) (inner : List LogItem) → Tried 64 IsOff given inner → Tried 64 IsOff given (items.Begin me request ∷ (inner ++ items.End me answer ∷ []))
  whole_tried request given answer inner t = record {
    off = λ e. off_later (items.Begin me request ∷ []) (inner ++ items.End me answer ∷ []) (off_front inner (items.End me answer ∷ []) (t.off e));
    few = rw (whole_replies request answer inner) t.few;
    calm = λ e. whole_calm request answer inner (t.calm e);
  }
