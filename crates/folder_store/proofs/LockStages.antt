-- How a put comes to its folder's lock: what it asks at each stage, and where a reply leads.
use Rattle.std.proofs.Common.{◌≡◌, inl, inr, ℕ, ◌-◌, Bool, true, false, cond, nat_eq, nat_lt, List, refl, if◌then◌else◌}
use Rattle.cache_types.specs.Driver.{DriverKeys}
use Rattle.cache_types.specs.Names.{same_name}
use Rattle.cache_types.specs.declared.answer.Answer.{Answer}
use Rattle.cache_types.specs.declared.answer.Answer.TheVariants as answers
use Rattle.cache_types.specs.declared.key.Key.{Key}
use Rattle.cache_types.specs.declared.limits.TheConstants.{MAX_ITEM}
use Rattle.file_log.specs.declared.call.Call.{Call}
use Rattle.file_log.specs.declared.call.Call.TheVariants as calls
use Rattle.file_log.specs.declared.reply.Reply.{Reply}
use Rattle.file_log.specs.declared.reply.Reply.TheVariants as replies
use Rattle.files_api.specs.declared.machine.Step.{Step}
use Rattle.files_api.specs.declared.machine.Step.TheVariants.{Ask, Done}
use Rattle.folder_store.specs.declared.put_phase.Besides.{Besides}
use Rattle.folder_store.specs.declared.put_phase.Besides.TheVariants.{Nothing, Lock, LockAndTemp}
use Rattle.folder_store.specs.declared.put_phase.Look.TheVariants.{First, Second}
use Rattle.folder_store.specs.declared.put_phase.PutPhase.{PutPhase}
use Rattle.folder_store.specs.declared.put_phase.PutPhase.TheVariants.{Opening, Measuring, Reading, ReadingFront, Leaving, OpeningLock, Locking, Pausing, Evicting, Evicted, Making, Cutting, Writing, Renaming, ClosingEntry, ClosingTemp, ClosingLock, Ended, Spent}
use Rattle.folder_store.specs.declared.put_phase.TheConstants.{LOCK_TRIES}
use Rattle.folder_store.specs.Locking.{lock_name}
use Rattle.folder_store.specs.PutPhases.{asks_put_in, after_put_asking, closing, too_long, Fronted, Judged, NextPut}
use Rattle.folder_store.proofs.Calls.{IsLooking}
use Rattle.folder_store.proofs.PutDisks.{lock_no_entry, lock_no_temp}
use Rattle.folder_store.proofs.PutSteps.{AnswersIn}

-- it has not asked for the lock file; it asks for that; it tries the lock, or pauses before, with so many tries more; it holds
-- the lock; or its answer stands fast
pub data LockStage : Type 0 where
  Before : LockStage
  Entering : LockStage
  Trying : ℕ → LockStage
  Resting : ℕ → LockStage
  Inside : LockStage
  Over : Answer → LockStage

abbrev pub lock_stage : PutPhase → LockStage
lock_stage (Opening First) = Before
lock_stage (Measuring First) = Before
lock_stage (Reading First length) = Before
lock_stage Leaving = Before
lock_stage OpeningLock = Entering
lock_stage (Locking again) = Trying again
lock_stage (Pausing again) = Resting again
lock_stage (ClosingEntry answer besides) = Over answer
lock_stage (ClosingTemp answer) = Over answer
lock_stage (ClosingLock answer) = Over answer
lock_stage (Ended answer) = Over answer
lock_stage Evicted = Over answers.NoMemory
lock_stage Spent = Over answers.NoMemory
lock_stage phase = Inside

-- ---- what it asks

-- a call that leaves the lock, its file and its name alone
abbrev pub LeavesAlone : ℕ → Key → Call → Type 0
LeavesAlone root key (calls.OpenNew slot name) = same_name (lock_name root key) name ≡ false
LeavesAlone root key (calls.Rename from to) = (same_name (lock_name root key) from ≡ false) × (same_name (lock_name root key) to ≡ false)
LeavesAlone root key (calls.TryLock slot) = ⊥
LeavesAlone root key (calls.Remove name) = ⊥
LeavesAlone root key (calls.Close slot) = ⊥
LeavesAlone root key call = Unit {0}

abbrev pub AsksIn : ℕ → Key → LockStage → Step → Type 0
AsksIn root key (Over given) (Done answer) = given ≡ answer
AsksIn root key stage (Done answer) = ⊥
AsksIn root key Before (Ask call) = IsLooking call
AsksIn root key Entering (Ask call) = calls.OpenNew 0 (lock_name root key) ≡ call
AsksIn root key (Trying again) (Ask call) = calls.TryLock 0 ≡ call
AsksIn root key (Resting again) (Ask call) = calls.Pause ≡ call
AsksIn root key Inside (Ask call) = LeavesAlone root key call
AsksIn root key (Over given) (Ask call) = IsLooking call

pub lock_asks : (root : ℕ) (key : Key) (item : List ℕ) (p : PutPhase) → AsksIn root key (lock_stage p) (asks_put_in root key item p)
lock_asks root key item (Opening First) = tt
lock_asks root key item (Opening Second) = tt
lock_asks root key item (Measuring First) = tt
lock_asks root key item (Measuring Second) = tt
lock_asks root key item (Reading First length) = tt
lock_asks root key item (Reading Second length) = tt
lock_asks root key item OpeningLock = refl
lock_asks root key item (Locking again) = refl
lock_asks root key item (Pausing again) = refl
lock_asks root key item (Making entry) = lock_no_temp root root key key
lock_asks root key item (Renaming entry) = (lock_no_temp root root key key, lock_no_entry root root key key)
lock_asks root key item (Ended answer) = refl
lock_asks root key item Evicted = refl
lock_asks root key item Spent = refl
lock_asks root key item p = tt

-- ---- where a reply leads

abbrev pub IsNoBusy : Answer → Type 0
IsNoBusy answers.Busy = ⊥
IsNoBusy answer = Unit {0}

-- an end without a try that failed
abbrev pub Gives : LockStage → Type 0
Gives (Over answer) = IsNoBusy answer
Gives stage = ⊥

abbrev pub LooksOn : LockStage → Type 0
LooksOn Before = Unit {0}
LooksOn Entering = Unit {0}
LooksOn stage = Gives stage

abbrev pub WorksOn : LockStage → Type 0
WorksOn Inside = Unit {0}
WorksOn stage = Gives stage

abbrev pub held_stage : ℕ → LockStage
held_stage again = if nat_eq again 0 then Over answers.Busy else Resting (again - 1)

abbrev pub LockLeads : LockStage → Reply → LockStage → Type 0
LockLeads Before reply next = LooksOn next
LockLeads Entering replies.Done next = next ≡ Trying (LOCK_TRIES - 1)
LockLeads Entering reply next = Gives next
LockLeads (Trying again) replies.Done next = next ≡ Inside
LockLeads (Trying again) replies.Held next = next ≡ held_stage again
LockLeads (Trying again) reply next = Gives next
LockLeads (Resting again) replies.Done next = next ≡ Trying again
LockLeads (Resting again) reply next = Gives next
LockLeads Inside reply next = WorksOn next
LockLeads (Over answer) reply next = next ≡ Over answer

closed_over : (answer : Answer) (entry : Bool) (besides : Besides) → lock_stage (closing answer entry besides) ≡ Over answer
closed_over answer true besides = refl
closed_over answer false Nothing = refl
closed_over answer false Lock = refl
closed_over answer false LockAndTemp = refl

fronted : (bytes : List ℕ) (q : PutPhase) → Fronted bytes q → WorksOn (lock_stage q)
fronted bytes (Evicting driver) f = tt
fronted bytes (Making true) f = tt
fronted bytes (Making false) f = absurd f
fronted bytes q f = absurd f

judged_first : (driver : DriverKeys) (bytes : List ℕ) (q : PutPhase) → Judged driver First bytes q → LooksOn (lock_stage q)
judged_first driver bytes q (inl kept) = rw kept.1 tt
judged_first driver bytes q (inr other) = rw other.1 tt

judged_second : (driver : DriverKeys) (bytes : List ℕ) (q : PutPhase) → Judged driver Second bytes q → WorksOn (lock_stage q)
judged_second driver bytes q (inl kept) = rw kept.1 tt
judged_second driver bytes q (inr other) = fronted bytes q other.1

measured_first : (length : ℕ) (b : Bool) → LooksOn (lock_stage (cond b (too_long First) (Reading First length)))
measured_first length true = tt
measured_first length false = tt

measured_second : (length : ℕ) (b : Bool) → WorksOn (lock_stage (cond b (too_long Second) (Reading Second length)))
measured_second length true = tt
measured_second length false = tt

held : (again : ℕ) (b : Bool) → lock_stage (cond b (ClosingLock answers.Busy) (Pausing (again - 1))) ≡ cond b (Over answers.Busy) (Resting (again - 1))
held again true = refl
held again false = refl

pub lock_leads : (root : ℕ) (key : Key) (item : List ℕ) (driver : DriverKeys) (p : PutPhase) (reply : Reply) (q : PutPhase) → AnswersIn (asks_put_in root key item p) reply → NextPut driver (after_put_asking p) reply q → LockLeads (lock_stage p) reply (lock_stage q)
lock_leads root key item driver (Opening First) replies.Done q fits e = rw e tt
lock_leads root key item driver (Opening First) replies.Missing q fits e = rw e tt
lock_leads root key item driver (Opening First) replies.Failed q fits e = rw e tt
lock_leads root key item driver (Opening First) replies.NoMemory q fits e = rw e tt
lock_leads root key item driver (Opening First) reply q fits e = absurd fits
lock_leads root key item driver (Opening Second) replies.Done q fits e = rw e tt
lock_leads root key item driver (Opening Second) replies.Missing q fits e = rw e tt
lock_leads root key item driver (Opening Second) replies.Failed q fits e = rw e tt
lock_leads root key item driver (Opening Second) replies.NoMemory q fits e = rw e tt
lock_leads root key item driver (Opening Second) reply q fits e = absurd fits
lock_leads root key item driver (Measuring First) (replies.Number length) q fits e = rw e (measured_first length (nat_lt MAX_ITEM length))
lock_leads root key item driver (Measuring First) replies.Failed q fits e = rw e tt
lock_leads root key item driver (Measuring First) replies.NoMemory q fits e = rw e tt
lock_leads root key item driver (Measuring First) reply q fits e = absurd fits
lock_leads root key item driver (Measuring Second) (replies.Number length) q fits e = rw e (measured_second length (nat_lt MAX_ITEM length))
lock_leads root key item driver (Measuring Second) replies.Failed q fits e = rw e tt
lock_leads root key item driver (Measuring Second) replies.NoMemory q fits e = rw e tt
lock_leads root key item driver (Measuring Second) reply q fits e = absurd fits
lock_leads root key item driver (Reading First length) (replies.Got bytes) q fits e = judged_first driver bytes q e
lock_leads root key item driver (Reading First length) replies.Failed q fits e = rw e tt
lock_leads root key item driver (Reading First length) replies.NoMemory q fits e = rw e tt
lock_leads root key item driver (Reading First length) reply q fits e = absurd fits
lock_leads root key item driver (Reading Second length) (replies.Got bytes) q fits e = judged_second driver bytes q e
lock_leads root key item driver (Reading Second length) replies.Failed q fits e = rw e tt
lock_leads root key item driver (Reading Second length) replies.NoMemory q fits e = rw e tt
lock_leads root key item driver (Reading Second length) reply q fits e = absurd fits
lock_leads root key item driver ReadingFront (replies.Got bytes) q fits e = fronted bytes q e
lock_leads root key item driver ReadingFront replies.Failed q fits e = rw e tt
lock_leads root key item driver ReadingFront replies.NoMemory q fits e = rw e tt
lock_leads root key item driver ReadingFront reply q fits e = absurd fits
lock_leads root key item driver Leaving replies.Done q fits e = rw e tt
lock_leads root key item driver Leaving reply q fits e = absurd fits
lock_leads root key item driver OpeningLock replies.Done q fits e = rw e refl
lock_leads root key item driver OpeningLock replies.Failed q fits e = rw e tt
lock_leads root key item driver OpeningLock replies.NoMemory q fits e = rw e tt
lock_leads root key item driver OpeningLock reply q fits e = absurd fits
lock_leads root key item driver (Locking again) replies.Done q fits e = rw e refl
lock_leads root key item driver (Locking again) replies.Held q fits e = rw e (held again (nat_eq again 0))
lock_leads root key item driver (Locking again) replies.Failed q fits e = rw e tt
lock_leads root key item driver (Locking again) replies.NoMemory q fits e = rw e tt
lock_leads root key item driver (Locking again) reply q fits e = absurd fits
lock_leads root key item driver (Pausing again) replies.Done q fits e = rw e refl
lock_leads root key item driver (Pausing again) replies.Failed q fits e = rw e tt
lock_leads root key item driver (Pausing again) replies.NoMemory q fits e = rw e tt
lock_leads root key item driver (Pausing again) reply q fits e = absurd fits
lock_leads root key item driver (Evicting driver') replies.Done q fits e = rw e tt
lock_leads root key item driver (Evicting driver') replies.NoMemory q fits e = rw e tt
lock_leads root key item driver (Evicting driver') reply q fits e = absurd fits
lock_leads root key item driver Evicted reply q fits e = absurd fits
lock_leads root key item driver (Making entry) replies.Done q fits e = rw e tt
lock_leads root key item driver (Making entry) replies.Failed q fits e = rw (e, closed_over answers.FilesFault entry Lock) tt
lock_leads root key item driver (Making entry) replies.NoMemory q fits e = rw (e, closed_over answers.NoMemory entry Lock) tt
lock_leads root key item driver (Making entry) reply q fits e = absurd fits
lock_leads root key item driver (Cutting entry) replies.Done q fits e = rw e tt
lock_leads root key item driver (Cutting entry) replies.Failed q fits e = rw (e, closed_over answers.FilesFault entry LockAndTemp) tt
lock_leads root key item driver (Cutting entry) replies.NoMemory q fits e = rw (e, closed_over answers.NoMemory entry LockAndTemp) tt
lock_leads root key item driver (Cutting entry) reply q fits e = absurd fits
lock_leads root key item driver (Writing entry) replies.Done q fits e = rw e tt
lock_leads root key item driver (Writing entry) replies.Failed q fits e = rw (e, closed_over answers.FilesFault entry LockAndTemp) tt
lock_leads root key item driver (Writing entry) replies.NoMemory q fits e = rw (e, closed_over answers.NoMemory entry LockAndTemp) tt
lock_leads root key item driver (Writing entry) reply q fits e = absurd fits
lock_leads root key item driver (Renaming entry) replies.Done q fits e = rw (e, closed_over answers.Stored entry LockAndTemp) tt
lock_leads root key item driver (Renaming entry) replies.Failed q fits e = rw (e, closed_over answers.FilesFault entry LockAndTemp) tt
lock_leads root key item driver (Renaming entry) replies.NoMemory q fits e = rw (e, closed_over answers.NoMemory entry LockAndTemp) tt
lock_leads root key item driver (Renaming entry) reply q fits e = absurd fits
lock_leads root key item driver (ClosingEntry answer besides) replies.Done q fits e = rw (e, closed_over answer false besides) refl
lock_leads root key item driver (ClosingEntry answer besides) reply q fits e = absurd fits
lock_leads root key item driver (ClosingTemp answer) replies.Done q fits e = rw e refl
lock_leads root key item driver (ClosingTemp answer) reply q fits e = absurd fits
lock_leads root key item driver (ClosingLock answer) replies.Done q fits e = rw e refl
lock_leads root key item driver (ClosingLock answer) reply q fits e = absurd fits
lock_leads root key item driver (Ended answer) reply q fits e = absurd fits
lock_leads root key item driver Spent reply q fits e = absurd fits
