-- The course of a put between its calls: what it asks at each part of it, and where a reply leads.
use Rattle.std.proofs.Common.{◌≡◌, ◌⊎◌, inl, inr, ℕ, ◌-◌, Bool, true, false, cond, nat_eq, nat_lt, List, refl, ap}
use Rattle.cache_types.specs.Driver.{DriverKeys}
use Rattle.cache_types.specs.declared.answer.Answer.{Answer}
use Rattle.cache_types.specs.declared.answer.Answer.TheVariants as answers
use Rattle.cache_types.specs.declared.key.Key.{Key}
use Rattle.cache_types.specs.declared.limits.TheConstants.{MAX_ITEM}
use Rattle.cache_types.specs.declared.name.Name.TheVariants.{Entry, Temp}
use Rattle.file_log.specs.declared.call.Call.{Call}
use Rattle.file_log.specs.declared.call.Call.TheVariants as calls
use Rattle.file_log.specs.declared.note.Note.TheVariants as notes
use Rattle.file_log.specs.declared.reply.Reply.{Reply}
use Rattle.file_log.specs.declared.reply.Reply.TheVariants as replies
use Rattle.files_api.specs.declared.machine.Step.{Step}
use Rattle.files_api.specs.declared.machine.Step.TheVariants.{Ask, Done}
use Rattle.item_frame.specs.Item.{IsItem}
use Rattle.folder_store.specs.declared.put_phase.Besides.{Besides}
use Rattle.folder_store.specs.declared.put_phase.Besides.TheVariants.{Nothing, Lock, LockAndTemp}
use Rattle.folder_store.specs.declared.put_phase.Look.{Look}
use Rattle.folder_store.specs.declared.put_phase.Look.TheVariants.{First, Second}
use Rattle.folder_store.specs.declared.put_phase.PutPhase.{PutPhase}
use Rattle.folder_store.specs.declared.put_phase.PutPhase.TheVariants.{Opening, Measuring, Reading, ReadingFront, Leaving, OpeningLock, Locking, Pausing, Evicting, Evicted, Making, Cutting, Writing, Renaming, ClosingEntry, ClosingTemp, ClosingLock, Ended, Spent}
use Rattle.folder_store.specs.Locking.{lock_name}
use Rattle.folder_store.specs.PutPhases.{asks_put_in, after_put_asking, closing, too_long, Fronted, Judged, NextPut}
use Rattle.folder_store.proofs.PutSteps.{AnswersIn}

-- it opens the entry; it asks for the length of what it opened; it reads so many bytes of it; it does what neither looks at the entry nor changes
-- it; it opens the temporary file; it fills that; it gives that the entry's name; or its answer stands fast
pub data Course : Type 0 where
  Seeking : Course
  Looking : Course
  Measured : ℕ → Course
  Aside : Course
  Starting : Course
  Filling : Course
  Placing : Course
  Settled : Answer → Course

abbrev pub course : PutPhase → Course
course (Opening look) = Seeking
course (Measuring look) = Looking
course (Reading look n) = Measured n
course (Making entry) = Starting
course (Cutting entry) = Filling
course (Writing entry) = Filling
course (Renaming entry) = Placing
course (ClosingEntry answer besides) = Settled answer
course (ClosingTemp answer) = Settled answer
course (ClosingLock answer) = Settled answer
course (Ended answer) = Settled answer
course Evicted = Settled answers.NoMemory
course Spent = Settled answers.NoMemory
course phase = Aside

-- ---- what it asks

abbrev pub IsAside : ℕ → Key → Call → Type 0
IsAside root key (calls.OpenNew slot name) = lock_name root key ≡ name
IsAside root key (calls.ReadAt slot at n) = Unit {0}
IsAside root key (calls.Close slot) = Unit {0}
IsAside root key (calls.TryLock slot) = Unit {0}
IsAside root key calls.Pause = Unit {0}
IsAside root key (calls.Tell (notes.Evict store driver key')) = Unit {0}
IsAside root key call = ⊥

abbrev pub IsFilling : Call → Type 0
IsFilling (calls.Cut slot n) = 3 ≡ slot
IsFilling (calls.WriteAt slot at bytes) = 3 ≡ slot
IsFilling call = ⊥

abbrev pub IsClosing : Call → Type 0
IsClosing (calls.Close slot) = Unit {0}
IsClosing call = ⊥

abbrev pub AsksOn : ℕ → Key → Course → Step → Type 0
AsksOn root key (Settled given) (Done answer) = given ≡ answer
AsksOn root key c (Done answer) = ⊥
AsksOn root key Seeking (Ask call) = calls.OpenOld 1 (Entry root key) ≡ call
AsksOn root key Looking (Ask call) = calls.Length 1 ≡ call
AsksOn root key (Measured n) (Ask call) = calls.ReadAt 1 0 n ≡ call
AsksOn root key Aside (Ask call) = IsAside root key call
AsksOn root key Starting (Ask call) = calls.OpenNew 3 (Temp root key) ≡ call
AsksOn root key Filling (Ask call) = IsFilling call
AsksOn root key Placing (Ask call) = calls.Rename (Temp root key) (Entry root key) ≡ call
AsksOn root key (Settled given) (Ask call) = IsClosing call

pub course_asks : (root : ℕ) (key : Key) (item : List ℕ) (p : PutPhase) → AsksOn root key (course p) (asks_put_in root key item p)
course_asks root key item (Opening look) = refl
course_asks root key item (Measuring look) = refl
course_asks root key item (Reading look n) = refl
course_asks root key item OpeningLock = refl
course_asks root key item (Making entry) = refl
course_asks root key item (Cutting entry) = refl
course_asks root key item (Writing entry) = refl
course_asks root key item (Renaming entry) = refl
course_asks root key item (Ended answer) = refl
course_asks root key item Evicted = refl
course_asks root key item Spent = refl
course_asks root key item p = tt

-- ---- where a reply leads

-- an end of a put that gave up
abbrev pub IsGivenUp : Answer → Type 0
IsGivenUp answers.Busy = Unit {0}
IsGivenUp answers.FilesFault = Unit {0}
IsGivenUp answers.NoMemory = Unit {0}
IsGivenUp answer = ⊥

abbrev pub GoesOff : Course → Type 0
GoesOff Aside = Unit {0}
GoesOff Starting = Unit {0}
GoesOff c = ⊥

abbrev pub GoesAside : Course → Type 0
GoesAside Seeking = Unit {0}
GoesAside (Settled answer) = IsGivenUp answer
GoesAside c = GoesOff c

abbrev pub FillsOn : Course → Type 0
FillsOn Filling = Unit {0}
FillsOn Placing = Unit {0}
FillsOn c = ⊥

abbrev pub Leads : DriverKeys → Course → Reply → Course → Type 0
Leads driver (Settled answer) reply next = next ≡ Settled answer
Leads driver c replies.Failed next = next ≡ Settled answers.FilesFault
Leads driver c replies.NoMemory next = next ≡ Settled answers.NoMemory
Leads driver Seeking replies.Done next = next ≡ Looking
Leads driver Seeking replies.Missing next = GoesOff next
Leads driver Looking (replies.Number n) next = (next ≡ Measured n) ⊎ (next ≡ Aside)
Leads driver (Measured n) (replies.Got bytes) next = (IsItem driver bytes × (next ≡ Settled answers.Kept)) ⊎ GoesOff next
Leads driver Aside reply next = GoesAside next
Leads driver Starting replies.Done next = next ≡ Filling
Leads driver Filling replies.Done next = FillsOn next
Leads driver Placing replies.Done next = next ≡ Settled answers.Stored
Leads driver c reply next = ⊥

course_closing : (answer : Answer) (entry : Bool) (besides : Besides) → course (closing answer entry besides) ≡ Settled answer
course_closing answer true besides = refl
course_closing answer false Nothing = refl
course_closing answer false Lock = refl
course_closing answer false LockAndTemp = refl

measured : (look : Look) (n : ℕ) (b : Bool) → (course (cond b (too_long look) (Reading look n)) ≡ Measured n) ⊎ (course (cond b (too_long look) (Reading look n)) ≡ Aside)
measured First n true = inr refl
measured Second n true = inr refl
measured look n false = inl refl

fronted : (bytes : List ℕ) (q : PutPhase) → Fronted bytes q → GoesOff (course q)
fronted bytes (Evicting driver) f = tt
fronted bytes (Making true) f = tt
fronted bytes (Making false) f = absurd f
fronted bytes q f = absurd f

off_aside : (c : Course) → GoesOff c → GoesAside c
off_aside Aside g = tt
off_aside Starting g = tt
off_aside c g = absurd g

judged : (driver : DriverKeys) (look : Look) (bytes : List ℕ) (q : PutPhase) → Judged driver look bytes q → (IsItem driver bytes × (course q ≡ Settled answers.Kept)) ⊎ GoesOff (course q)
judged driver look bytes q (inl kept) = inl (kept.0, ap course kept.1)
judged driver First bytes q (inr other) = inr (rw other.1 tt)
judged driver Second bytes q (inr other) = inr (fronted bytes q other.1)

held : (again : ℕ) (b : Bool) → GoesAside (course (cond b (ClosingLock answers.Busy) (Pausing (again - 1))))
held again true = tt
held again false = tt

pub course_leads : (root : ℕ) (key : Key) (item : List ℕ) (driver : DriverKeys) (p : PutPhase) (reply : Reply) (q : PutPhase) → AnswersIn (asks_put_in root key item p) reply → NextPut driver (after_put_asking p) reply q → Leads driver (course p) reply (course q)
course_leads root key item driver (Opening First) replies.Done q fits e = rw e refl
course_leads root key item driver (Opening First) replies.Missing q fits e = rw e tt
course_leads root key item driver (Opening First) replies.Failed q fits e = rw e refl
course_leads root key item driver (Opening First) replies.NoMemory q fits e = rw e refl
course_leads root key item driver (Opening First) reply q fits e = absurd fits
course_leads root key item driver (Opening Second) replies.Done q fits e = rw e refl
course_leads root key item driver (Opening Second) replies.Missing q fits e = rw e tt
course_leads root key item driver (Opening Second) replies.Failed q fits e = rw e refl
course_leads root key item driver (Opening Second) replies.NoMemory q fits e = rw e refl
course_leads root key item driver (Opening Second) reply q fits e = absurd fits
course_leads root key item driver (Measuring look) (replies.Number n) q fits e = rw e (measured look n (nat_lt MAX_ITEM n))
course_leads root key item driver (Measuring look) replies.Failed q fits e = rw e refl
course_leads root key item driver (Measuring look) replies.NoMemory q fits e = rw e refl
course_leads root key item driver (Measuring look) reply q fits e = absurd fits
course_leads root key item driver (Reading look n) (replies.Got bytes) q fits e = judged driver look bytes q e
course_leads root key item driver (Reading look n) replies.Failed q fits e = rw e refl
course_leads root key item driver (Reading look n) replies.NoMemory q fits e = rw e refl
course_leads root key item driver (Reading look n) reply q fits e = absurd fits
course_leads root key item driver ReadingFront (replies.Got bytes) q fits e = off_aside (course q) (fronted bytes q e)
course_leads root key item driver ReadingFront replies.Failed q fits e = rw e refl
course_leads root key item driver ReadingFront replies.NoMemory q fits e = rw e refl
course_leads root key item driver ReadingFront reply q fits e = absurd fits
course_leads root key item driver Leaving replies.Done q fits e = rw e tt
course_leads root key item driver Leaving reply q fits e = absurd fits
course_leads root key item driver OpeningLock replies.Done q fits e = rw e tt
course_leads root key item driver OpeningLock replies.Failed q fits e = rw e refl
course_leads root key item driver OpeningLock replies.NoMemory q fits e = rw e refl
course_leads root key item driver OpeningLock reply q fits e = absurd fits
course_leads root key item driver (Locking again) replies.Done q fits e = rw e tt
course_leads root key item driver (Locking again) replies.Held q fits e = rw e (held again (nat_eq again 0))
course_leads root key item driver (Locking again) replies.Failed q fits e = rw e refl
course_leads root key item driver (Locking again) replies.NoMemory q fits e = rw e refl
course_leads root key item driver (Locking again) reply q fits e = absurd fits
course_leads root key item driver (Pausing again) replies.Done q fits e = rw e tt
course_leads root key item driver (Pausing again) replies.Failed q fits e = rw e refl
course_leads root key item driver (Pausing again) replies.NoMemory q fits e = rw e refl
course_leads root key item driver (Pausing again) reply q fits e = absurd fits
course_leads root key item driver (Evicting driver') replies.Done q fits e = rw e tt
course_leads root key item driver (Evicting driver') replies.NoMemory q fits e = rw e refl
course_leads root key item driver (Evicting driver') reply q fits e = absurd fits
course_leads root key item driver Evicted reply q fits e = absurd fits
course_leads root key item driver (Making entry) replies.Done q fits e = rw e refl
course_leads root key item driver (Making entry) replies.Failed q fits e = rw (e, course_closing answers.FilesFault entry Lock) refl
course_leads root key item driver (Making entry) replies.NoMemory q fits e = rw (e, course_closing answers.NoMemory entry Lock) refl
course_leads root key item driver (Making entry) reply q fits e = absurd fits
course_leads root key item driver (Cutting entry) replies.Done q fits e = rw e tt
course_leads root key item driver (Cutting entry) replies.Failed q fits e = rw (e, course_closing answers.FilesFault entry LockAndTemp) refl
course_leads root key item driver (Cutting entry) replies.NoMemory q fits e = rw (e, course_closing answers.NoMemory entry LockAndTemp) refl
course_leads root key item driver (Cutting entry) reply q fits e = absurd fits
course_leads root key item driver (Writing entry) replies.Done q fits e = rw e tt
course_leads root key item driver (Writing entry) replies.Failed q fits e = rw (e, course_closing answers.FilesFault entry LockAndTemp) refl
course_leads root key item driver (Writing entry) replies.NoMemory q fits e = rw (e, course_closing answers.NoMemory entry LockAndTemp) refl
course_leads root key item driver (Writing entry) reply q fits e = absurd fits
course_leads root key item driver (Renaming entry) replies.Done q fits e = rw (e, course_closing answers.Stored entry LockAndTemp) refl
course_leads root key item driver (Renaming entry) replies.Failed q fits e = rw (e, course_closing answers.FilesFault entry LockAndTemp) refl
course_leads root key item driver (Renaming entry) replies.NoMemory q fits e = rw (e, course_closing answers.NoMemory entry LockAndTemp) refl
course_leads root key item driver (Renaming entry) reply q fits e = absurd fits
course_leads root key item driver (ClosingEntry answer besides) replies.Done q fits e = rw (e, course_closing answer false besides) refl
course_leads root key item driver (ClosingEntry answer besides) reply q fits e = absurd fits
course_leads root key item driver (ClosingTemp answer) replies.Done q fits e = rw e refl
course_leads root key item driver (ClosingTemp answer) reply q fits e = absurd fits
course_leads root key item driver (ClosingLock answer) replies.Done q fits e = rw e refl
course_leads root key item driver (ClosingLock answer) reply q fits e = absurd fits
course_leads root key item driver (Ended answer) reply q fits e = absurd fits
course_leads root key item driver Spent reply q fits e = absurd fits
