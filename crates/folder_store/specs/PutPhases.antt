-- A put into a folder store, call by call.
use Rattle.std.specs.Prelude.{◌≡◌, ◌⊎◌, ℕ, ◌+◌, ◌-◌, ◌*◌, Bool, true, false, nat_eq, nat_lt, if◌then◌else◌, List, []}
use Rattle.cache_types.specs.declared.answer.Answer.{Answer}
use Rattle.cache_types.specs.declared.answer.Answer.TheVariants.{Stored, Kept, Busy, NoMemory}
use Rattle.cache_types.specs.declared.key.Key.{Key}
use Rattle.cache_types.specs.declared.limits.TheConstants.{MAX_ITEM}
use Rattle.cache_types.specs.declared.name.Name.TheVariants.{Entry, Temp}
use Rattle.cache_types.specs.declared.store.Layout.TheVariants.{Folder}
use Rattle.cache_types.specs.Driver.{DriverKeys, Fronts, HasNoFront}
use Rattle.file_log.specs.declared.call.Call.TheVariants.{OpenOld, OpenNew, TryLock, Pause, Length, ReadAt, WriteAt, Cut, Rename, Close, Tell}
use Rattle.file_log.specs.declared.note.Note.TheVariants.{Evict}
use Rattle.file_log.specs.declared.reply.Reply.{Reply}
use Rattle.file_log.specs.declared.reply.Reply.TheVariants as replies
use Rattle.files_api.specs.declared.machine.Step.{Step}
use Rattle.files_api.specs.declared.machine.Step.TheVariants.{Ask, Done}
use Rattle.item_frame.specs.Item.{IsItem}
use Rattle.folder_store.specs.declared.put.FolderPut.{FolderPut}
use Rattle.folder_store.specs.declared.put_phase.Besides.{Besides}
use Rattle.folder_store.specs.declared.put_phase.Besides.TheVariants.{Nothing, Lock, LockAndTemp}
use Rattle.folder_store.specs.declared.put_phase.Look.{Look}
use Rattle.folder_store.specs.declared.put_phase.Look.TheVariants.{First, Second}
use Rattle.folder_store.specs.declared.put_phase.PutPhase.{PutPhase}
use Rattle.folder_store.specs.declared.put_phase.PutPhase.TheVariants.{Opening, Measuring, Reading, ReadingFront, Leaving, OpeningLock, Locking, Pausing, Evicting, Evicted, Making, Cutting, Writing, Renaming, ClosingEntry, ClosingTemp, ClosingLock, Ended, Spent}
use Rattle.folder_store.specs.declared.put_phase.TheConstants.{LOCK_TRIES}
use Rattle.folder_store.specs.Locking.{lock_name}
use Rattle.folder_store.specs.Phases.{fault}

-- a put of this item under this key for this driver in this root, which has done nothing yet
pub record IsNewPut (root : ℕ) (driver : DriverKeys) (key : Key) (item : List ℕ) (m : FolderPut) : Type 0 where
  pub root_is : m.root ≡ root
  pub driver_is : m.driver ≡ driver
  pub key_is : m.key ≡ key
  pub item_is : m.item ≡ item
  pub opening : m.phase ≡ Opening First

-- ---- what it asks

-- what goes out once: the note that an entry goes, and the answer
abbrev pub given_in : ℕ → Key → PutPhase → Step
given_in root key (Evicting driver) = Ask (Tell (Evict (record { root = root; layout = Folder }) driver key))
given_in root key (Ended answer) = Done answer
given_in root key phase = Done NoMemory

-- the calls that change names and files
abbrev pub changes_in : ℕ → Key → List ℕ → PutPhase → Step
changes_in root key item (Making entry) = Ask (OpenNew 3 (Temp root key))
changes_in root key item (Cutting entry) = Ask (Cut 3 0)
changes_in root key item (Writing entry) = Ask (WriteAt 3 0 item)
changes_in root key item (Renaming entry) = Ask (Rename (Temp root key) (Entry root key))
changes_in root key item phase = Done NoMemory

abbrev pub asks_put_in : ℕ → Key → List ℕ → PutPhase → Step
asks_put_in root key item (Opening look) = Ask (OpenOld 1 (Entry root key))
asks_put_in root key item (Measuring look) = Ask (Length 1)
asks_put_in root key item (Reading look length) = Ask (ReadAt 1 0 length)
asks_put_in root key item ReadingFront = Ask (ReadAt 1 0 522)
asks_put_in root key item Leaving = Ask (Close 1)
asks_put_in root key item OpeningLock = Ask (OpenNew 0 (lock_name root key))
asks_put_in root key item (Locking again) = Ask (TryLock 0)
asks_put_in root key item (Pausing again) = Ask Pause
asks_put_in root key item (Making entry) = changes_in root key item (Making entry)
asks_put_in root key item (Cutting entry) = changes_in root key item (Cutting entry)
asks_put_in root key item (Writing entry) = changes_in root key item (Writing entry)
asks_put_in root key item (Renaming entry) = changes_in root key item (Renaming entry)
asks_put_in root key item (ClosingEntry answer besides) = Ask (Close 1)
asks_put_in root key item (ClosingTemp answer) = Ask (Close 3)
asks_put_in root key item (ClosingLock answer) = Ask (Close 0)
asks_put_in root key item phase = given_in root key phase

abbrev pub asks_put : FolderPut → Step
asks_put m = asks_put_in m.root m.key m.item m.phase

-- the note and the answer are given once
abbrev pub after_giving : PutPhase → PutPhase
after_giving (Evicting driver) = Evicted
after_giving phase = Spent

abbrev pub after_put_asking : PutPhase → PutPhase
after_put_asking (Evicting driver) = Evicted
after_put_asking Evicted = Spent
after_put_asking (Ended answer) = Spent
after_put_asking phase = phase

-- the item goes out with the call that writes it
abbrev pub item_after : PutPhase → List ℕ → List ℕ
item_after (Writing entry) item = []
item_after phase item = item

abbrev pub asked_put : FolderPut → FolderPut
asked_put m = record m { phase = after_put_asking m.phase; item = item_after m.phase m.item }

-- ---- where a reply leads

-- what is open besides the entry's file at a look: the second is made under the lock
abbrev pub besides_in : Look → Besides
besides_in First = Nothing
besides_in Second = Lock

-- the end with an answer, once the files that are open are closed, the lock file last
abbrev pub closing : Answer → Bool → Besides → PutPhase
closing answer true besides = ClosingEntry answer besides
closing answer false Nothing = Ended answer
closing answer false Lock = ClosingLock answer
closing answer false LockAndTemp = ClosingTemp answer

-- a call that isn't done ends the put
abbrev pub unless_done : Reply → Bool → Besides → PutPhase → PutPhase
unless_done replies.Done entry besides next = next
unless_done reply entry besides next = closing (fault reply) entry besides

abbrev pub opened : Look → Reply → PutPhase
opened look replies.Done = Measuring look
opened First replies.Missing = OpeningLock
opened Second replies.Missing = Making false
opened look reply = closing (fault reply) false (besides_in look)

-- a file that is too long for an item holds none
abbrev pub too_long : Look → PutPhase
too_long First = Leaving
too_long Second = ReadingFront

abbrev pub measured : Look → ℕ → PutPhase
measured look length = if nat_lt MAX_ITEM length then too_long look else Reading look length

abbrev pub after_length : Look → Reply → PutPhase
after_length look (replies.Number length) = measured look length
after_length look reply = closing (fault reply) true (besides_in look)

-- an entry that goes: the driver at its front is told, if there is one
abbrev pub Fronted : List ℕ → PutPhase → Type 0
Fronted bytes (Evicting driver) = Fronts bytes driver
Fronted bytes (Making true) = HasNoFront bytes
Fronted bytes phase = ⊥

abbrev pub FrontRead : Reply → PutPhase → Type 0
FrontRead (replies.Got bytes) phase = Fronted bytes phase
FrontRead reply phase = phase ≡ ClosingEntry (fault reply) Lock

-- what an entry that is no item of the driver leads to
abbrev pub Refused : Look → List ℕ → PutPhase → Type 0
Refused First bytes phase = phase ≡ Leaving
Refused Second bytes phase = Fronted bytes phase

-- an item of the driver is kept
abbrev pub Judged : DriverKeys → Look → List ℕ → PutPhase → Type 0
Judged driver look bytes phase = (IsItem driver bytes × (phase ≡ ClosingEntry Kept (besides_in look))) ⊎ ((IsItem driver bytes → ⊥) × Refused look bytes phase)

abbrev pub Read : DriverKeys → Look → Reply → PutPhase → Type 0
Read driver look (replies.Got bytes) phase = Judged driver look bytes phase
Read driver look reply phase = phase ≡ ClosingEntry (fault reply) (besides_in look)

abbrev pub lock_opened : Reply → PutPhase
lock_opened reply = unless_done reply false Nothing (Locking (LOCK_TRIES - 1))

-- another seat holds the lock: a pause, or the end after the last try
abbrev pub held : ℕ → PutPhase
held again = if nat_eq again 0 then ClosingLock Busy else Pausing (again - 1)

abbrev pub tried : ℕ → Reply → PutPhase
tried again replies.Done = Opening Second
tried again replies.Held = held again
tried again reply = ClosingLock (fault reply)

-- where a reply leads that is no reading of the entry
abbrev pub next_put : PutPhase → Reply → PutPhase
next_put (Opening look) reply = opened look reply
next_put (Measuring look) reply = after_length look reply
next_put Leaving reply = OpeningLock
next_put OpeningLock reply = lock_opened reply
next_put (Locking again) reply = tried again reply
next_put (Pausing again) reply = unless_done reply false Lock (Locking again)
next_put Evicted reply = unless_done reply true Lock (Making true)
next_put (Making entry) reply = unless_done reply entry Lock (Cutting entry)
next_put (Cutting entry) reply = unless_done reply entry LockAndTemp (Writing entry)
next_put (Writing entry) reply = unless_done reply entry LockAndTemp (Renaming entry)
next_put (Renaming entry) reply = unless_done reply entry LockAndTemp (closing Stored entry LockAndTemp)
next_put (ClosingEntry answer besides) reply = closing answer false besides
next_put (ClosingTemp answer) reply = ClosingLock answer
next_put (ClosingLock answer) reply = Ended answer
next_put phase reply = Spent

abbrev pub NextPut : DriverKeys → PutPhase → Reply → PutPhase → Type 0
NextPut driver (Reading look length) reply next = Read driver look reply next
NextPut driver ReadingFront reply next = FrontRead reply next
NextPut driver phase reply next = next ≡ next_put phase reply

abbrev pub FedPut : FolderPut → Reply → FolderPut → Type 0
FedPut m reply n = (phase : PutPhase) × (n ≡ record m { phase = phase }) × NextPut m.driver m.phase reply phase

-- ---- what it keeps

abbrev pub has_lock : Besides → Bool
has_lock Nothing = false
has_lock besides = true

abbrev pub has_temp : Besides → Bool
has_temp LockAndTemp = true
has_temp besides = false

-- the slots of the lock file, of the entry's file and of the temporary file
abbrev pub slots_of : Bool → Besides → ℕ → Bool
slots_of entry besides at = if nat_eq 0 at then has_lock besides else if nat_eq 1 at then entry else if nat_eq 3 at then has_temp besides else false

abbrev pub put_slots_in : PutPhase → ℕ → Bool
put_slots_in (Opening Second) at = slots_of false Lock at
put_slots_in (Measuring look) at = slots_of true (besides_in look) at
put_slots_in (Reading look length) at = slots_of true (besides_in look) at
put_slots_in ReadingFront at = slots_of true Lock at
put_slots_in Leaving at = slots_of true Nothing at
put_slots_in (Locking again) at = slots_of false Lock at
put_slots_in (Pausing again) at = slots_of false Lock at
put_slots_in (Evicting driver) at = slots_of true Lock at
put_slots_in (Making entry) at = slots_of entry Lock at
put_slots_in (Cutting entry) at = slots_of entry LockAndTemp at
put_slots_in (Writing entry) at = slots_of entry LockAndTemp at
put_slots_in (Renaming entry) at = slots_of entry LockAndTemp at
put_slots_in (ClosingEntry answer besides) at = slots_of true besides at
put_slots_in (ClosingTemp answer) at = slots_of false LockAndTemp at
put_slots_in (ClosingLock answer) at = slots_of false Lock at
put_slots_in phase at = false

-- a call may have failed
abbrev pub put_hurt_in : PutPhase → Bool
put_hurt_in (ClosingEntry answer besides) = true
put_hurt_in (ClosingTemp answer) = true
put_hurt_in (ClosingLock answer) = true
put_hurt_in (Ended answer) = true
put_hurt_in phase = false

-- a put makes at most so many calls: 64 tries of the lock, a pause before each but the first, and sixteen others
abbrev pub most_put_calls : ℕ
most_put_calls = 143

-- so many calls are left at most
abbrev pub put_left_in : PutPhase → ℕ
put_left_in (Opening First) = most_put_calls
put_left_in (Measuring First) = 142
put_left_in (Reading First length) = 141
put_left_in Leaving = 140
put_left_in OpeningLock = 139
put_left_in (Locking again) = 12 + 2 * again
put_left_in (Pausing again) = 13 + 2 * again
put_left_in (Opening Second) = 11
put_left_in (Measuring Second) = 10
put_left_in (Reading Second length) = 9
put_left_in ReadingFront = 9
put_left_in (Evicting driver) = 8
put_left_in (Making entry) = 7
put_left_in (Cutting entry) = 6
put_left_in (Writing entry) = 5
put_left_in (Renaming entry) = 4
put_left_in (ClosingEntry answer besides) = 3
put_left_in (ClosingTemp answer) = 2
put_left_in (ClosingLock answer) = 1
put_left_in phase = 0
