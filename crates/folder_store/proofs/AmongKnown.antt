-- What a put knows in each of its phases among seats that keep the rules, and what their items leave of it.
use Rattle.std.proofs.Common.{◌≡◌, ◌+◌, inl, inr, ℕ, false, List, [], length, Option, Some, None, refl, sym, ap, ◌∙◌, subst, append-nil}
use Rattle.cache_types.specs.Driver.{DriverKeys, Fronts}
use Rattle.cache_types.specs.declared.answer.Answer.{Answer}
use Rattle.cache_types.specs.declared.answer.Answer.TheVariants as answers
use Rattle.cache_types.specs.declared.key.Key.{Key}
use Rattle.cache_types.specs.declared.meta.Meta.{Meta}
use Rattle.cache_types.specs.declared.name.Name.{Name}
use Rattle.cache_types.specs.declared.name.Name.TheVariants.{Entry, Temp, FolderLock}
use Rattle.cache_types.specs.declared.request.Request.{Request}
use Rattle.cache_types.specs.declared.request.Request.TheVariants as requests
use Rattle.cache_types.specs.declared.seat.Who.{Who}
use Rattle.file_log.specs.declared.item.LogItem.{LogItem}
use Rattle.file_log.specs.declared.item.LogItem.TheVariants as items
use Rattle.file_log.specs.Disk.{Disk, bytes_in, file_of}
use Rattle.file_log.specs.Effect.{applied}
use Rattle.file_log.specs.Log.{History, is_own}
use Rattle.file_log.specs.State.{disk_of}
use Rattle.seat_rules.specs.Changes.{with_item}
use Rattle.seat_rules.specs.Address.{Address, address}
use Rattle.layout_rules.specs.Parts.{Gives, IsHeld}
use Rattle.seat_rules.specs.Kinds.{folder_byte}
use Rattle.seat_rules.specs.Operations.{EvictIsOpen}
use Rattle.layout_rules.specs.Rules.{AnswersAreEarned}
use Rattle.folder_rules.specs.Whole.{folder_of}
use Rattle.seat_rules.proofs.Histories.{disk_then}
use Rattle.folder_changes.specs.Course.{HasSeen, HasFailed, HasTried, IsHeldOff}
use Rattle.folder_changes.specs.Frame.{HasFolder, Leaves}
use Rattle.folder_changes.specs.Own.{IsReplacing}
use Rattle.folder_changes.proofs.Earning.{seen_stays, meets, earns}
use Rattle.folder_store.specs.declared.put_phase.Look.{Look}
use Rattle.folder_store.specs.declared.put_phase.Look.TheVariants.{First, Second}
use Rattle.folder_store.specs.declared.put_phase.PutPhase.{PutPhase}
use Rattle.folder_store.specs.declared.put_phase.PutPhase.TheVariants.{Opening, Measuring, Reading, ReadingFront, Leaving, OpeningLock, Locking, Pausing, Evicting, Evicted, Making, Cutting, Writing, Renaming, ClosingEntry, ClosingTemp, ClosingLock, Ended, Spent}
use Rattle.folder_store.proofs.Keeping.{Within, IsIn}
use Rattle.folder_store.proofs.Opened.{HasOpen, open_other}
use Rattle.folder_store.proofs.PutDisks.{same_bytes, same_file, HasTemp}

-- whose put it is, and of what
pub record Task : Type 0 where
  pub me : Who
  pub root : ℕ
  pub driver : DriverKeys
  pub key : Key
  pub meta : Meta
  pub blob : List ℕ
  pub limit : ℕ
  pub item : List ℕ

-- ---- an entry that is replaced

-- what was evicted still is
replacing_as : (log log' : List LogItem) (me : Who) (root : ℕ) (key : Key) → ((at : Address) → EvictIsOpen log me at → EvictIsOpen log' me at) → (o : Option (List ℕ)) → IsReplacing log me root key o → IsReplacing log' me root key o
replacing_as log log' me root key f None r = tt
replacing_as log log' me root key f (Some bytes) (inl none) = inl none
replacing_as log log' me root key f (Some bytes) (inr told) = inr (told.0, told.1, f (address (folder_of root) told.0 key) told.2)

module _ (t : Task) where
  abbrev pub asked_for : Request
  asked_for = requests.Put (folder_of t.root) t.driver t.key t.meta t.blob t.limit

  abbrev pub place : Address
  place = address (folder_of t.root) t.driver t.key

  abbrev pub entry : Name
  entry = Entry t.root t.key

  abbrev pub temp : Name
  temp = Temp t.root t.key

  abbrev pub lock : Name
  lock = FolderLock t.root (folder_byte t.key)

  abbrev pub In : History → Type 0
  In h = IsIn t.me asked_for h

  -- ---- what is known

  abbrev pub Opens : History → Type 0
  Opens h = HasOpen t.me asked_for t.root t.key h

  -- it has the lock of the key's folder
  abbrev pub Holds : History → Type 0
  Holds h = HasFolder (disk_of h) t.me t.root (folder_byte t.key)

  -- slot 0 has the lock file, which another seat had at each of its tries so far
  pub record Tries (again : ℕ) (h : History) : Type 0 where
    pub file : ℕ
    pub named : (disk_of h).names lock ≡ Some file
    pub slot : (disk_of h).slots t.me 0 ≡ Some file
    pub count : ℕ
    pub counted : count + again ≡ 63
    pub tried : HasTried h t.me asked_for file count

  -- at the second look it has the lock
  abbrev pub AtLook : Look → History → Type 0
  AtLook First h = Unit {0}
  AtLook Second h = Holds h

  -- so that the entry still names the file that it opened
  abbrev pub IsNamed : Look → (h : History) → Opens h → Type 0
  IsNamed First h o = Unit {0}
  IsNamed Second h o = (disk_of h).names entry ≡ Some o.file

  abbrev pub Looks : Look → History → Type 0
  Looks look h = (o : Opens h) × IsNamed look h o

  -- it has the lock, and may replace the entry
  pub record Going (h : History) : Type 0 where
    pub holds : Holds h
    pub replacing : IsReplacing h.log t.me t.root t.key (file_of (disk_of h) entry)

  abbrev pub HasWritten : History → List ℕ → Type 0
  HasWritten h content = HasTemp (disk_of h) t.me t.root t.key content

  -- what an answer says of the operation
  abbrev pub Told : Answer → History → Type 0
  Told answers.Stored h = HasSeen h t.me asked_for (λ d. Gives d place t.blob)
  Told answers.Kept h = HasSeen h t.me asked_for (λ d. IsHeld d place)
  Told answers.Busy h = IsHeldOff h t.me asked_for
  Told answers.FilesFault h = HasFailed h t.me asked_for
  Told answers.NoMemory h = Unit {0}
  Told answer h = ⊥

  -- what is known in a phase of a machine that has these bytes left to write
  abbrev pub KnowsAt : PutPhase → List ℕ → History → Type 0
  KnowsAt (Opening look) bytes h = (bytes ≡ t.item) × AtLook look h
  KnowsAt (Measuring look) bytes h = (bytes ≡ t.item) × AtLook look h × Looks look h
  KnowsAt (Reading look n) bytes h = (bytes ≡ t.item) × AtLook look h × ((l : Looks look h) × (n ≡ length l.0.bytes))
  KnowsAt ReadingFront bytes h = (bytes ≡ t.item) × Holds h × Looks Second h
  KnowsAt Leaving bytes h = bytes ≡ t.item
  KnowsAt OpeningLock bytes h = bytes ≡ t.item
  KnowsAt (Locking again) bytes h = (bytes ≡ t.item) × Tries again h
  KnowsAt (Pausing again) bytes h = (bytes ≡ t.item) × Tries again h
  KnowsAt (Evicting driver) bytes h = (bytes ≡ t.item) × Holds h × ((whole : List ℕ) × (file_of (disk_of h) entry ≡ Some whole) × Fronts whole driver)
  KnowsAt (Making also) bytes h = (bytes ≡ t.item) × Going h
  KnowsAt (Cutting also) bytes h = (bytes ≡ t.item) × Going h × ((content : List ℕ) × HasWritten h content)
  KnowsAt (Writing also) bytes h = (bytes ≡ t.item) × Going h × HasWritten h []
  KnowsAt (Renaming also) bytes h = Going h × HasWritten h t.item
  KnowsAt (ClosingEntry answer besides) bytes h = Told answer h
  KnowsAt (ClosingTemp answer) bytes h = Told answer h
  KnowsAt (ClosingLock answer) bytes h = Told answer h
  KnowsAt (Ended answer) bytes h = Told answer h
  KnowsAt Evicted bytes h = ⊥
  KnowsAt Spent bytes h = ⊥

  -- ---- what an item leaves

  pub told_then : (answer : Answer) (h : History) (x : LogItem) → Within t.me x → Told answer h → Told answer (with_item h x)
  told_then answers.Stored h x within k = seen_stays h x t.me asked_for (λ d. Gives d place t.blob) within k
  told_then answers.Kept h x within k = seen_stays h x t.me asked_for (λ d. IsHeld d place) within k
  told_then answers.Busy h x within k = (meets h x t.me asked_for within).stays_held_off k
  told_then answers.FilesFault h x within k = (meets h x t.me asked_for within).stays_failed k
  told_then answers.NoMemory h x within k = tt
  told_then answer h x within k = absurd k

  pub going_then : (h : History) (x : LogItem) → Within t.me x → Holds (with_item h x) → file_of (applied (disk_of h) x) entry ≡ file_of (disk_of h) entry → Going h → Going (with_item h x)
  going_then h x within holds same g = record {
    holds = holds;
    replacing =
        subst (λ (d : Disk). IsReplacing (with_item h x).log t.me t.root t.key (file_of d entry)) (sym (disk_then h x))
        (subst (IsReplacing (with_item h x).log t.me t.root t.key) (sym same)
        (replacing_as h.log (with_item h x).log t.me t.root t.key (meets h x t.me asked_for within).stays_open (file_of (disk_of h) entry) g.replacing));
  }

  -- ---- what others leave

  holds_other : (h : History) (x : LogItem) → Leaves h t.me (applied (disk_of h) x) → Holds h → Holds (with_item h x)
  holds_other h x left o = record {
    file = o.file;
    slot = o.slot;
    named = ap (λ (d : Disk). d.names lock) (disk_then h x) ∙ left.lock_names t.root (folder_byte t.key) o.file o.named;
    taken = ap (λ (d : Disk). d.locks o.file) (disk_then h x) ∙ left.locks o.file o.slot o.taken;
  }

  -- under the lock the entry stays
  entry_other : (h : History) (x : LogItem) → Leaves h t.me (applied (disk_of h) x) → Holds h → file_of (applied (disk_of h) x) entry ≡ file_of (disk_of h) entry
  entry_other h x left holds =
      same_file (disk_of h) (applied (disk_of h) x) entry (left.entries t.root t.key holds) (λ f e. left.entry_bytes t.root t.key f (record { before = h.log; later = []; log_is = sym (append-nil h.log); named = e }))

  pub going_other : (h : History) (x : LogItem) → Within t.me x → Leaves h t.me (applied (disk_of h) x) → Going h → Going (with_item h x)
  going_other h x within left g = going_then h x within (holds_other h x left g.holds) (entry_other h x left g.holds) g

  pub written_other : (h : History) (x : LogItem) (content : List ℕ) → Leaves h t.me (applied (disk_of h) x) → Holds h → HasWritten h content → HasWritten (with_item h x) content
  written_other h x content left holds w =
      let new : Disk = applied (disk_of h) x in
      let named : new.names temp ≡ Some w.file = left.temporary t.root t.key holds ∙ w.named in
      let same : Some (new.files w.file) ≡ Some ((disk_of h).files w.file) = sym (ap (bytes_in new.files) named) ∙ left.temporary_bytes t.root t.key holds ∙ ap (bytes_in (disk_of h).files) w.named in
      let there : HasTemp new t.me t.root t.key content = record { file = w.file; named = named; slot = left.slots 3 ∙ w.slot; bytes = same_bytes (new.files w.file) ((disk_of h).files w.file) same ∙ w.bytes } in
      subst (λ (d : Disk). HasTemp d t.me t.root t.key content) (sym (disk_then h x)) there

  tries_other : (again : ℕ) (h : History) (x : LogItem) → Within t.me x → is_own t.me x ≡ false → Leaves h t.me (applied (disk_of h) x) → Tries again h → Tries again (with_item h x)
  tries_other again h x within other left k = record {
    file = k.file;
    named = ap (λ (d : Disk). d.names lock) (disk_then h x) ∙ left.lock_names t.root (folder_byte t.key) k.file k.named;
    slot = ap (λ (d : Disk). d.slots t.me 0) (disk_then h x) ∙ left.slots 0 ∙ k.slot;
    count = k.count;
    counted = k.counted;
    tried = (meets h x t.me asked_for within).stays_tried k.file k.count other k.tried;
  }

  at_other : (look : Look) (h : History) (x : LogItem) → Leaves h t.me (applied (disk_of h) x) → AtLook look h → AtLook look (with_item h x)
  at_other First h x left a = tt
  at_other Second h x left a = holds_other h x left a

  named_other : (look : Look) (h : History) (x : LogItem) (within : Within t.me x) (left : Leaves h t.me (applied (disk_of h) x)) (o : Opens h) → AtLook look h → IsNamed look h o → IsNamed look (with_item h x) (open_other t.me asked_for t.root t.key h x within left o)
  named_other First h x within left o a named = tt
  named_other Second h x within left o a named = ap (λ (d : Disk). d.names entry) (disk_then h x) ∙ left.entries t.root t.key a ∙ named

  abbrev looks_other : (look : Look) (h : History) (x : LogItem) → Within t.me x → Leaves h t.me (applied (disk_of h) x) → AtLook look h → Looks look h → Looks look (with_item h x)
  looks_other look h x within left a l = (open_other t.me asked_for t.root t.key h x within left l.0, named_other look h x within left l.0 a l.1)

  pub knows_other : (phase : PutPhase) (bytes : List ℕ) (h : History) (x : LogItem) → Within t.me x → is_own t.me x ≡ false → Leaves h t.me (applied (disk_of h) x) → KnowsAt phase bytes h → KnowsAt phase bytes (with_item h x)
  knows_other (Opening look) bytes h x within other left k = (k.0, at_other look h x left k.1)
  knows_other (Measuring look) bytes h x within other left k = (k.0, at_other look h x left k.1, looks_other look h x within left k.1 k.2)
  knows_other (Reading look n) bytes h x within other left k = (k.0, at_other look h x left k.1, (looks_other look h x within left k.1 k.2.0, k.2.1))
  knows_other ReadingFront bytes h x within other left k = (k.0, holds_other h x left k.1, looks_other Second h x within left k.1 k.2)
  knows_other Leaving bytes h x within other left k = k
  knows_other OpeningLock bytes h x within other left k = k
  knows_other (Locking again) bytes h x within other left k = (k.0, tries_other again h x within other left k.1)
  knows_other (Pausing again) bytes h x within other left k = (k.0, tries_other again h x within other left k.1)
  knows_other (Evicting driver) bytes h x within other left k = (k.0, holds_other h x left k.1, (k.2.0, ap (λ (d : Disk). file_of d entry) (disk_then h x) ∙ entry_other h x left k.1 ∙ k.2.1, k.2.2))
  knows_other (Making also) bytes h x within other left k = (k.0, going_other h x within left k.1)
  knows_other (Cutting also) bytes h x within other left k = (k.0, going_other h x within left k.1, (k.2.0, written_other h x k.2.0 left k.1.holds k.2.1))
  knows_other (Writing also) bytes h x within other left k = (k.0, going_other h x within left k.1, written_other h x [] left k.1.holds k.2)
  knows_other (Renaming also) bytes h x within other left k = (going_other h x within left k.0, written_other h x t.item left k.0.holds k.1)
  knows_other (ClosingEntry answer besides) bytes h x within other left k = told_then answer h x within k
  knows_other (ClosingTemp answer) bytes h x within other left k = told_then answer h x within k
  knows_other (ClosingLock answer) bytes h x within other left k = told_then answer h x within k
  knows_other (Ended answer) bytes h x within other left k = told_then answer h x within k
  knows_other Evicted bytes h x within other left k = absurd k
  knows_other Spent bytes h x within other left k = absurd k

  -- ---- its End

  pub told_earns : (answer : Answer) (h : History) → In h → Told answer h → AnswersAreEarned h (items.End t.me answer)
  told_earns answers.Stored h i k = (earns h t.me).stored (folder_of t.root) t.driver t.key t.meta t.blob t.limit k
  told_earns answers.Kept h i k = (earns h t.me).kept (folder_of t.root) t.driver t.key t.meta t.blob t.limit k
  told_earns answers.Busy h i k = (earns h t.me).busy asked_for refl k
  told_earns answers.FilesFault h i k = (earns h t.me).fault asked_for k
  told_earns answers.NoMemory h i k = (earns h t.me).no_memory asked_for i.inside
  told_earns answer h i k = absurd k
