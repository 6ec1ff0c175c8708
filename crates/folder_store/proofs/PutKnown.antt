-- What a put knows between its calls, and what of it stays after an item.
use Rattle.std.proofs.Common.{◌≡◌, ◌⊎◌, inl, inr, ℕ, Bool, true, false, cond, List, [], ◌∷◌, ◌++◌, length, Option, Some, None, refl, sym, ap, ◌∙◌, subst, append_assoc}
use Rattle.std.proofs.lemmas.List.Elements.{Contains-append_left}
use Rattle.cache_types.specs.Driver.{DriverKeys, Fronts}
use Rattle.cache_types.specs.Seats.{same_seat}
use Rattle.cache_types.specs.declared.answer.Answer.{Answer}
use Rattle.cache_types.specs.declared.answer.Answer.TheVariants as answers
use Rattle.cache_types.specs.declared.key.Key.{Key}
use Rattle.cache_types.specs.declared.name.Name.TheVariants.{Entry, Temp}
use Rattle.cache_types.specs.declared.seat.Who.{Who}
use Rattle.cache_types.specs.declared.store.Store.{Store}
use Rattle.file_log.specs.declared.item.LogItem.{LogItem}
use Rattle.file_log.specs.declared.item.LogItem.TheVariants as items
use Rattle.file_log.specs.Disk.{Disk, file_of}
use Rattle.file_log.specs.Log.{is_own}
use Rattle.file_log.specs.Operation.{IsStill}
use Rattle.file_log.specs.State.{State, after}
use Rattle.disk_laws.specs.Tidy.{IsTidy}
use Rattle.folder_store.specs.declared.put_phase.Look.{Look}
use Rattle.folder_store.specs.declared.put_phase.Look.TheVariants.{First, Second}
use Rattle.folder_store.specs.declared.put_phase.PutPhase.{PutPhase}
use Rattle.folder_store.specs.declared.put_phase.PutPhase.TheVariants.{Opening, Measuring, Reading, ReadingFront, Leaving, OpeningLock, Locking, Pausing, Evicting, Evicted, Making, Cutting, Writing, Renaming, ClosingEntry, ClosingTemp, ClosingLock, Ended, Spent}
use Rattle.seat_rules.specs.Address.{address}
use Rattle.folder_rules.specs.Holds.{FileReads}
use Rattle.seat_rules.specs.Operations.{NoEndOf, is_end_of, EvictIsOpen}
use Rattle.folder_rules.specs.Whole.{folder_of, IsPutItem}
use Rattle.folder_store.specs.Entries.{IsSpared}
use Rattle.folder_store.specs.Put.{LeavesElsewhere, TellsReplaced}
use Rattle.folder_store.specs.Locking.{lock_name, IsUnlocked}
use Rattle.folder_store.proofs.PutDisks.{HasOld, HasTemp, spared_file, elsewhere_then}

-- ---- the put, and a place of the log

-- whose put it is and of what, and whether no other seat has an item, or holds the folder's lock at its Begin
pub record Job : Type 0 where
  pub me : Who
  pub root : ℕ
  pub driver : DriverKeys
  pub key : Key
  pub blob : List ℕ
  pub item : List ℕ
  pub alone : Bool

-- the log so far with its state, the disk at the seat's last Begin, and the evictions that the seat has told since
pub record Place : Type 0 where
  pub state : State
  pub log : List LogItem
  pub base : Disk
  pub told : List LogItem

abbrev pub base_after : Who → Disk → Disk → LogItem → Disk
base_after me base now (items.Begin who request) = cond (same_seat me who) now base
base_after me base now x = base

abbrev pub told_after : Who → List LogItem → LogItem → List LogItem
told_after me told (items.Begin who request) = cond (same_seat me who) [] told
told_after me told (items.Evict who store driver key) = cond (same_seat me who) (told ++ items.Evict who store driver key ∷ []) told
told_after me told x = told

abbrev pub step : Who → Place → LogItem → Place
step me p x = record {
  state = after p.state x;
  log = p.log ++ x ∷ [];
  base = base_after me p.base p.state.disk x;
  told = told_after me p.told x;
}

pub other_base : (me : Who) (base now : Disk) (x : LogItem) → is_own me x ≡ false → base_after me base now x ≡ base
other_base me base now (items.Begin who request) other = rw other refl
other_base me base now x other = refl

pub other_told : (me : Who) (told : List LogItem) (x : LogItem) → is_own me x ≡ false → told_after me told x ≡ told
other_told me told (items.Begin who request) other = rw other refl
other_told me told (items.Evict who store driver key) other = rw other refl
other_told me told x other = refl

pub other_end : (me : Who) (x : LogItem) → is_own me x ≡ false → is_end_of me x ≡ false
other_end me (items.End who answer) other = other
other_end me x other = refl

-- ---- a longer log

pub put_item_on : (log more : List LogItem) (root : ℕ) (key : Key) (bytes : List ℕ) → IsPutItem log root key bytes → IsPutItem (log ++ more) root key bytes
put_item_on log more root key bytes i = record {
  driver = i.driver;
  blob = i.blob;
  reads = i.reads;
  put = (i.put.0, i.put.1, i.put.2, Contains-append_left log more _ i.put.3);
}

no_end_on : (me : Who) (log : List LogItem) (x : LogItem) → NoEndOf me log → is_end_of me x ≡ false → NoEndOf me (log ++ x ∷ [])
no_end_on me [] x none e = (e, tt)
no_end_on me (y ∷ log) x none e = (none.0, no_end_on me log x none.1 e)

pub evict_on : (log : List LogItem) (x : LogItem) (me : Who) (store : Store) (driver : DriverKeys) (key : Key) → EvictIsOpen log me (address store driver key) → is_end_of me x ≡ false → EvictIsOpen (log ++ x ∷ []) me (address store driver key)
evict_on log x me store driver key o e = record {
  before = o.before;
  later = o.later ++ x ∷ [];
  log_is = ap (λ (l : List LogItem). l ++ x ∷ []) o.log_is ∙ append_assoc o.before (items.Evict me store driver key ∷ o.later) (x ∷ []);
  is_open = no_end_on me o.later x o.is_open e;
}

module _ (j : Job) where
  abbrev now : Place → Option (List ℕ)
  now p = file_of p.state.disk (Entry j.root j.key)

  -- the entry's bytes at the Begin
  abbrev pub old : Place → Option (List ℕ)
  old p = file_of p.base (Entry j.root j.key)

  -- ---- what is known

  -- in each phase
  pub record Base (p : Place) : Type 0 where
    pub tidy : IsTidy p.state.disk
    pub begun : IsPutItem p.log j.root j.key j.item
    pub elsewhere : j.alone ≡ true → LeavesElsewhere j.root j.key p.base p.state.disk
    pub free : j.alone ≡ true → IsUnlocked j.me j.root j.key p.state.disk

  -- nothing was changed and nothing told
  pub record Looking (p : Place) : Type 0 where
    pub entry : now p ≡ old p
    pub still : j.alone ≡ true → IsStill p.base p.state.disk
    pub quiet : p.told ≡ []

  -- no blob was held for the driver
  abbrev pub Lacks : Option (List ℕ) → Type 0
  Lacks entry = (blob : List ℕ) → FileReads entry j.driver blob → ⊥

  -- it looked once: the entry holds no blob for the driver, and nothing was told
  pub record Ready (p : Place) : Type 0 where
    pub entry : now p ≡ old p
    pub lacks : Lacks (old p)
    pub quiet : p.told ≡ []

  -- what is known at a look
  abbrev pub Looks : Look → Place → Type 0
  Looks First p = Looking p
  Looks Second p = Ready p

  -- where no other seat has an item, slot 0 has the lock file
  abbrev pub HasLock : Place → Type 0
  HasLock p = j.alone ≡ true → p.state.disk.slots j.me 0 ≡ p.state.disk.names (lock_name j.root j.key)

  -- the entry may be replaced: it holds no blob for the driver, and what stands in front of it was told
  pub record Going (p : Place) : Type 0 where
    pub entry : now p ≡ old p
    pub lacks : Lacks (old p)
    pub replaced : TellsReplaced j.me j.root j.key (old p) p.told
    pub told : (bytes : List ℕ) (driver : DriverKeys) → old p ≡ Some bytes → Fronts bytes driver → EvictIsOpen p.log j.me (address (folder_of j.root) driver j.key)

  abbrev pub HasEntry : Place → List ℕ → Type 0
  HasEntry p whole = HasOld p.state.disk j.me j.root j.key whole

  abbrev pub HasWritten : Place → List ℕ → Type 0
  HasWritten p content = HasTemp p.state.disk j.me j.root j.key content

  -- the entry is as it was, and its eviction is told or not
  pub record Excused (p : Place) : Type 0 where
    pub entry : now p ≡ old p
    pub told : (p.told ≡ []) ⊎ TellsReplaced j.me j.root j.key (old p) p.told

  pub record Replaced (p : Place) : Type 0 where
    pub lacks : Lacks (old p)
    pub entry : now p ≡ Some j.item
    pub no_temp : p.state.disk.names (Temp j.root j.key) ≡ None
    pub told : TellsReplaced j.me j.root j.key (old p) p.told

  pub record Held (p : Place) : Type 0 where
    pub held : (blob : List ℕ) × FileReads (old p) j.driver blob
    pub looking : Looking p

  -- what an answer says
  abbrev pub Answered : Answer → Place → Type 0
  Answered answers.Stored p = Replaced p
  Answered answers.Kept p = Held p
  Answered answers.Busy p = j.alone ≡ true → ⊥
  Answered answers.FilesFault p = Excused p
  Answered answers.NoMemory p = Excused p
  Answered answer p = ⊥

  -- what is known in a phase of a machine that has these bytes left to write
  abbrev pub KnowsAt : PutPhase → List ℕ → Place → Type 0
  KnowsAt (Opening look) bytes p = (bytes ≡ j.item) × Looks look p
  KnowsAt (Measuring look) bytes p = (bytes ≡ j.item) × Looks look p × ((whole : List ℕ) × HasEntry p whole)
  KnowsAt (Reading look n) bytes p = (bytes ≡ j.item) × Looks look p × ((whole : List ℕ) × HasEntry p whole × (n ≡ length whole))
  KnowsAt ReadingFront bytes p = (bytes ≡ j.item) × Ready p × ((whole : List ℕ) × HasEntry p whole)
  KnowsAt Leaving bytes p = (bytes ≡ j.item) × Ready p
  KnowsAt OpeningLock bytes p = (bytes ≡ j.item) × Ready p
  KnowsAt (Locking again) bytes p = (bytes ≡ j.item) × Ready p × HasLock p
  KnowsAt (Pausing again) bytes p = (bytes ≡ j.item) × Ready p × HasLock p
  KnowsAt (Evicting driver) bytes p = (bytes ≡ j.item) × Ready p × ((whole : List ℕ) × (old p ≡ Some whole) × Fronts whole driver)
  KnowsAt (Making entry) bytes p = (bytes ≡ j.item) × Going p
  KnowsAt (Cutting entry) bytes p = (bytes ≡ j.item) × Going p × ((content : List ℕ) × HasWritten p content)
  KnowsAt (Writing entry) bytes p = (bytes ≡ j.item) × Going p × HasWritten p []
  KnowsAt (Renaming entry) bytes p = Going p × HasWritten p j.item
  KnowsAt (ClosingEntry answer besides) bytes p = Answered answer p
  KnowsAt (ClosingTemp answer) bytes p = Answered answer p
  KnowsAt (ClosingLock answer) bytes p = Answered answer p
  KnowsAt (Ended answer) bytes p = Answered answer p
  KnowsAt Evicted bytes p = ⊥
  KnowsAt Spent bytes p = ⊥

  -- ---- what an item leaves

  -- an item that is no Begin, no own End and no own Evict
  pub record Passes (p p' : Place) : Type 0 where
    pub x : LogItem
    pub log : p'.log ≡ p.log ++ x ∷ []
    pub no_end : is_end_of j.me x ≡ false
    pub base : p'.base ≡ p.base
    pub told : p'.told ≡ p.told
    pub tidy : IsTidy p'.state.disk
    pub elsewhere : j.alone ≡ true → LeavesElsewhere j.root j.key p.state.disk p'.state.disk
    pub free : j.alone ≡ true → IsUnlocked j.me j.root j.key p.state.disk → IsUnlocked j.me j.root j.key p'.state.disk

  -- and leaves the entry
  pub record Goes (p p' : Place) : Type 0 where
    pub passes : Passes p p'
    pub entry : now p' ≡ now p

  -- and the temporary file too, and all of the disk where no other seat has an item
  pub record Rests (p p' : Place) : Type 0 where
    pub passes : Passes p p'
    pub spared : IsSpared j.root j.key p.state.disk p'.state.disk
    pub still : j.alone ≡ true → IsStill p.state.disk p'.state.disk

  pub rests_goes : (p p' : Place) → Rests p p' → Goes p p'
  rests_goes p p' r = record { passes = r.passes; entry = spared_file p.state.disk p'.state.disk j.root j.key r.spared }

  old_on : (p p' : Place) → Passes p p' → old p' ≡ old p
  old_on p p' e = ap (λ (d : Disk). file_of d (Entry j.root j.key)) e.base

  pub base_on : (p p' : Place) → Passes p p' → Base p → Base p'
  base_on p p' e b = record {
    tidy = e.tidy;
    begun = subst (λ (log : List LogItem). IsPutItem log j.root j.key j.item) (sym e.log) (put_item_on p.log (e.x ∷ []) j.root j.key j.item b.begun);
    elsewhere = λ alone. subst (λ (d : Disk). LeavesElsewhere j.root j.key d p'.state.disk) (sym e.base) (elsewhere_then j.root j.key p.base p.state.disk p'.state.disk (b.elsewhere alone) (e.elsewhere alone));
    free = λ alone. e.free alone (b.free alone);
  }

  pub looking_on : (p p' : Place) → Rests p p' → Looking p → Looking p'
  looking_on p p' r l = record {
    entry = (rests_goes p p' r).entry ∙ l.entry ∙ sym (old_on p p' r.passes);
    still = λ alone. subst (λ (d : Disk). IsStill d p'.state.disk) (sym r.passes.base) (record {
      names = λ name. (r.still alone).names name ∙ (l.still alone).names name;
      files = λ f. (r.still alone).files f ∙ (l.still alone).files f;
    });
    quiet = r.passes.told ∙ l.quiet;
  }

  lacks_on : (p p' : Place) → Passes p p' → Lacks (old p) → Lacks (old p')
  lacks_on p p' e lacks = subst Lacks (sym (old_on p p' e)) lacks

  pub ready_on : (p p' : Place) → Goes p p' → Ready p → Ready p'
  ready_on p p' g k = record { entry = g.entry ∙ k.entry ∙ sym (old_on p p' g.passes); lacks = lacks_on p p' g.passes k.lacks; quiet = g.passes.told ∙ k.quiet }

  pub looks_on : (look : Look) (p p' : Place) → Rests p p' → Looks look p → Looks look p'
  looks_on First p p' r l = looking_on p p' r l
  looks_on Second p p' r l = ready_on p p' (rests_goes p p' r) l

  abbrev Tells : Option (List ℕ) → List LogItem → Type 0
  Tells entry told = TellsReplaced j.me j.root j.key entry told

  tells_on : (p p' : Place) → Passes p p' → Tells (old p) p.told → Tells (old p') p'.told
  tells_on p p' e t = subst (λ (o : Option (List ℕ)). Tells o p'.told) (sym (old_on p p' e)) (subst (Tells (old p)) (sym e.told) t)

  pub going_on : (p p' : Place) → Goes p p' → Going p → Going p'
  going_on p p' g k = record {
    entry = g.entry ∙ k.entry ∙ sym (old_on p p' g.passes);
    lacks = lacks_on p p' g.passes k.lacks;
    replaced = tells_on p p' g.passes k.replaced;
    told = λ bytes driver is fronts.
        subst (λ (log : List LogItem). EvictIsOpen log j.me (address (folder_of j.root) driver j.key)) (sym g.passes.log)
        (evict_on p.log g.passes.x j.me (folder_of j.root) driver j.key (k.told bytes driver (sym (old_on p p' g.passes) ∙ is) fronts) g.passes.no_end);
  }

  pub excused_on : (p p' : Place) → Goes p p' → Excused p → Excused p'
  excused_on p p' g k = record { entry = g.entry ∙ k.entry ∙ sym (old_on p p' g.passes); told = by_told k.told }
    where
      by_told : (p.told ≡ []) ⊎ Tells (old p) p.told → (p'.told ≡ []) ⊎ Tells (old p') p'.told
      by_told (inl none) = inl (g.passes.told ∙ none)
      by_told (inr t) = inr (tells_on p p' g.passes t)

  replaced_on : (p p' : Place) → Rests p p' → Replaced p → Replaced p'
  replaced_on p p' r k = record {
    lacks = lacks_on p p' r.passes k.lacks;
    entry = (rests_goes p p' r).entry ∙ k.entry;
    no_temp = r.spared.temp ∙ k.no_temp;
    told = tells_on p p' r.passes k.told;
  }

  held_on : (p p' : Place) → Rests p p' → Held p → Held p'
  held_on p p' r k = record {
    held = subst (λ (o : Option (List ℕ)). (blob : List ℕ) × FileReads o j.driver blob) (sym (old_on p p' r.passes)) k.held;
    looking = looking_on p p' r k.looking;
  }

  pub answered_on : (answer : Answer) (p p' : Place) → Rests p p' → Answered answer p → Answered answer p'
  answered_on answers.Stored p p' r k = replaced_on p p' r k
  answered_on answers.Kept p p' r k = held_on p p' r k
  answered_on answers.Busy p p' r k = k
  answered_on answers.FilesFault p p' r k = excused_on p p' (rests_goes p p' r) k
  answered_on answers.NoMemory p p' r k = excused_on p p' (rests_goes p p' r) k
  answered_on answer p p' r k = absurd k

  -- ---- what others leave

  -- their items leave the slots of this seat too
  pub record Spares (p p' : Place) : Type 0 where
    pub rests : Rests p p'
    pub slots : (at : ℕ) → p'.state.disk.slots j.me at ≡ p.state.disk.slots j.me at
    pub among : j.alone ≡ true → ⊥

  entry_on : (p p' : Place) (whole : List ℕ) → Spares p p' → HasEntry p whole → HasEntry p' whole
  entry_on p p' whole l h = record { file = h.file; named = l.rests.spared.entry ∙ h.named; slot = l.slots 1 ∙ h.slot; bytes = l.rests.spared.bytes h.file (inl h.named) ∙ h.bytes }

  pub written_on : (p p' : Place) (content : List ℕ) → Spares p p' → HasWritten p content → HasWritten p' content
  written_on p p' content l h = record { file = h.file; named = l.rests.spared.temp ∙ h.named; slot = l.slots 3 ∙ h.slot; bytes = l.rests.spared.bytes h.file (inr h.named) ∙ h.bytes }

  pub knows_on : (phase : PutPhase) (bytes : List ℕ) (p p' : Place) → Spares p p' → KnowsAt phase bytes p → KnowsAt phase bytes p'
  knows_on (Opening look) bytes p p' l k = (k.0, looks_on look p p' l.rests k.1)
  knows_on (Measuring look) bytes p p' l k = (k.0, looks_on look p p' l.rests k.1, (k.2.0, entry_on p p' k.2.0 l k.2.1))
  knows_on (Reading look n) bytes p p' l k = (k.0, looks_on look p p' l.rests k.1, (k.2.0, entry_on p p' k.2.0 l k.2.1, k.2.2))
  knows_on ReadingFront bytes p p' l k = (k.0, ready_on p p' (rests_goes p p' l.rests) k.1, (k.2.0, entry_on p p' k.2.0 l k.2.1))
  knows_on Leaving bytes p p' l k = (k.0, ready_on p p' (rests_goes p p' l.rests) k.1)
  knows_on OpeningLock bytes p p' l k = (k.0, ready_on p p' (rests_goes p p' l.rests) k.1)
  knows_on (Locking again) bytes p p' l k = (k.0, ready_on p p' (rests_goes p p' l.rests) k.1, λ alone. absurd (l.among alone))
  knows_on (Pausing again) bytes p p' l k = (k.0, ready_on p p' (rests_goes p p' l.rests) k.1, λ alone. absurd (l.among alone))
  knows_on (Evicting driver) bytes p p' l k = (k.0, ready_on p p' (rests_goes p p' l.rests) k.1, (k.2.0, old_on p p' l.rests.passes ∙ k.2.1, k.2.2))
  knows_on (Making entry) bytes p p' l k = (k.0, going_on p p' (rests_goes p p' l.rests) k.1)
  knows_on (Cutting entry) bytes p p' l k = (k.0, going_on p p' (rests_goes p p' l.rests) k.1, (k.2.0, written_on p p' k.2.0 l k.2.1))
  knows_on (Writing entry) bytes p p' l k = (k.0, going_on p p' (rests_goes p p' l.rests) k.1, written_on p p' [] l k.2)
  knows_on (Renaming entry) bytes p p' l k = (going_on p p' (rests_goes p p' l.rests) k.0, written_on p p' j.item l k.1)
  knows_on (ClosingEntry answer besides) bytes p p' l k = answered_on answer p p' l.rests k
  knows_on (ClosingTemp answer) bytes p p' l k = answered_on answer p p' l.rests k
  knows_on (ClosingLock answer) bytes p p' l k = answered_on answer p p' l.rests k
  knows_on (Ended answer) bytes p p' l k = answered_on answer p p' l.rests k
  knows_on Evicted bytes p p' l k = k
  knows_on Spent bytes p p' l k = k
