-- A put that stored replaced the entry after each Evict; one that kept or was busy told none.
use Rattle.std.specs.List.{list_any}
use Rattle.std.proofs.Common.{◌≡◌, ℕ, Bool, true, false, cond, nat_eq, ◌+◌, ◌||◌, length, List, [], ◌∷◌, ◌++◌, take, refl, sym, ap, ◌∙◌, subst}
use Rattle.std.proofs.lemmas.Bool.{false≢true}
use Rattle.std.proofs.lemmas.List.Folds.{list_any-append}
use Rattle.cache_types.specs.Driver.{DriverKeys}
use Rattle.cache_types.specs.declared.answer.Answer.{Answer}
use Rattle.cache_types.specs.declared.answer.Answer.TheVariants as answers
use Rattle.cache_types.specs.declared.key.Key.{Key}
use Rattle.cache_types.specs.declared.name.Name.TheVariants.{Entry, Temp, FolderLock}
use Rattle.cache_types.specs.declared.request.Request.{Request}
use Rattle.cache_types.specs.declared.seat.Who.{Who}
use Rattle.file_log.specs.declared.call.Call.{Call}
use Rattle.file_log.specs.declared.call.Call.TheVariants as calls
use Rattle.file_log.specs.declared.item.LogItem.{LogItem}
use Rattle.file_log.specs.declared.item.LogItem.TheVariants as items
use Rattle.file_log.specs.declared.reply.Reply.{Reply}
use Rattle.file_log.specs.declared.reply.Reply.TheVariants as replies
use Rattle.file_log.specs.Disk.{Disk}
use Rattle.file_log.specs.Log.{History, is_own, own}
use Rattle.file_log.specs.State.{disk_of}
use Rattle.file_log.specs.Exchange.{Makes, Exchange, byte_items, items_done, items_before, items_refused}
use Rattle.files_api.specs.declared.machine.Step.{Step}
use Rattle.files_api.specs.declared.machine.Step.TheVariants as steps
use Rattle.files_api.specs.Drive.{Runs, items_of_all}
use Rattle.seat_rules.specs.Changes.{with_item, is_rename}
use Rattle.folder_store.specs.declared.put.FolderPut.{FolderPut}
use Rattle.folder_store.specs.declared.put_phase.Besides.{Besides}
use Rattle.folder_store.specs.declared.put_phase.Besides.TheVariants.{Nothing, Lock, LockAndTemp}
use Rattle.folder_store.specs.declared.put_phase.Look.TheVariants.{First}
use Rattle.folder_store.specs.declared.put_phase.PutPhase.{PutPhase}
use Rattle.folder_store.specs.declared.put_phase.PutPhase.TheVariants.{Opening, Measuring, Reading, ReadingFront, Leaving, OpeningLock, Locking, Pausing, Evicting, Evicted, Making, Cutting, Writing, Renaming, ClosingEntry, ClosingTemp, ClosingLock, Ended, Spent}
use Rattle.folder_store.specs.Phases.{fault}
use Rattle.folder_store.specs.Put.{is_evict, NamesFront, EvictsNameFronts, EntryIsReplaced, ReplacesEvicted}
use Rattle.folder_store.specs.PutPhases.{asks_put, asks_put_in, asked_put, after_put_asking, closing, NextPut, FedPut}
use Rattle.folder_store.proofs.Items.{IsNoNote}
use Rattle.folder_store.proofs.PutCalls.{put_next_of}
use Rattle.folder_store.proofs.PutDisks.{same_self}

abbrev pub any_evict : List LogItem → Bool
any_evict made = list_any is_evict made

-- ---- which calls tell one

none_bytes : (me : Who) (slot at : ℕ) (bytes : List ℕ) → any_evict (byte_items me slot at bytes) ≡ false
none_bytes me slot at [] = refl
none_bytes me slot at (value ∷ bytes) = none_bytes me slot (at + 1) bytes

none_done : (me : Who) (call : Call) → IsNoNote call → any_evict (items_done me call) ≡ false
none_done me (calls.Tell note) other = absurd other
none_done me (calls.WriteAt slot at bytes) other = by_length (nat_eq (length bytes) 0)
  where
    by_length : (b : Bool) → any_evict (cond b (items.Did me (calls.WriteAt slot at bytes) replies.Done ∷ []) (byte_items me slot at bytes)) ≡ false
    by_length true = refl
    by_length false = none_bytes me slot at bytes
none_done me call other = refl

none_before : (me : Who) (call : Call) (k : ℕ) → any_evict (items_before me call k) ≡ false
none_before me (calls.WriteAt slot at bytes) k = none_bytes me slot at (take k bytes)
none_before me call k = refl

none_refused : (me : Who) (call : Call) → any_evict (items_refused me true call) ≡ false
none_refused me (calls.Tell note) = refl
none_refused me call = refl

or_none : (a b : Bool) → (a || b) ≡ false → (a ≡ false) × (b ≡ false)
or_none true b e = absurd cc
or_none false b e = (refl, e)

both_none : (xs ys : List LogItem) → any_evict xs ≡ false → any_evict ys ≡ false → any_evict (xs ++ ys) ≡ false
both_none xs ys a b = list_any-append is_evict xs ys ∙ rw (a, b) refl

none_told : (me : Who) (call : Call) (reply : Reply) (made : List LogItem) → IsNoNote call → Makes me true call reply made → any_evict made ≡ false
none_told me call replies.Done made other ms = rw ms (none_done me call other)
none_told me call replies.Failed made other ms = rw ms.1 (both_none (items_before me call ms.0) (items.Failed me false ∷ []) (none_before me call ms.0) refl)
none_told me call replies.NoMemory made other ms = rw ms.1 (both_none (items_before me call ms.0) (items_refused me true call) (none_before me call ms.0) (none_refused me call))
none_told me call reply made other ms = rw ms refl

-- ---- what is left to be done

-- an answer after which nothing was told
abbrev IsKeeping : Answer → Type 0
IsKeeping answers.Kept = Unit {0}
IsKeeping answers.Busy = Unit {0}
IsKeeping answer = ⊥

fault_ends : (answer : Answer) (reply : Reply) → answer ≡ fault reply → (answer ≡ answers.Stored → ⊥) × (IsKeeping answer → ⊥)
fault_ends answer replies.NoMemory e = (λ s. let clash : answers.NoMemory ≡ answers.Stored = sym e ∙ s in absurd cc, λ k. subst IsKeeping e k)
fault_ends answer reply e = (λ s. let clash : answers.FilesFault ≡ answers.Stored = sym e ∙ s in absurd cc, λ k. subst IsKeeping e k)

module _ (root : ℕ) (key : Key) where
  abbrev any_rename : List LogItem → Bool
  any_rename made = list_any (is_rename (Temp root key) (Entry root key)) made

  -- the entry is still to be replaced
  pub record Replaces (answer : Answer) (made : List LogItem) : Type 0 where
    pub none : any_evict made ≡ false
    pub stored : answer ≡ answers.Stored → any_rename made ≡ true
    pub told : IsKeeping answer → ⊥

  -- this is the answer
  pub record Stands (given answer : Answer) (made : List LogItem) : Type 0 where
    pub none : any_evict made ≡ false
    pub same : answer ≡ given

  abbrev pub Left : PutPhase → Answer → List LogItem → Type 0
  Left (Making also) answer made = Replaces answer made
  Left (Cutting also) answer made = Replaces answer made
  Left (Writing also) answer made = Replaces answer made
  Left (Renaming also) answer made = Replaces answer made
  Left (ClosingEntry given besides) answer made = Stands given answer made
  Left (ClosingTemp given) answer made = Stands given answer made
  Left (ClosingLock given) answer made = Stands given answer made
  Left (Ended given) answer made = Stands given answer made
  Left phase answer made = ReplacesEvicted root key answer made

  -- ---- where none is told

  later_none : (x : LogItem) (made : List LogItem) → any_evict (x ∷ made) ≡ false → any_evict made ≡ false
  later_none x made none = (or_none (is_evict x) (any_evict made) none).1

  first_none : (x : LogItem) (made : List LogItem) → any_evict (x ∷ made) ≡ false → is_evict x ≡ true → ⊥
  first_none x made none e = false≢true (sym (or_none (is_evict x) (any_evict made) none).0 ∙ e)

  none_replaced : (made rest : List LogItem) → any_evict made ≡ false → EntryIsReplaced root key rest → EntryIsReplaced root key (made ++ rest)
  none_replaced [] rest none r = r
  none_replaced (x ∷ made) rest none r = (λ e. absurd (first_none x made none e), none_replaced made rest (later_none x made none) r)

  all_replaced : (made : List LogItem) → any_evict made ≡ false → EntryIsReplaced root key made
  all_replaced [] none = tt
  all_replaced (x ∷ made) none = (λ e. absurd (first_none x made none e), all_replaced made (later_none x made none))

  none_fits : (answer : Answer) (made : List LogItem) → any_evict made ≡ false → ReplacesEvicted root key answer made
  none_fits answers.Stored made none = all_replaced made none
  none_fits answers.Kept made none = none
  none_fits answers.Busy made none = none
  none_fits answer made none = tt

  fits_of : (phase : PutPhase) (answer : Answer) (made : List LogItem) → Left phase answer made → ReplacesEvicted root key answer made
  fits_of (Making also) answer made l = none_fits answer made l.none
  fits_of (Cutting also) answer made l = none_fits answer made l.none
  fits_of (Writing also) answer made l = none_fits answer made l.none
  fits_of (Renaming also) answer made l = none_fits answer made l.none
  fits_of (ClosingEntry given besides) answer made l = none_fits answer made l.none
  fits_of (ClosingTemp given) answer made l = none_fits answer made l.none
  fits_of (ClosingLock given) answer made l = none_fits answer made l.none
  fits_of (Ended given) answer made l = none_fits answer made l.none
  fits_of phase answer made l = l

  closing_stands : (given : Answer) (also : Bool) (besides : Besides) (answer : Answer) (made : List LogItem) → Left (closing given also besides) answer made → Stands given answer made
  closing_stands given true besides answer made l = l
  closing_stands given false Nothing answer made l = l
  closing_stands given false Lock answer made l = l
  closing_stands given false LockAndTemp answer made l = l

  -- ---- what a call adds

  more_fits : (answer : Answer) (made rest : List LogItem) → any_evict made ≡ false → ReplacesEvicted root key answer rest → ReplacesEvicted root key answer (made ++ rest)
  more_fits answers.Stored made rest none r = none_replaced made rest none r
  more_fits answers.Kept made rest none r = both_none made rest none r
  more_fits answers.Busy made rest none r = both_none made rest none r
  more_fits answer made rest none r = tt

  -- the Evict is followed by what replaces the entry
  evict_fits : (answer : Answer) (evict : LogItem) (rest : List LogItem) → Replaces answer rest → ReplacesEvicted root key answer (evict ∷ rest)
  evict_fits answers.Stored evict rest r = (λ e. r.stored refl, all_replaced rest r.none)
  evict_fits answers.Kept evict rest r = absurd (r.told tt)
  evict_fits answers.Busy evict rest r = absurd (r.told tt)
  evict_fits answer evict rest r = tt

  rename_later : (made rest : List LogItem) → any_rename rest ≡ true → any_rename (made ++ rest) ≡ true
  rename_later made rest e = list_any-append (is_rename (Temp root key) (Entry root key)) made rest ∙ rw e (or_true (any_rename made))
    where
      or_true : (b : Bool) → (b || true) ≡ true
      or_true true = refl
      or_true false = refl

  more_replaces : (answer : Answer) (made rest : List LogItem) → any_evict made ≡ false → Replaces answer rest → Replaces answer (made ++ rest)
  more_replaces answer made rest none r = record { none = both_none made rest none r.none; stored = λ e. rename_later made rest (r.stored e); told = r.told }

  fault_replaces : (answer : Answer) (reply : Reply) (made rest : List LogItem) → any_evict made ≡ false → Stands (fault reply) answer rest → Replaces answer (made ++ rest)
  fault_replaces answer reply made rest none s =
      let ends = fault_ends answer reply s.same in
      record { none = both_none made rest none s.none; stored = λ e. absurd (ends.0 e); told = ends.1 }

  more_stands : (given answer : Answer) (made rest : List LogItem) → any_evict made ≡ false → Stands given answer rest → Stands given answer (made ++ rest)
  more_stands given answer made rest none s = record { none = both_none made rest none s.none; same = s.same }

  module _ (me : Who) (item : List ℕ) (driver : DriverKeys) (answer : Answer) (made rest : List LogItem) where
    abbrev MakesAt : Step → Reply → Type 0
    MakesAt (steps.Ask call) reply = Makes me true call reply made
    MakesAt (steps.Done given) reply = ⊥

    abbrev Adds : PutPhase → Reply → PutPhase → Type 0
    Adds p reply q = MakesAt (asks_put_in root key item p) reply → NextPut driver (after_put_asking p) reply q → Left q answer rest → Left p answer (made ++ rest)

    -- an early call tells none
    early : (call : Call) (reply : Reply) (q : PutPhase) → IsNoNote call → Makes me true call reply made → Left q answer rest → ReplacesEvicted root key answer (made ++ rest)
    early call reply q other ms l = more_fits answer made rest (none_told me call reply made other ms) (fits_of q answer rest l)

    -- a call on the way to the rename leads on, or to a fault
    on : (call : Call) (reply : Reply) (q next : PutPhase) → IsNoNote call → Makes me true call reply made → q ≡ next → (Left next answer rest → Replaces answer rest) → Left q answer rest → Replaces answer (made ++ rest)
    on call reply q next other ms e same l = more_replaces answer made rest (none_told me call reply made other ms) (same (subst (λ (p : PutPhase). Left p answer rest) e l))

    off : (call : Call) (reply : Reply) (q : PutPhase) (also : Bool) (besides : Besides) → IsNoNote call → Makes me true call reply made → q ≡ closing (fault reply) also besides → Left q answer rest → Replaces answer (made ++ rest)
    off call reply q also besides other ms e l = fault_replaces answer reply made rest (none_told me call reply made other ms) (closing_stands (fault reply) also besides answer rest (subst (λ (p : PutPhase). Left p answer rest) e l))

    -- the rename replaces it
    renamed : (q : PutPhase) (also : Bool) → made ≡ items.Did me (calls.Rename (Temp root key) (Entry root key)) replies.Done ∷ [] → q ≡ closing answers.Stored also LockAndTemp → Left q answer rest → Replaces answer (made ++ rest)
    renamed q also ms e l =
        let s = closing_stands answers.Stored also LockAndTemp answer rest (subst (λ (p : PutPhase). Left p answer rest) e l) in
        let now : any_rename (items.Did me (calls.Rename (Temp root key) (Entry root key)) replies.Done ∷ rest) ≡ true = rw (same_self (Temp root key), same_self (Entry root key)) refl in
        record {
          none = both_none made rest (ap any_evict ms) s.none;
          stored = λ is. ap (λ (l' : List LogItem). any_rename (l' ++ rest)) ms ∙ now;
          told = λ k. subst IsKeeping s.same k;
        }

    adds : (p : PutPhase) (reply : Reply) (q : PutPhase) → Adds p reply q
    adds (Opening look) reply q ms e l = early (calls.OpenOld 1 (Entry root key)) reply q tt ms l
    adds (Measuring look) reply q ms e l = early (calls.Length 1) reply q tt ms l
    adds (Reading look n) reply q ms e l = early (calls.ReadAt 1 0 n) reply q tt ms l
    adds ReadingFront reply q ms e l = early (calls.ReadAt 1 0 522) reply q tt ms l
    adds Leaving reply q ms e l = early (calls.Close 1) reply q tt ms l
    adds OpeningLock reply q ms e l = early (calls.OpenNew 0 (FolderLock root _)) reply q tt ms l
    adds (Locking again) reply q ms e l = early (calls.TryLock 0) reply q tt ms l
    adds (Pausing again) reply q ms e l = early calls.Pause reply q tt ms l
    adds (Evicting gone) replies.Done q ms e l =
        subst (λ (m : List LogItem). ReplacesEvicted root key answer (m ++ rest)) (sym ms) (evict_fits answer _ rest (subst (λ (p : PutPhase). Left p answer rest) e l))
    adds (Evicting gone) replies.NoMemory q ms e l = more_fits answer made rest (ap any_evict ms.1) (fits_of q answer rest l)
    adds (Evicting gone) replies.Failed q ms e l = more_fits answer made rest (ap any_evict ms.1) (fits_of q answer rest l)
    adds (Evicting gone) reply q ms e l = more_fits answer made rest (ap any_evict ms) (fits_of q answer rest l)
    adds (Making also) replies.Done q ms e l = on (calls.OpenNew 3 (Temp root key)) replies.Done q (Cutting also) tt ms e (λ r. r) l
    adds (Making also) reply q ms e l = off (calls.OpenNew 3 (Temp root key)) reply q also Lock tt ms e l
    adds (Cutting also) replies.Done q ms e l = on (calls.Cut 3 0) replies.Done q (Writing also) tt ms e (λ r. r) l
    adds (Cutting also) reply q ms e l = off (calls.Cut 3 0) reply q also LockAndTemp tt ms e l
    adds (Writing also) replies.Done q ms e l = on (calls.WriteAt 3 0 item) replies.Done q (Renaming also) tt ms e (λ r. r) l
    adds (Writing also) reply q ms e l = off (calls.WriteAt 3 0 item) reply q also LockAndTemp tt ms e l
    adds (Renaming also) replies.Done q ms e l = renamed q also ms e l
    adds (Renaming also) reply q ms e l = off (calls.Rename (Temp root key) (Entry root key)) reply q also LockAndTemp tt ms e l
    adds (ClosingEntry given besides) reply q ms e l =
        more_stands given answer made rest (none_told me (calls.Close 1) reply made tt ms) (closing_stands given false besides answer rest (subst (λ (p : PutPhase). Left p answer rest) e l))
    adds (ClosingTemp given) reply q ms e l = more_stands given answer made rest (none_told me (calls.Close 3) reply made tt ms) (subst (λ (p : PutPhase). Left p answer rest) e l)
    adds (ClosingLock given) reply q ms e l = more_stands given answer made rest (none_told me (calls.Close 0) reply made tt ms) (subst (λ (p : PutPhase). Left p answer rest) e l)
    adds (Ended given) reply q ms e l = absurd ms
    adds Evicted reply q ms e l = absurd ms
    adds Spent reply q ms e l = absurd ms

  -- where it asks nothing more, its answer stands
  settled : (item : List ℕ) (p : PutPhase) (answer : Answer) → asks_put_in root key item p ≡ steps.Done answer → Left p answer []
  settled item (Ended given) answer e = let same : given ≡ answer = cc in record { none = refl; same = sym same }
  settled item Evicted answer e = none_fits answer [] refl
  settled item Spent answer e = none_fits answer [] refl
  settled item p answer e = absurd cc

-- ---- a whole run

pub left_from : (me : Who) (m last : FolderPut) (xs : List Exchange) (answer : Answer) → Runs asks_put asked_put FedPut me m xs answer last → Left m.root m.key m.phase answer (items_of_all xs)
left_from me m last [] answer run = settled m.root m.key m.item m.phase answer run.0
left_from me m last (x ∷ xs) answer run =
    let n = run.3.0 in
    let roots : n.root ≡ m.root = ap (λ (y : FolderPut). y.root) run.3.1.1 in
    let keys : n.key ≡ m.key = ap (λ (y : FolderPut). y.key) run.3.1.1 in
    let rest = left_from me n last xs answer run.3.2 in
    let rest' = subst (λ (k : Key). Left m.root k n.phase answer (items_of_all xs)) keys (subst (λ (r : ℕ). Left r n.key n.phase answer (items_of_all xs)) roots rest) in
    adds m.root m.key me m.item m.driver answer x.items (items_of_all xs) m.phase x.reply n.phase (subst (λ (s : Step). MakesAt m.root m.key me m.item m.driver answer x.items (items_of_all xs) s x.reply) (sym run.0) run.2)
    (put_next_of m n m.phase x.reply refl run.3.1) rest'

-- its Begin and its End tell none
whole_fits : (me : Who) (root : ℕ) (key : Key) (request : Request) (answer ended : Answer) (inner : List LogItem) → ReplacesEvicted root key answer inner → ReplacesEvicted root key answer (items.Begin me request ∷ (inner ++ items.End me ended ∷ []))
whole_fits me root key request answers.Stored ended inner r = (λ e. absurd cc, more_after inner r)
  where
    rename_stays : (made rest : List LogItem) → list_any (is_rename (Temp root key) (Entry root key)) made ≡ true → list_any (is_rename (Temp root key) (Entry root key)) (made ++ rest) ≡ true
    rename_stays made rest e = list_any-append (is_rename (Temp root key) (Entry root key)) made rest ∙ rw e refl

    more_after : (made : List LogItem) → EntryIsReplaced root key made → EntryIsReplaced root key (made ++ items.End me ended ∷ [])
    more_after [] r' = (λ e. absurd cc, tt)
    more_after (x ∷ made) r' = (λ e. rename_stays made (items.End me ended ∷ []) (r'.0 e), more_after made r'.1)
whole_fits me root key request answers.Kept ended inner r = both_none inner (items.End me ended ∷ []) r refl
whole_fits me root key request answers.Busy ended inner r = both_none inner (items.End me ended ∷ []) r refl
whole_fits me root key request answer ended inner r = tt

-- A put that stored replaced the entry after each Evict that it told, one that kept or was busy told none.
pub put_replaces : (me : Who) (request : Request) (root : ℕ) (key : Key) (m last : FolderPut) (xs : List Exchange) (answer ended : Answer) (made : List LogItem) → m.root ≡ root → m.key ≡ key → m.phase ≡ Opening First → Runs asks_put asked_put FedPut me m xs answer last
    → made ≡ items.Begin me request ∷ (items_of_all xs ++ items.End me ended ∷ []) → ReplacesEvicted root key answer made
put_replaces me request root key m last xs answer ended made roots keys opening runs whole =
    let run = left_from me m last xs answer runs in
    let fits : ReplacesEvicted m.root m.key answer (items_of_all xs) = fits_of m.root m.key m.phase answer (items_of_all xs) run in
    let here : ReplacesEvicted root key answer (items_of_all xs) = subst (λ (k : Key). ReplacesEvicted root k answer (items_of_all xs)) keys (subst (λ (r : ℕ). ReplacesEvicted r m.key answer (items_of_all xs)) roots fits) in
    subst (ReplacesEvicted root key answer) (sym whole) (whole_fits me root key request answer ended (items_of_all xs) here)

-- ---- own items that tell none

names_plain : (root : ℕ) (key : Key) (d : Disk) (x : LogItem) → is_evict x ≡ false → NamesFront root key d x
names_plain root key d (items.Evict who store driver key') e = let clash : true ≡ false = e in absurd cc
names_plain root key d x e = tt

pub plain_names : (me : Who) (root : ℕ) (key : Key) (h : History) (news : List LogItem) → any_evict (own me news) ≡ false → EvictsNameFronts me root key h news
plain_names me root key h [] none = tt
plain_names me root key h (x ∷ news) none = by_test (is_own me x) none (plain_names me root key (with_item h x) news)
  where
    by_test : (b : Bool) → any_evict (cond b (x ∷ own me news) (own me news)) ≡ false → (any_evict (own me news) ≡ false → EvictsNameFronts me root key (with_item h x) news)
        → (b ≡ true → NamesFront root key (disk_of h) x) × EvictsNameFronts me root key (with_item h x) news
    by_test true e again = let both = or_none (is_evict x) (any_evict (own me news)) e in (λ mine. names_plain root key (disk_of h) x both.0, again both.1)
    by_test false e again = (λ mine. absurd (false≢true mine), again e)
