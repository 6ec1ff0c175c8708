-- What a put stored, a get gives back.
use Rattle.std.proofs.Common.{◌≡◌, ◌≤◌, ◌⊎◌, inl, inr, ℕ, List, ◌++◌, fold, Option, Some, None, refl, sym, ap, subst, ◌∙◌, arith}
use Rattle.std.specs.Prelude.{codes}
use Rattle.std.proofs.lemmas.List.Sums.{fold-append}
use Rattle.cache_types.specs.declared.answer.Answer.{Answer}
use Rattle.cache_types.specs.declared.answer.Answer.TheVariants as answers
use Rattle.cache_types.specs.declared.key.Key.{Key}
use Rattle.cache_types.specs.declared.name.Name.TheVariants.{Entry}
use Rattle.cache_types.specs.declared.request.Request.{Request}
use Rattle.cache_types.specs.declared.seat.Who.{Who}
use Rattle.cache_types.specs.Driver.{DriverKeys}
use Rattle.file_log.specs.declared.item.LogItem.{LogItem}
use Rattle.file_log.specs.Along.{All}
use Rattle.file_log.specs.Disk.{Disk, file_of}
use Rattle.file_log.specs.Log.{History, with_items, own}
use Rattle.file_log.specs.Operation.{LeavesAll}
use Rattle.file_log.specs.State.{State, first, after, state_of, disk_of}
use Rattle.file_log.specs.Told.{Grows, Rose}
use Rattle.files_api.specs.Streams.{IsAdded}
use Rattle.item_frame.proofs.Laws.{reads_one}
use Rattle.folder_rules.specs.Holds.{FileReads, FolderHolds}
use Rattle.folder_store.specs.Finds.{FindsOrFails}
use Rattle.folder_store.specs.Lookup.{IsLookupAnswer, LooksUp, LookedUp}
use Rattle.folder_store.specs.Put.{IsPutAnswer, Leaves, PutDone}
use Rattle.folder_store.proofs.Unlocked.{lone_unlocked}
use Rattle.report_text.specs.declared.status.Status.{Status}
use Rattle.report_text.specs.declared.status.Status.TheVariants as statuses
use Rattle.cache_main.specs.Printing.{IsPrinted}
use Rattle.cache_main.specs.Reading.{IsReadOut}
use Rattle.cache_main.specs.RoundTrip.{IsLone, HoldsAfter, GivesBack, FindsAgain}
use Rattle.cache_main.proofs.AllOwn.{are_own, own_back, first_own, last_own, still_along, same_file}
use Rattle.cache_main.proofs.Pieces.{added_then}

-- a file is one blob's
one_blob : (file : Option (List ℕ)) (driver : DriverKeys) (a b : List ℕ) → FileReads file driver a → FileReads file driver b → a ≡ b
one_blob None driver a b r s = absurd r
one_blob (Some bytes) driver a b r s = reads_one driver bytes a b r s

rose_since : (a b c : ℕ) → a ≤ b → Rose b c → Rose a c
rose_since a b c later rose = omega arith

-- ---- after the put

-- the store holds a blob, and the put's line was printed
pub record IsKept (driver : DriverKeys) (key : Key) (d : Disk) (left left' written written' : Option (List ℕ)) : Type 0 where
  pub line : List ℕ
  pub blob : List ℕ
  pub held : FolderHolds d 0 driver key blob
  pub lines : ((line ≡ codes "stored\n") × IsReadOut left left' blob) ⊎ (line ≡ codes "kept\n")
  pub added : IsAdded written written' line

module _ (driver : DriverKeys) (key : Key) (blob : List ℕ) (left left' written written' : Option (List ℕ)) (failed failed' : ℕ) (whole : IsReadOut left left' blob) (old new : Disk) where
  by_put : (request : Request) (answer : Answer) → IsPutAnswer answer → Leaves 0 driver key blob answer old new → IsPrinted request answer statuses.Ok written written' failed failed' → IsKept driver key new left left' written written'
  by_put request answer kind leaves (inr cut) = let clash : statuses.Ok ≡ statuses.WriteFault = cut.0 in absurd cc
  by_put request answers.Stored kind leaves (inl p) = record { line = codes "stored\n"; blob = blob; held = leaves.1; lines = inl (refl, whole); added = p.1.added }
  by_put request answers.Kept kind leaves (inl p) =
      let stays = subst (λ (file : Option (List ℕ)). FileReads file driver leaves.0.0) (sym (same_file old new leaves.1 (Entry 0 key))) leaves.0.1 in
      record { line = codes "kept\n"; blob = leaves.0.0; held = stays; lines = inr refl; added = p.1.added }
  by_put request answers.Busy kind leaves (inl p) = absurd leaves
  by_put request answers.FilesFault kind leaves (inl p) = let clash : statuses.Ok ≡ statuses.FilesFault = p.0 in absurd cc
  by_put request answers.NoMemory kind leaves (inl p) = let clash : statuses.Ok ≡ statuses.NoMemory = p.0 in absurd cc
  by_put request answer kind leaves (inl p) = absurd kind

-- ---- after the get

module _ (driver : DriverKeys) (key : Key) (d : Disk) (history : Option History) (before mid now : ℕ) (left left' written between written' : Option (List ℕ)) (failed failing failed' : ℕ)
    (kept : IsKept driver key d left left' written between) (lasts : (blob : List ℕ) → FolderHolds d 0 driver key blob → HoldsAfter history driver key blob) (later : before ≤ mid) (more : failed ≤ failing) where
  abbrev Well : Status → Type 0
  Well status = FindsAgain status history driver key before now left left' written written' failed failed'

  hit : (blob : List ℕ) → FolderHolds d 0 driver key blob → IsAdded between written' blob → GivesBack history driver key left left' written written'
  hit blob held added =
      let same : blob ≡ kept.blob = one_blob (file_of d (Entry 0 key)) driver blob kept.blob held kept.held in
      record {
        line = kept.line;
        blob = kept.blob;
        held = lasts kept.blob kept.held;
        lines = kept.lines;
        printed = added_then written between written' kept.line blob (kept.line ++ kept.blob) (ap (λ (xs : List ℕ). kept.line ++ xs) same) kept.added added;
      }

  by_get : (request : Request) (answer : Answer) (status : Status) → IsLookupAnswer answer → FindsOrFails (FolderHolds d 0 driver key) answer → (answer ≡ answers.FilesFault → Rose mid now) → IsPrinted request answer status between written' failing failed' → Well status
  by_get request answer status kind finds cause (inr p) = subst Well (sym p.0) (rose_since failed failing failed' more p.1.rose)
  by_get request (answers.Hit blob) status kind finds cause (inl p) = subst Well (sym p.0) (hit blob finds p.1.added)
  by_get request answers.Miss status kind finds cause (inl p) = absurd (finds kept.blob kept.held)
  by_get request answers.FilesFault status kind finds cause (inl p) = subst Well (sym p.0) (rose_since before mid now later (cause refl))
  by_get request answers.NoMemory status kind finds cause (inl p) = subst Well (sym p.0) tt
  by_get request answer status kind finds cause (inl p) = absurd kind

-- ---- both, where no other seat has an item

module _ (me : Who) (h : History) (n1 n2 : List LogItem) (lone : own me ((h.log ++ n1) ++ n2) ≡ (h.log ++ n1) ++ n2) where
  mine_first : own me n1 ≡ n1
  mine_first = own_back me n1 (last_own me h.log n1 (first_own me (h.log ++ n1) n2 (are_own me ((h.log ++ n1) ++ n2) lone)))

  mine_last : own me n2 ≡ n2
  mine_last = own_back me n2 (last_own me (h.log ++ n1) n2 (are_own me ((h.log ++ n1) ++ n2) lone))

-- what the store holds it holds after own items that change nothing
lasting : (me : Who) (h : History) (news : List LogItem) (driver : DriverKeys) (key : Key) (blob : List ℕ) → own me news ≡ news → All after (LeavesAll me) (state_of h) news
    → FolderHolds (disk_of h) 0 driver key blob → FolderHolds (disk_of (with_items h news)) 0 driver key blob
lasting me h news driver key blob mine still held =
    let last = fold after (state_of h) news in
    let stays = still_along me (state_of h) news (are_own me news mine) still in
    let file : file_of (disk_of (with_items h news)) (Entry 0 key) ≡ file_of (disk_of h) (Entry 0 key) =
    ap (λ (s : State). file_of s.disk (Entry 0 key)) (fold-append after (first h.start) h.log news) ∙ same_file (disk_of h) last.disk stays (Entry 0 key) in
    subst (λ (bytes : Option (List ℕ)). FileReads bytes driver blob) (sym file) held

pub given_back : (me : Who) (driver : DriverKeys) (key : Key) (blob : List ℕ) (put get : Request) (stored found : Answer) (status : Status) (old mid new : Option History) (before between now : ℕ) (left left' w w' w'' : Option (List ℕ)) (f f' f'' : ℕ)
    → IsReadOut left left' blob → PutDone me put 0 driver key blob old mid before between stored → IsPrinted put stored statuses.Ok w w' f f'
    → LookedUp me get 0 driver key mid new between now found → IsPrinted get found status w' w'' f' f''
    → IsLone me old → IsLone me new → before ≤ between → f ≤ f' → FindsAgain status new driver key before now left left' w w'' f f''
given_back me driver key blob put get stored found status None mid new before between now left left' w w' w'' f f' f'' whole done printed looked shown lone lone' later more = absurd lone
given_back me driver key blob put get stored found status (Some h) mid new before between now left left' w w' w'' f f' f'' whole done printed looked shown lone lone' later more =
    let n1 = done.told.0 in
    let h' = with_items h n1 in
    let told = subst (λ (o : Option History). Grows o new (LooksUp me get 0 driver key found)) done.told.1 looked.told in
    let all = subst (IsLone me) told.1 lone' in
    let alone = done.told.2.alone (mine_first me h n1 told.0 all) (lone_unlocked me 0 key h lone) in
    let kept = by_put driver key blob left left' w w' f f' whole (disk_of h) (disk_of h') put stored done.kind alone.leaves printed in
    let mine = mine_last me h n1 told.0 all in
    let lasts = λ (b : List ℕ) (held : FolderHolds (disk_of h') 0 driver key b). subst (λ (o : Option History). HoldsAfter o driver key b) (sym told.1) (lasting me h' told.0 driver key b mine told.2.still held) in
    by_get driver key (disk_of h') new before between now left left' w w' w'' f f' f'' kept lasts later more get found status looked.kind (told.2.finds mine) looked.cause shown

-- ---- a put that is not busy, where no other seat has an item

-- a log of one seat alone was its alone before it grew
lone_before : (P : History → List LogItem → Type 0) (me : Who) (h : History) (new : Option History) → (new ≡ Some h) ⊎ Grows (Some h) new P → IsLone me new → own me h.log ≡ h.log
lone_before P me h new (inl same) lone = subst (IsLone me) same lone
lone_before P me h new (inr told) lone =
    let all = subst (IsLone me) told.1 lone in
    own_back me h.log (first_own me h.log told.0 (are_own me (h.log ++ told.0) all))

pub never_busy : (P : History → List LogItem → Type 0) (me : Who) (driver : DriverKeys) (key : Key) (blob : List ℕ) (put : Request) (old mid new : Option History) (before between : ℕ)
    → PutDone me put 0 driver key blob old mid before between answers.Busy → (new ≡ mid) ⊎ Grows mid new P → IsLone me old → IsLone me new → ⊥
never_busy P me driver key blob put None mid new before between done goes lone lone' = absurd lone
never_busy P me driver key blob put (Some h) mid new before between done goes lone lone' =
    let n1 = done.told.0 in
    let h' = with_items h n1 in
    let grew = subst (λ (o : Option History). (new ≡ o) ⊎ Grows o new P) done.told.1 goes in
    let mine = last_own me h.log n1 (are_own me (h.log ++ n1) (lone_before P me h' new grew lone')) in
    let alone = done.told.2.alone (own_back me n1 mine) (lone_unlocked me 0 key h lone) in
    alone.leaves
