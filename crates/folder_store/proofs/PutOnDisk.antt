-- What a put does to the disk that was not begun, or that made no call: nothing.
use Rattle.std.proofs.Common.{◌≡◌, inl, ℕ, Bool, true, false, cond, List, [], ◌∷◌, filter, refl, sym, ap, subst, ◌∙◌}
use Rattle.std.specs.List.{AllByRecursion}
use Rattle.cache_types.specs.declared.answer.Answer.{Answer}
use Rattle.cache_types.specs.declared.answer.Answer.TheVariants.{NoMemory}
use Rattle.cache_types.specs.declared.key.Key.{Key}
use Rattle.cache_types.specs.declared.name.Name.TheVariants.{Entry}
use Rattle.cache_types.specs.declared.request.Request.{Request}
use Rattle.cache_types.specs.declared.seat.Who.{Who}
use Rattle.cache_types.specs.Driver.{DriverKeys}
use Rattle.file_log.specs.declared.item.LogItem.{LogItem}
use Rattle.file_log.specs.declared.item.LogItem.TheVariants.{Begin, End}
use Rattle.file_log.specs.Along.{All, Keeps}
use Rattle.file_log.specs.Disk.{Disk, file_of}
use Rattle.file_log.specs.Effect.{applied}
use Rattle.file_log.specs.Log.{History, with_items, own, is_own}
use Rattle.file_log.specs.State.{State, disk_of}
use Rattle.seat_rules.specs.Changes.{with_item}
use Rattle.folder_rules.specs.Rules.{EntriesStayWhole}
use Rattle.folder_rules.specs.Whole.{EntriesAreWhole}
use Rattle.folder_store.specs.Entries.{ReplacesTold, OthersSpare}
use Rattle.folder_store.specs.Put.{PutsAlone, is_evict}
use Rattle.folder_store.specs.Locking.{lock_name, IsUnlocked}
use Rattle.folder_store.proofs.PutDisks.{keeps_as}
use Rattle.folder_store.proofs.PutKnown.{put_item_on}
use Rattle.folder_store.proofs.PutPlaces.{state_then}

-- what the new items of a put do to the disk, alone and among others
pub record OnDisk (me : Who) (root : ℕ) (driver : DriverKeys) (key : Key) (blob : List ℕ) (answer : Answer) (h : History) (news : List LogItem) : Type 0 where
  pub alone : own me news ≡ news → IsUnlocked me root key (disk_of h) → PutsAlone me root driver key blob answer (disk_of h) (disk_of (with_items h news)) (own me news)
  pub whole : All with_item (OthersSpare me root key) h news → EntriesAreWhole h → Keeps with_item EntriesStayWhole me h news
  pub tells_first : All with_item (OthersSpare me root key) h news → Keeps with_item ReplacesTold me h news

-- an item that changes nothing on a disk
abbrev Rests : LogItem → Type 0
Rests item = ((d : Disk) → applied d item ≡ d) × ((h : History) → ReplacesTold h item)

module _ (me : Who) where
  abbrev RestsOwn : LogItem → List LogItem → Bool → Type 0
  RestsOwn item log b = AllByRecursion Rests (cond b (item ∷ own me log) (own me log))

  first_rests : (item : LogItem) (log : List LogItem) (b : Bool) → b ≡ true → RestsOwn item log b → Rests item
  first_rests item log true mine rests = rests.0
  first_rests item log false mine rests = absurd cc

  later_rest : (item : LogItem) (log : List LogItem) (b : Bool) → RestsOwn item log b → AllByRecursion Rests (own me log)
  later_rest item log true rests = rests.1
  later_rest item log false rests = rests

  rests_whole : (h : History) (item : LogItem) → applied (disk_of h) item ≡ disk_of h → EntriesAreWhole h → EntriesStayWhole h item
  rests_whole h item rests whole root key bytes is =
      let same : disk_of (with_item h item) ≡ disk_of h = ap (λ (s : State). s.disk) (state_then h (item ∷ [])) ∙ rests in
      put_item_on h.log (item ∷ []) root key bytes (whole root key bytes (sym (ap (λ (d : Disk). file_of d (Entry root key)) same) ∙ is))

  rests_keeps_whole : (h : History) (news : List LogItem) → AllByRecursion Rests (own me news) → EntriesAreWhole h → Keeps with_item EntriesStayWhole me h news
  rests_keeps_whole h [] rests whole = tt
  rests_keeps_whole h (item ∷ log) rests whole =
      (λ mine. rests_whole h item ((first_rests item log (is_own me item) mine rests).0 (disk_of h)) whole, λ rule. rests_keeps_whole (with_item h item) log (later_rest item log (is_own me item) rests) rule)

  rests_replaces : (h : History) (news : List LogItem) → AllByRecursion Rests (own me news) → Keeps with_item ReplacesTold me h news
  rests_replaces h [] rests = tt
  rests_replaces h (item ∷ log) rests =
      (λ mine. (first_rests item log (is_own me item) mine rests).1 h, λ rule. rests_replaces (with_item h item) log (later_rest item log (is_own me item) rests))

  module _ (request : Request) (root : ℕ) (driver : DriverKeys) (key : Key) (blob : List ℕ) (h : History) (news : List LogItem) where
    same_disk : (made : List LogItem) → own me news ≡ made → disk_of (with_items h made) ≡ disk_of h → own me news ≡ news → disk_of (with_items h news) ≡ disk_of h
    same_disk made is same alone = ap (λ (l : List LogItem). disk_of (with_items h l)) (sym alone ∙ is) ∙ same

    -- nothing is told, and no file is changed
    unchanged : (made : List LogItem) → own me news ≡ made → disk_of (with_items h made) ≡ disk_of h → filter is_evict made ≡ [] → own me news ≡ news → IsUnlocked me root key (disk_of h)
        → PutsAlone me root driver key blob NoMemory (disk_of h) (disk_of (with_items h news)) (own me news)
    unchanged made is same none alone free =
        let d = same_disk made is same alone in
        record {
          leaves = ap (λ (e : Disk). file_of e (Entry root key)) d;
          elsewhere = record {
            names = λ name apart. ap (λ (e : Disk). file_of e name) d;
            lock = keeps_as (file_of (disk_of h) (lock_name root key)) (file_of (disk_of (with_items h news)) (lock_name root key)) (ap (λ (e : Disk). file_of e (lock_name root key)) d);
          };
          evicts = inl (ap (filter is_evict) is ∙ none);
        }

    -- nothing was begun
    pub refused_on_disk : own me news ≡ [] → OnDisk me root driver key blob NoMemory h news
    refused_on_disk is = record {
      alone = unchanged [] is (ap (λ (s : State). s.disk) (state_then h [])) refl;
      whole = λ others whole. rests_keeps_whole h news (subst (AllByRecursion Rests) (sym is) tt) whole;
      tells_first = λ others. rests_replaces h news (subst (AllByRecursion Rests) (sym is) tt);
    }

    begin_and_end : AllByRecursion Rests (Begin me request ∷ End me NoMemory ∷ [])
    begin_and_end = ((λ d. refl, λ h'. tt), ((λ d. refl, λ h'. tt), tt))

    -- no call was made
    pub unmade_on_disk : own me news ≡ Begin me request ∷ End me NoMemory ∷ [] → OnDisk me root driver key blob NoMemory h news
    unmade_on_disk is = record {
      alone = unchanged (Begin me request ∷ End me NoMemory ∷ []) is (ap (λ (s : State). s.disk) (state_then h (Begin me request ∷ End me NoMemory ∷ []))) refl;
      whole = λ others whole. rests_keeps_whole h news (subst (AllByRecursion Rests) (sym is) begin_and_end) whole;
      tells_first = λ others. rests_replaces h news (subst (AllByRecursion Rests) (sym is) begin_and_end);
    }
