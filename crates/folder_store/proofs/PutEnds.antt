-- What a whole put does to the disk, alone and among others.
use Rattle.std.proofs.Common.{◌≡◌, ℕ, Bool, true, false, nat_eq, List, [], ◌∷◌, ◌++◌, length, filter, fold, Some, refl, sym, ap, ◌∙◌, subst, arith}
use Rattle.std.specs.List.{AllByRecursion}
use Rattle.std.proofs.lemmas.Bool.{false≢true, ne_eqb}
use Rattle.std.proofs.lemmas.List.{append-nil}
use Rattle.std.proofs.lemmas.List.Elements.{filter-append}
use Rattle.std.proofs.lemmas.List.Sums.{fold-append}
use Rattle.cache_types.specs.Driver.{DriverKeys, IsDriver}
use Rattle.cache_types.specs.declared.answer.Answer.{Answer}
use Rattle.cache_types.specs.declared.answer.Answer.TheVariants.{Stored}
use Rattle.cache_types.specs.declared.key.Key.{Key}
use Rattle.cache_types.specs.declared.name.Name.TheVariants.{Entry}
use Rattle.cache_types.specs.declared.request.Request.{Request}
use Rattle.cache_types.specs.declared.request.Request.TheVariants as requests
use Rattle.cache_types.specs.declared.seat.Who.{Who}
use Rattle.cache_types.specs.declared.store.Store.{Store}
use Rattle.file_log.specs.declared.call.Call.TheVariants.{Rename}
use Rattle.file_log.specs.declared.item.LogItem.{LogItem}
use Rattle.file_log.specs.declared.item.LogItem.TheVariants as items
use Rattle.file_log.specs.declared.reply.Reply.TheVariants.{Done}
use Rattle.file_log.specs.Along.{All, Keeps}
use Rattle.file_log.specs.Disk.{Disk, file_of}
use Rattle.file_log.specs.Effect.{applied}
use Rattle.file_log.specs.Exchange.{Exchange}
use Rattle.file_log.specs.Legal.{Legal}
use Rattle.file_log.specs.Log.{History, with_items, is_own, own}
use Rattle.file_log.specs.Operation.{IsWithinRoot}
use Rattle.file_log.specs.State.{State, after, state_of, disk_of}
use Rattle.file_log.specs.Told.{OwnsToEnd}
use Rattle.file_log.proofs.All.{seat_self}
use Rattle.disk_laws.proofs.Tidiness.{tidy}
use Rattle.files_api.specs.Drive.{Runs, items_of_all, IsEndOf}
use Rattle.item_frame.specs.Item.{Reads, item_of}
use Rattle.item_frame.proofs.Laws.{Reads-from_as, at_least}
use Rattle.folder_store.specs.declared.put.FolderPut.{FolderPut}
use Rattle.seat_rules.specs.Address.{address}
use Rattle.seat_rules.specs.Changes.{with_item}
use Rattle.seat_rules.specs.Operations.{EvictIsOpen}
use Rattle.folder_rules.specs.Rules.{EntriesStayWhole}
use Rattle.folder_rules.specs.Whole.{folder_of, EntriesAreWhole}
use Rattle.folder_store.specs.Entries.{ReplacesTold, IsSpared, OthersSpare}
use Rattle.folder_store.specs.Locking.{IsUnlocked}
use Rattle.folder_store.specs.Put.{AsksPut, blob_in, Leaves, HoldsItem, LeavesElsewhere, TellsEvicts, PutsAlone, is_evict}
use Rattle.folder_store.specs.PutPhases.{IsNewPut, asks_put, asked_put, FedPut}
use Rattle.folder_store.proofs.PutKnown.{Job, Place, step}
use Rattle.folder_store.proofs.PutRules.{AreWhole, Replaces, IsRight}
use Rattle.folder_store.proofs.PutPlaces.{place_of, IsAt, state_then, at_next, states, all_at, AreOwn, are_own, own_spare, own_front, inner_base, inner_told}
use Rattle.folder_store.proofs.PutWeave.{Fair, Rule, all_right}

-- ---- the put

-- what is asked for is what the item reads as
pub asked_reads : (request : Request) (root : ℕ) (driver : DriverKeys) (key : Key) (item : List ℕ) → AsksPut request root driver key item → Reads driver item (blob_in request)
asked_reads (requests.Put store driver' key' meta blob limit) root driver key item asks = Reads-from_as driver item meta blob asks.3
asked_reads request root driver key item asks = absurd asks

-- no item is empty
pub filled : (driver : DriverKeys) (item blob : List ℕ) → Reads driver item blob → nat_eq (length item) 0 ≡ false
filled driver item blob reads = ne_eqb (length item) 0 (λ empty. absurd (omega (arith, empty, at_least driver item blob reads)))

-- the item is that of the driver, meta and blob that are asked for
holds_item : (request : Request) (root : ℕ) (driver : DriverKeys) (key : Key) (item : List ℕ) (d : Disk) → AsksPut request root driver key item → file_of d (Entry root key) ≡ Some item → HoldsItem request d
holds_item (requests.Put store driver' key' meta blob limit) root driver key item d asks e =
    let root_is : store.root ≡ root = ap (λ (s : Store). s.root) asks.0 in
    let names : Entry store.root key' ≡ Entry root key = ap (λ (r : ℕ). Entry r key') root_is ∙ ap (λ (k : Key). Entry root k) asks.2 in
    let item_is : item ≡ item_of driver' meta blob = asks.3.whole ∙ ap (λ (k : DriverKeys). item_of k meta blob) (sym asks.1) in
    ap (file_of d) names ∙ e ∙ ap (λ (bytes : List ℕ). Some bytes) item_is
holds_item request root driver key item d asks e = absurd asks

-- two lists that end alike
abbrev last_of : LogItem → List LogItem → LogItem
last_of x [] = x
last_of x (y ∷ log) = last_of y log

last_is : (z : LogItem) (log : List LogItem) (x : LogItem) → last_of z (log ++ x ∷ []) ≡ x
last_is z [] x = refl
last_is z (y ∷ log) x = last_is y log x

same_last : (xs ys : List LogItem) (x y : LogItem) → xs ++ x ∷ [] ≡ ys ++ y ∷ [] → x ≡ y
same_last xs ys x y e = sym (last_is x xs x) ∙ ap (last_of x) e ∙ last_is x ys y

-- ---- along the log

module _ (me : Who) (request : Request) (root : ℕ) (driver : DriverKeys) (key : Key) (item : List ℕ) (fits : IsDriver driver) (asks : AsksPut request root driver key item) where
  abbrev blob : List ℕ
  blob = blob_in request

  abbrev job : Bool → Job
  job alone = record { me = me; root = root; driver = driver; key = key; blob = blob; item = item; alone = alone }

  reads : Reads driver item blob
  reads = asked_reads request root driver key item asks

  abbrev IsFair : Bool → Place → LogItem → Type 0
  IsFair alone p x = Fair (job alone) request fits (filled driver item blob reads) asks reads p x

  abbrev IsKept : Bool → Place → LogItem → Type 0
  IsKept alone p x = Rule (job alone) request fits (filled driver item blob reads) asks reads p x

  fair_of : (alone : Bool) (h : History) (p : Place) (news : List LogItem) → IsAt h p → Legal p.state news → All with_item (OthersSpare me root key) h news → (alone ≡ true → AreOwn me news) → All (step me) (IsFair alone) p news
  fair_of alone h p [] at legal spare mine = tt
  fair_of alone h p (x ∷ news) at legal spare mine =
      let spared : is_own me x ≡ false → IsSpared root key p.state.disk (applied p.state.disk x) = λ other. subst (λ (s : State). IsSpared root key s.disk (applied s.disk x)) (sym at.state) (spare.0 other) in
      ((legal.0, spared, λ is. (mine is).0), fair_of alone (with_item h x) (step me p x) news (at_next me h p x at) legal.1 spare.1 (λ is. (mine is).1))

  -- entries stay whole
  keeps_whole : (alone : Bool) (h : History) (p : Place) (news : List LogItem) → IsAt h p → All (step me) (IsKept alone) p news → EntriesAreWhole h → Keeps with_item EntriesStayWhole me h news
  keeps_whole alone h p [] at all whole = tt
  keeps_whole alone h p (x ∷ news) at all whole = (λ mine. now (all.0 mine), λ rule. keeps_whole alone (with_item h x) (step me p x) news (at_next me h p x at) all.1 rule)
    where
      now : IsRight (job alone) p x → EntriesStayWhole h x
      now right =
          let next = at_next me h p x at in
          let here : AreWhole p.log p.state.disk = subst (λ (log : List LogItem). AreWhole log p.state.disk) (sym at.log) (subst (λ (s : State). AreWhole h.log s.disk) (sym at.state) whole) in
          subst (λ (log : List LogItem). AreWhole log (disk_of (with_item h x))) next.log (subst (λ (s : State). AreWhole (p.log ++ x ∷ []) s.disk) next.state (right.whole here))

  -- and none is replaced before that was told
  told_at : (h : History) (p : Place) (x : LogItem) → IsAt h p → Replaces p x → ReplacesTold h x
  told_at h p (items.Did who (Rename from (Entry root' key')) Done) at r = λ bytes driver' is fronts.
      subst (λ (log : List LogItem). EvictIsOpen log who (address (folder_of root') driver' key')) at.log (r bytes driver' (ap (λ (s : State). file_of s.disk (Entry root' key')) at.state ∙ is) fronts)
  told_at h p x at r = tt

  keeps_told : (alone : Bool) (h : History) (p : Place) (news : List LogItem) → IsAt h p → All (step me) (IsKept alone) p news → Keeps with_item ReplacesTold me h news
  keeps_told alone h p [] at all = tt
  keeps_told alone h p (x ∷ news) at all = (λ mine. told_at h p x at (all.0 mine).replaces, λ rule. keeps_told alone (with_item h x) (step me p x) news (at_next me h p x at) all.1)

  -- ---- the whole operation

  module _ (answer given : Answer) (begin end : FolderPut) (xs : List Exchange) (new : IsNewPut root driver key item begin) (runs : Runs asks_put asked_put FedPut me begin xs given end) (answer_is : IsEndOf given answer) where
    abbrev made : List LogItem
    made = items.Begin me request ∷ (items_of_all xs ++ items.End me answer ∷ [])

    right_from : (alone : Bool) (h : History) (news : List LogItem) → OwnsToEnd me made h news → All with_item (OthersSpare me root key) h news → (alone ≡ true → AreOwn me news) → (alone ≡ true → IsUnlocked me root key (disk_of h)) → All (step me) (IsKept alone) (place_of h) news
    right_from alone h news o spare mine free =
        let fair = fair_of alone h (place_of h) news (record { state = refl; log = refl }) o.owns.legal spare mine in
        all_right (job alone) request fits (filled driver item blob reads) asks reads begin answer news (place_of h) xs given end new runs answer_is o.owns.own_items (record { tidy = tidy h; free = free }) fair o.owns.goes_on

    pub put_whole : (h : History) (news : List LogItem) → OwnsToEnd me made h news → All with_item (OthersSpare me root key) h news → EntriesAreWhole h → Keeps with_item EntriesStayWhole me h news
    put_whole h news o spare whole =
        keeps_whole false h (place_of h) news (record { state = refl; log = refl }) (right_from false h news o spare (λ is. absurd (false≢true is)) (λ is. absurd (false≢true is))) whole

    pub put_tells : (h : History) (news : List LogItem) → OwnsToEnd me made h news → All with_item (OthersSpare me root key) h news → Keeps with_item ReplacesTold me h news
    put_tells h news o spare = keeps_told false h (place_of h) news (record { state = refl; log = refl }) (right_from false h news o spare (λ is. absurd (false≢true is)) (λ is. absurd (false≢true is)))

    -- ---- what it stored

    last_own : (news before : List LogItem) (item' : LogItem) → own me news ≡ made → news ≡ before ++ item' ∷ [] → is_own me item' ≡ true → item' ≡ items.End me answer
    last_own news before item' is e mine =
        let one : own me (item' ∷ []) ≡ item' ∷ [] = rw mine refl in
        let split : own me news ≡ own me before ++ item' ∷ [] = ap (own me) e ∙ filter-append (is_own me) before (item' ∷ []) ∙ ap (λ (l : List LogItem). own me before ++ l) one in
        same_last (own me before) (items.Begin me request ∷ items_of_all xs) item' (items.End me answer) (sym split ∙ is)

    pub put_stores : (h : History) (news : List LogItem) → OwnsToEnd me made h news → All with_item (OthersSpare me root key) h news → answer ≡ Stored → HoldsItem request (disk_of (with_items h news))
    put_stores h news o spare stored =
        let all = right_from false h news o spare (λ is. absurd (false≢true is)) (λ is. absurd (false≢true is)) in
        let e = o.ends tt in
        let last : e.1 ≡ items.End me answer = last_own news e.0 e.1 o.owns.own_items e.2 e.3 in
        let news_are : news ≡ e.0 ++ items.End me answer ∷ [] = e.2 ∙ ap (λ (x : LogItem). e.0 ++ x ∷ []) last in
        let all' : All (step me) (IsKept false) (place_of h) (e.0 ++ items.End me answer ∷ []) = subst (λ (l : List LogItem). All (step me) (IsKept false) (place_of h) l) news_are all in
        let p : Place = fold (step me) (place_of h) e.0 in
        let right : IsRight (job false) p (items.End me answer) = all_at (step me) (IsKept false) (place_of h) e.0 [] (items.End me answer) all' (seat_self me) in
        let here : file_of p.state.disk (Entry root key) ≡ Some item = right.ends.0 stored in
        let state : fold after (state_of h) (e.0 ++ items.End me answer ∷ []) ≡ after p.state (items.End me answer) =
        fold-append after (state_of h) e.0 (items.End me answer ∷ []) ∙ ap (λ (s : State). after s (items.End me answer)) (sym (states me (place_of h) e.0)) in
        let disk : p.state.disk ≡ disk_of (with_items h (e.0 ++ items.End me answer ∷ [])) = ap (λ (s : State). s.disk) (sym state ∙ sym (state_then h (e.0 ++ items.End me answer ∷ []))) in
        let there : file_of (disk_of (with_items h (e.0 ++ items.End me answer ∷ []))) (Entry root key) ≡ Some item = subst (λ (d : Disk). file_of d (Entry root key) ≡ Some item) disk here in
        holds_item request root driver key item (disk_of (with_items h news)) asks (subst (λ (l : List LogItem). file_of (disk_of (with_items h l)) (Entry root key) ≡ Some item) (sym news_are) there)

    -- ---- alone

    abbrev inner : List LogItem
    inner = items_of_all xs

    abbrev before_end : List LogItem
    before_end = items.Begin me request ∷ inner

    abbrev IsAlone : Disk → Disk → List LogItem → Type 0
    IsAlone old now told = Leaves root driver key blob answer old now × LeavesElsewhere root key old now × TellsEvicts me root key (file_of old (Entry root key)) answer told

    -- what the End says, of the disks of the history
    at_end : (h : History) → AllByRecursion (IsWithinRoot root) inner → AreOwn me made → All (step me) (IsKept true) (place_of h) made → IsAlone (disk_of h) (disk_of (with_items h made)) (filter is_evict made)
    at_end h within mine all =
        let p1 : Place = step me (place_of h) (items.Begin me request) in
        let p : Place = fold (step me) (place_of h) before_end in
        let right : IsRight (job true) p (items.End me answer) = all_at (step me) (IsKept true) (place_of h) before_end [] (items.End me answer) all (seat_self me) in
        let began : p1.base ≡ disk_of h = rw (seat_self me) refl in
        let none : p1.told ≡ [] = rw (seat_self me) refl in
        let base : p.base ≡ disk_of h = inner_base me root p1 inner within ∙ began in
        let told : p.told ≡ filter is_evict inner = inner_told me root p1 inner within (own_front me inner (items.End me answer ∷ []) mine.1) ∙ ap (λ (l : List LogItem). l ++ filter is_evict inner) none in
        let all_told : p.told ≡ filter is_evict made = told ∙ sym (append-nil (filter is_evict inner)) ∙ sym (filter-append is_evict inner (items.End me answer ∷ [])) in
        let state : fold after (state_of h) made ≡ after p.state (items.End me answer) =
        fold-append after (state_of h) before_end (items.End me answer ∷ []) ∙ ap (λ (s : State). after s (items.End me answer)) (sym (states me (place_of h) before_end)) in
        let disk : p.state.disk ≡ disk_of (with_items h made) = ap (λ (s : State). s.disk) (sym state ∙ sym (state_then h made)) in
        let here : IsAlone p.base p.state.disk p.told = right.ends.1 refl in
        subst (λ (d : Disk). IsAlone d (disk_of (with_items h made)) (filter is_evict made)) base
        (subst (λ (d : Disk). IsAlone p.base d (filter is_evict made)) disk (subst (λ (l : List LogItem). IsAlone p.base p.state.disk l) all_told here))

    pub put_alone : (h : History) (news : List LogItem) → OwnsToEnd me made h news → AllByRecursion (IsWithinRoot root) inner → own me news ≡ news → IsUnlocked me root key (disk_of h) → PutsAlone me root driver key blob answer (disk_of h) (disk_of (with_items h news)) (own me news)
    put_alone h news o within alone free =
        let is : made ≡ news = sym o.owns.own_items ∙ alone in
        let mine = are_own me news alone in
        let all = right_from true h news o (own_spare me root key h news mine) (λ same. mine) (λ same. free) in
        let ended = at_end h within (subst (AreOwn me) (sym is) mine) (subst (λ (l : List LogItem). All (step me) (IsKept true) (place_of h) l) (sym is) all) in
        let at_news : IsAlone (disk_of h) (disk_of (with_items h news)) (filter is_evict made) = subst (λ (l : List LogItem). IsAlone (disk_of h) (disk_of (with_items h l)) (filter is_evict made)) is ended in
        let whole : IsAlone (disk_of h) (disk_of (with_items h news)) (filter is_evict (own me news)) = subst (λ (l : List LogItem). IsAlone (disk_of h) (disk_of (with_items h news)) (filter is_evict l)) (sym o.owns.own_items) at_news in
        record { leaves = whole.0; elsewhere = whole.1; evicts = whole.2 }
