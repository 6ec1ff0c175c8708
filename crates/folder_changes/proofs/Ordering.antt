-- A log whose items can come and keep the rules is in order.
use Rattle.std.proofs.Common.{◌≡◌, inl, inr, ℕ, ◌<◌, true, List, [], ◌∷◌, ◌++◌, Option, Some, None, refl, sym, ap, ◌∙◌, subst, arith}
use Rattle.std.proofs.lemmas.Bool.{false≢true}
use Rattle.std.proofs.lemmas.List.Elements.{Contains-push_cases}
use Rattle.cache_types.specs.Driver.{DriverKeys, IsDriver}
use Rattle.cache_types.specs.declared.key.Key.{Key}
use Rattle.cache_types.specs.declared.name.Name.{Name}
use Rattle.cache_types.specs.declared.name.Name.TheVariants as names
use Rattle.cache_types.specs.declared.request.Request.TheVariants as requests
use Rattle.cache_types.specs.declared.seat.Who.{Who}
use Rattle.cache_types.specs.declared.store.Store.{Store}
use Rattle.cache_types.specs.declared.store.Layout.TheVariants.{Folder}
use Rattle.disk_laws.proofs.Tidiness.{tidy}
use Rattle.file_log.specs.Disk.{Disk, file_of}
use Rattle.file_log.specs.Effect.{applied}
use Rattle.file_log.specs.Legal.{IsLegal}
use Rattle.file_log.specs.Log.{History, WasPut, seat_of}
use Rattle.file_log.specs.State.{state_of, disk_of}
use Rattle.file_log.specs.declared.call.Call.TheVariants as calls
use Rattle.file_log.specs.declared.item.LogItem.{LogItem}
use Rattle.file_log.specs.declared.item.LogItem.TheVariants as items
use Rattle.file_log.specs.declared.reply.Reply.TheVariants.{Done}
use Rattle.seat_rules.specs.Changes.{with_item, HasHad}
use Rattle.layout_rules.specs.Rules.{KeepsRules, Conforms}
use Rattle.folder_rules.specs.Whole.{folder_of, EntriesAreWhole}
use Rattle.folder_rules.proofs.Entries.{unseated_file}
use Rattle.seat_rules.proofs.Histories.{disk_then}
use Rattle.seat_rules.proofs.Puts.{BeginFits, fits_of, put_goes_on}
use Rattle.folder_changes.specs.Order.{is_settled, InOrder, StaysInOrder}
use Rattle.folder_changes.proofs.Changing.{same_self, none_is_no_file, IsMoved, Comes, comes, count_grows, had_split}
use Rattle.folder_changes.proofs.Locking.{AreSlots, slots_then}

-- ---- entries

-- entries whose files are as before stay whole
pub whole_same : (h : History) (x : LogItem) → EntriesAreWhole h → ((root : ℕ) (key : Key) → file_of (applied (disk_of h) x) (names.Entry root key) ≡ file_of (disk_of h) (names.Entry root key)) → EntriesAreWhole (with_item h x)
whole_same h x whole same root key bytes e =
    let item = whole root key bytes (sym (ap (λ (d : Disk). file_of d (names.Entry root key)) (disk_then h x) ∙ same root key) ∙ e) in
    record { driver = item.driver; blob = item.blob; reads = item.reads; put = put_goes_on h.log (x ∷ []) (folder_of root) item.driver key item.blob item.put }

whole_then : (h : History) (x : LogItem) → EntriesAreWhole h → KeepsRules h x → EntriesAreWhole (with_item h x)
whole_then h x whole keeps = by_seat (seat_of x) refl
  where
    by_seat : (seat : Option Who) → seat_of x ≡ seat → EntriesAreWhole (with_item h x)
    by_seat (Some who) e = (keeps who e).whole Folder
    by_seat None e = whole_same h x whole (λ root key. unseated_file (disk_of h) x root key (tidy h) e)

-- ---- settled names

-- a settled name that is renamed keeps its file
settled_stays : (h : History) (who : Who) (from to : Name) → Conforms h (items.Did who (calls.Rename from to) Done) who → is_settled from ≡ true → (f : ℕ) → (disk_of h).names from ≡ Some f → (applied (disk_of h) (items.Did who (calls.Rename from to) Done)).names from ≡ Some f
settled_stays h who (names.Entry root key) to c s f e = ((c.kept Folder).renamed root key).stays (same_self (names.Entry root key)) ∙ e
settled_stays h who (names.FolderLock root byte) to c s f e = (c.shared.stay (names.FolderLock root byte)).lasting refl f e
settled_stays h who (names.Ro root name) to c s f e = (c.shared.stay (names.Ro root name)).foreign refl ∙ e
settled_stays h who (names.RoIdx root name) to c s f e = (c.shared.stay (names.RoIdx root name)).foreign refl ∙ e
settled_stays h who names.List to c s f e = (c.shared.stay names.List).foreign refl ∙ e
settled_stays h who from to c s f e = absurd (false≢true s)

settled_then : (h : History) (x : LogItem) → InOrder h → KeepsRules h x → (name : Name) (f : ℕ) → HasHad (with_item h x) name f → is_settled name ≡ true → (other : Name) → (disk_of (with_item h x)).names other ≡ Some f → other ≡ name
settled_then h x o keeps name f had kind other e = elim (had_split h x name f had) [
  | inl before ↦ by_coming before (comes (disk_of h) x other f (sym (ap (λ (d : Disk). d.names other) (disk_then h x)) ∙ e))
  | inr now ↦ (tidy (with_item h x)).apart other name f e now
]
  where
    moved : HasHad h name f → IsMoved (disk_of h) x f → other ≡ name
    moved before m =
        let from_is : m.from ≡ name = o.settled name f before kind m.from m.named in
        let conform = subst (λ (y : LogItem). Conforms h y m.who) m.item_is (keeps m.who (ap seat_of m.item_is)) in
        let kept = settled_stays h m.who m.from m.to conform (ap is_settled from_is ∙ kind) f m.named in
        let now : (disk_of (with_item h x)).names m.from ≡ Some f = ap (λ (d : Disk). d.names m.from) (disk_then h x) ∙ ap (λ (y : LogItem). (applied (disk_of h) y).names m.from) m.item_is ∙ kept in
        (tidy (with_item h x)).apart other m.from f e now ∙ from_is

    by_coming : HasHad h name f → Comes (disk_of h) x other f → other ≡ name
    by_coming before (inl old) = o.settled name f before kind other old
    by_coming before (inr (inl new)) = let small = o.below name f before in absurd (omega (arith, small, new))
    by_coming before (inr (inr m)) = moved before m

below_then : (h : History) (x : LogItem) → InOrder h → (name : Name) (f : ℕ) → HasHad (with_item h x) name f → f < (disk_of (with_item h x)).count
below_then h x o name f had = elim (had_split h x name f had) [
  | inl before ↦
      let small = o.below name f before in
      let grown = count_grows (disk_of h) x in
      let same = ap (λ (d : Disk). d.count) (disk_then h x) in
      omega (arith, small, grown, same)
  | inr now ↦ (tidy (with_item h x)).there name f now
]

-- ---- drivers

drivers_then : (h : History) (x : LogItem) → InOrder h → IsLegal (state_of h) x → (store : Store) (driver : DriverKeys) (key : Key) (blob : List ℕ) → WasPut (h.log ++ x ∷ []) store driver key blob → IsDriver driver
drivers_then h x o legal store driver key blob put = elim (Contains-push_cases h.log x (items.Begin put.0 (requests.Put store driver key put.1 blob put.2)) put.3) [
  | inl before ↦ o.drivers store driver key blob (put.0, put.1, put.2, before)
  | inr now ↦ (subst BeginFits now (fits_of (state_of h) x legal)).0
]

-- ---- each item

order_then : (h : History) (x : LogItem) → InOrder h → IsLegal (state_of h) x → KeepsRules h x → InOrder (with_item h x)
order_then h x o legal keeps = record {
  whole = whole_then h x o.whole keeps;
  below = below_then h x o;
  settled = settled_then h x o keeps;
  slots = subst AreSlots (sym (disk_then h x)) (slots_then (state_of h) x legal.1 o.slots);
  drivers = drivers_then h x o legal;
}

abbrev nothing : History
nothing = record { start = []; log = [] }

no_file_had : (name : Name) (f : ℕ) → HasHad nothing name f → ⊥
no_file_had name f h = by_front h.before h.later h.log_is h.named
  where
    by_front : (before later : List LogItem) → [] ≡ before ++ later → (disk_of (record { start = []; log = before })).names name ≡ Some f → ⊥
    by_front [] later e named = none_is_no_file f named
    by_front (y ∷ before) later e named = cc

order_first : InOrder nothing
order_first = record {
  whole = λ root key bytes e. absurd cc;
  below = λ name f had. absurd (no_file_had name f had);
  settled = λ name f had kind other e. absurd (no_file_had name f had);
  slots = λ f lock e. absurd cc;
  drivers = λ store driver key blob put. let short = put.3.1 in absurd (omega (arith, short));
}

pub stays_in_order : StaysInOrder
stays_in_order = (order_first, order_then)
