-- What a seat has seen in its operation, and an entry's file that it has opened.
use Rattle.std.proofs.Common.{◌≡◌, inl, inr, ℕ, List, [], ◌∷◌, ◌++◌, Option, Some, None, IsSome, refl, sym, ap, ◌∙◌, subst, append_assoc}
use Rattle.std.proofs.lemmas.Bool.{false≢true}
use Rattle.cache_types.specs.Driver.{DriverKeys}
use Rattle.cache_types.specs.declared.key.Key.{Key}
use Rattle.cache_types.specs.declared.name.Name.{Name}
use Rattle.cache_types.specs.declared.name.Name.TheVariants.{Entry}
use Rattle.cache_types.specs.declared.request.Request.{Request}
use Rattle.cache_types.specs.declared.seat.Who.{Who}
use Rattle.file_log.specs.declared.call.Call.TheVariants.{OpenOld}
use Rattle.file_log.specs.declared.item.LogItem.{LogItem}
use Rattle.file_log.specs.declared.item.LogItem.TheVariants as items
use Rattle.file_log.specs.declared.reply.Reply.TheVariants as replies
use Rattle.file_log.specs.Disk.{Disk, bytes_in, bytes_at, file_of}
use Rattle.file_log.specs.Effect.{applied}
use Rattle.file_log.specs.Log.{History}
use Rattle.file_log.specs.State.{disk_of}
use Rattle.file_log.proofs.All.{seat_self}
use Rattle.item_frame.specs.Item.{Reads}
use Rattle.seat_rules.specs.Changes.{with_item, HasHad, disk_at}
use Rattle.seat_rules.specs.Address.{Address, address}
use Rattle.layout_rules.specs.Parts.{Gives, IsHeld}
use Rattle.folder_rules.specs.Holds.{FileReads}
use Rattle.seat_rules.specs.Operations.{AfterOne, IsInside}
use Rattle.folder_rules.specs.Whole.{folder_of}
use Rattle.seat_rules.proofs.Histories.{disk_then}
use Rattle.folder_changes.specs.Course.{HasSeen}
use Rattle.folder_changes.specs.Frame.{Leaves}
use Rattle.folder_changes.proofs.Earning.{sees, seen_stays}
use Rattle.folder_store.proofs.Finding.{slot_filled}
use Rattle.folder_store.proofs.Keeping.{CanFollow, Within, within_inner}

-- what was seen so was seen in another way too
after_as : (who : Who) (P Q : Disk → Type 0) → ((d : Disk) → P d → Q d) → (d : Disk) (made : List LogItem) → AfterOne who P d made → AfterOne who Q d made
after_as who P Q f d [] a = a
after_as who P Q f d (x ∷ made) (inl now) = inl (now.0, f (applied d x) now.1)
after_as who P Q f d (x ∷ made) (inr later) = inr (after_as who P Q f (applied d x) made later)

pub seen_as : (h : History) (me : Who) (request : Request) (P Q : Disk → Type 0) → ((d : Disk) → P d → Q d) → HasSeen h me request P → HasSeen h me request Q
seen_as h me request P Q f s = record { inside = s.inside; seen = after_as me P Q f (disk_at h s.inside.before) (items.Begin me request ∷ s.inside.since) s.seen }

-- what a name has had it has had after a further item
pub had_then : (h : History) (x : LogItem) (name : Name) (file : ℕ) → HasHad h name file → HasHad (with_item h x) name file
had_then h x name file had = record {
  before = had.before;
  later = had.later ++ x ∷ [];
  log_is = ap (λ (l : List LogItem). l ++ x ∷ []) had.log_is ∙ append_assoc had.before had.later (x ∷ []);
  named = had.named;
}

-- a name that is there has a file
pub there_is : (o : Option ℕ) → IsSome o → (f : ℕ) × (o ≡ Some f)
there_is None e = absurd (false≢true e)
there_is (Some f) e = (f, refl)

module _ (me : Who) (request : Request) (root : ℕ) (key : Key) where
  abbrev entry : Name
  entry = Entry root key

  -- slot 1 has a file that the entry named after one of its items, with the bytes that it had then
  pub record HasOpen (h : History) : Type 0 where
    pub file : ℕ
    pub bytes : List ℕ
    pub had : HasHad h entry file
    pub slot : (disk_of h).slots me 1 ≡ Some file
    pub is : (disk_of h).files file ≡ bytes
    pub seen : HasSeen h me request (λ d. file_of d entry ≡ Some bytes)

  -- after it was opened
  abbrev pub opened_now : (h : History) → IsInside h.log me request → CanFollow h (items.Did me (OpenOld 1 entry) replies.Done) → HasOpen (with_item h (items.Did me (OpenOld 1 entry) replies.Done))
  opened_now h inside legal =
      let x : LogItem = items.Did me (OpenOld 1 entry) replies.Done in
      let file = there_is ((disk_of h).names entry) legal.1.0.1 in
      let bytes = (disk_of h).files file.0 in
      record {
        file = file.0;
        bytes = bytes;
        had = record { before = h.log; later = x ∷ []; log_is = refl; named = file.1 };
        slot = ap (λ (d : Disk). d.slots me 1) (disk_then h x) ∙ slot_filled (disk_of h) me 1 ((disk_of h).names entry) ∙ file.1;
        is = ap (λ (d : Disk). d.files file.0) (disk_then h x);
        seen = sees h x me request (λ d. file_of d entry ≡ Some bytes) (within_inner me x refl) (seat_self me) inside (ap (bytes_in (disk_of h).files) file.1);
      }

  -- the entry still names it
  pub named_now : (h : History) (inside : IsInside h.log me request) (legal : CanFollow h (items.Did me (OpenOld 1 entry) replies.Done)) → (disk_of (with_item h (items.Did me (OpenOld 1 entry) replies.Done))).names entry ≡ Some (opened_now h inside legal).file
  named_now h inside legal = ap (λ (d : Disk). d.names entry) (disk_then h (items.Did me (OpenOld 1 entry) replies.Done)) ∙ (there_is ((disk_of h).names entry) legal.1.0.1).1

  -- or it isn't there
  pub missing_now : (h : History) → IsInside h.log me request → CanFollow h (items.Did me (OpenOld 1 entry) replies.Missing) → HasSeen (with_item h (items.Did me (OpenOld 1 entry) replies.Missing)) me request (λ d. file_of d entry ≡ None)
  missing_now h inside legal =
      let x : LogItem = items.Did me (OpenOld 1 entry) replies.Missing in
      sees h x me request (λ d. file_of d entry ≡ None) (within_inner me x refl) (seat_self me) inside (ap (bytes_in (disk_of h).files) legal.1.0.1)

  -- an item that leaves its bytes and the slot
  abbrev pub open_then : (h : History) (x : LogItem) → Within me x → (o : HasOpen h) → (applied (disk_of h) x).files o.file ≡ (disk_of h).files o.file → (applied (disk_of h) x).slots me 1 ≡ (disk_of h).slots me 1 → HasOpen (with_item h x)
  open_then h x within o files slots = record {
    file = o.file;
    bytes = o.bytes;
    had = had_then h x entry o.file o.had;
    slot = ap (λ (d : Disk). d.slots me 1) (disk_then h x) ∙ slots ∙ o.slot;
    is = ap (λ (d : Disk). d.files o.file) (disk_then h x) ∙ files ∙ o.is;
    seen = seen_stays h x me request (λ d. file_of d entry ≡ Some o.bytes) within o.seen;
  }

  -- another seat's item
  abbrev pub open_other : (h : History) (x : LogItem) → Within me x → Leaves h me (applied (disk_of h) x) → HasOpen h → HasOpen (with_item h x)
  open_other h x within left o = open_then h x within o (left.entry_bytes root key o.file o.had) (left.slots 1)

  pub in_slot : (h : History) (o : HasOpen h) → bytes_at (disk_of h) me 1 ≡ Some o.bytes
  in_slot h o = ap (bytes_in (disk_of h).files) o.slot ∙ ap (λ (b : List ℕ). Some b) o.is

  -- ---- what its bytes say

  pub seen_gives : (driver : DriverKeys) (h : History) (bytes blob : List ℕ) → Reads driver bytes blob → HasSeen h me request (λ d. file_of d entry ≡ Some bytes) → HasSeen h me request (λ d. Gives d (address (folder_of root) driver key) blob)
  seen_gives driver h bytes blob reads s =
      let place : Address = address (folder_of root) driver key in
      seen_as h me request (λ d. file_of d entry ≡ Some bytes) (λ d. Gives d place blob) (λ d e. subst (λ (o : Option (List ℕ)). FileReads o driver blob) (sym e) reads) s

  pub seen_held : (driver : DriverKeys) (h : History) (bytes blob : List ℕ) → Reads driver bytes blob → HasSeen h me request (λ d. file_of d entry ≡ Some bytes) → HasSeen h me request (λ d. IsHeld d (address (folder_of root) driver key))
  seen_held driver h bytes blob reads s =
      let place : Address = address (folder_of root) driver key in
      seen_as h me request (λ d. file_of d entry ≡ Some bytes) (λ d. IsHeld d place) (λ d e. (blob, subst (λ (o : Option (List ℕ)). FileReads o driver blob) (sym e) reads)) s

  pub seen_lacks : (driver : DriverKeys) (h : History) (bytes : Option (List ℕ)) → ((blob : List ℕ) → FileReads bytes driver blob → ⊥) → HasSeen h me request (λ d. file_of d entry ≡ bytes) → HasSeen h me request (λ d. IsHeld d (address (folder_of root) driver key) → ⊥)
  seen_lacks driver h bytes lacks s =
      let place : Address = address (folder_of root) driver key in
      seen_as h me request (λ d. file_of d entry ≡ bytes) (λ d. IsHeld d place → ⊥) (λ d e held. lacks held.0 (subst (λ (o : Option (List ℕ)). FileReads o driver held.0) e held.1)) s
