-- Own items that keep the rules, by what they change.
use Rattle.std.proofs.Common.{◌≡◌, ◌⊎◌, inl, inr, ℕ, ◌<◌, Bool, true, false, ◌||◌, List, [], ◌∷◌, ◌++◌, Option, Some, None, refl, sym, ap, ◌∙◌, subst, arith}
use Rattle.std.proofs.lemmas.Bool.{false≢true}
use Rattle.cache_types.specs.Names.{same_name, name_code}
use Rattle.cache_types.specs.declared.key.Key.{Key}
use Rattle.cache_types.specs.declared.name.Name.{Name}
use Rattle.cache_types.specs.declared.name.Name.TheVariants as names
use Rattle.cache_types.specs.declared.seat.Who.{Who}
use Rattle.disk_laws.proofs.Tidiness.{tidy}
use Rattle.file_log.specs.Disk.{Disk, file_of, created, made_at, renamed}
use Rattle.file_log.specs.Effect.{applied}
use Rattle.file_log.specs.Log.{History}
use Rattle.file_log.specs.Operation.{IsStill}
use Rattle.file_log.specs.State.{disk_of}
use Rattle.file_log.specs.declared.call.Call.TheVariants as calls
use Rattle.file_log.specs.declared.item.LogItem.{LogItem}
use Rattle.file_log.specs.declared.item.LogItem.TheVariants as items
use Rattle.file_log.specs.declared.reply.Reply.TheVariants.{Done}
use Rattle.file_log.proofs.All.{seat_self}
use Rattle.seat_rules.specs.Changes.{with_item, has_lock, may_write, HasHad, is_rename}
use Rattle.seat_rules.specs.Kinds.{folder_byte, is_entry, is_temporary, comes_guarded, is_lasting, is_foreign, is_unwritten}
use Rattle.seat_rules.specs.Rules.{IsLeft, Stays}
use Rattle.layout_rules.proofs.Folders.{NothingIsLost, held_same, conforms_of}
use Rattle.layout_rules.specs.Rules.{AnswersAreEarned, Conforms}
use Rattle.folder_rules.specs.Whole.{folder_of, IsPutItem, EntriesAreWhole}
use Rattle.seat_rules.proofs.Unseated.{apart}
use Rattle.seat_rules.proofs.Histories.{disk_then}
use Rattle.seat_rules.proofs.Puts.{put_goes_on}
use Rattle.folder_changes.specs.Frame.{HasFolder}
use Rattle.folder_changes.specs.Order.{is_settled, InOrder}
use Rattle.folder_changes.specs.Own.{StillKeeps, MakingKeeps, WritingKeeps, InstallingKeeps}
use Rattle.folder_changes.proofs.Changing.{same_self, one_or_other, none_is_no_file, file_same}
use Rattle.folder_changes.proofs.Ordering.{whole_same}

-- ---- one name

-- nothing becomes of the name
record IsAsBefore (old new : Disk) (name : Name) : Type 0 where
  named : new.names name ≡ old.names name
  bytes : (f : ℕ) → old.names name ≡ Some f → new.files f ≡ old.files f

left_as_before : (old new : Disk) (name : Name) → IsAsBefore old new name → IsLeft old new name
left_as_before old new name a = record { bytes = a.bytes; comes = λ kind f e. sym a.named ∙ e; stays = λ kind. a.named }

settled_entry : (name : Name) → is_entry name ≡ true → is_settled name ≡ true
settled_entry name e = rw e refl

settled_unwritten : (name : Name) → is_unwritten name ≡ true → is_settled name ≡ true
settled_unwritten name e = by_test (is_entry name)
  where
    by_test : (b : Bool) → (b || is_unwritten name) ≡ true
    by_test true = refl
    by_test false = e

-- what is held stays where entries' files are as before
kept_same : (h : History) (x : LogItem) (me : Who) → ((root : ℕ) (key : Key) → file_of (applied (disk_of h) x) (names.Entry root key) ≡ file_of (disk_of h) (names.Entry root key)) → NothingIsLost h x me
kept_same h x me same calm at driver held = inl (held_same (disk_of h) (applied (disk_of h) x) at (same at.store.root at.key) held)

-- ---- where entries stay

-- where no entry changes: the other names by what they are
record Unsettling (h : History) (x : LogItem) (me : Who) : Type 0 where
  left : (name : Name) → may_write (disk_of h) me name ≡ false → IsLeft (disk_of h) (applied (disk_of h) x) name
  entries : (root : ℕ) (key : Key) → IsAsBefore (disk_of h) (applied (disk_of h) x) (names.Entry root key)
  lasting : (name : Name) → is_lasting name ≡ true → (f : ℕ) → (disk_of h).names name ≡ Some f → (applied (disk_of h) x).names name ≡ Some f
  foreign : (name : Name) → is_foreign name ≡ true → (applied (disk_of h) x).names name ≡ (disk_of h).names name
  settled : (name : Name) (f : ℕ) → is_settled name ≡ true → HasHad h name f → (applied (disk_of h) x).files f ≡ (disk_of h).files f

unsettling_conforms : (h : History) (x : LogItem) (me : Who) → InOrder h → AnswersAreEarned h x → Unsettling h x me → Conforms h x me
unsettling_conforms h x me o earned u = conforms_of h x me (record {
  whole = whole_same h x o.whole same;
  written = u.left;
  renamed = λ root key.
      let a = u.entries root key in
      record { held = λ other. a.named; renamed = λ other f e. sym a.named ∙ e; stays = λ moved. a.named; bytes = λ f had. u.settled (names.Entry root key) f refl had };
  stay = λ name. record { lasting = u.lasting name; foreign = u.foreign name; bytes = λ kind f had. u.settled name f (settled_unwritten name kind) had };
  kept = kept_same h x me same;
  earned = earned;
})
  where
    same : (root : ℕ) (key : Key) → file_of (applied (disk_of h) x) (names.Entry root key) ≡ file_of (disk_of h) (names.Entry root key)
    same root key = let a = u.entries root key in file_same (disk_of h) (applied (disk_of h) x) (names.Entry root key) a.named a.bytes

-- ---- nothing changes

pub still_keeps : StillKeeps
still_keeps h x me o earned still = unsettling_conforms h x me o earned (record {
  left = λ name other. left_as_before (disk_of h) (applied (disk_of h) x) name (as_before name);
  entries = λ root key. as_before (names.Entry root key);
  lasting = λ name kind f e. still.names name ∙ e;
  foreign = λ name kind. still.names name;
  settled = λ name f kind had. still.files f;
})
  where
    as_before : (name : Name) → IsAsBefore (disk_of h) (applied (disk_of h) x) name
    as_before name = record { named = still.names name; bytes = λ f e. still.files f }

-- ---- a file is made

guarded_temporary : (name : Name) → comes_guarded name ≡ false → is_temporary name ≡ true → ⊥
guarded_temporary (names.Temp root key) e k = false≢true (sym e)
guarded_temporary name e k = false≢true k

making_new : (h : History) (x : LogItem) (me : Who) (name : Name) → InOrder h → AnswersAreEarned h x → (disk_of h).names name ≡ None → IsStill (created (disk_of h) name []) (applied (disk_of h) x)
    → is_entry name ≡ false → is_foreign name ≡ false → (may_write (disk_of h) me name ≡ true) ⊎ (comes_guarded name ≡ false) → Conforms h x me
making_new h x me name o earned absent still entry foreign may = unsettling_conforms h x me o earned (record {
  left = left;
  entries = λ root key. as_before (names.Entry root key) (not_entry root key);
  lasting = λ other kind f e. elim (one_or_other name other) [
    | inl same ↦ absurd (none_is_no_file f (sym absent ∙ ap (disk_of h).names same ∙ e))
    | inr apart_ ↦ (as_before other apart_).named ∙ e
  ];
  foreign = λ other kind. elim (one_or_other name other) [
    | inl same ↦ absurd (false≢true (sym foreign ∙ ap is_foreign same ∙ kind))
    | inr apart_ ↦ (as_before other apart_).named
  ];
  settled = λ other f kind had. below f (o.below other f had);
})
  where
    new : Disk
    new = applied (disk_of h) x

    below : (f : ℕ) → f < (disk_of h).count → new.files f ≡ (disk_of h).files f
    below f less = still.files f ∙ rw (apart (disk_of h).count f (λ e. absurd (omega (arith, less, e)))) refl

    as_before : (other : Name) → same_name name other ≡ false → IsAsBefore (disk_of h) new other
    as_before other e = record { named = still.names other ∙ rw e refl; bytes = λ f named. below f ((tidy h).there other f named) }

    not_entry : (root : ℕ) (key : Key) → same_name name (names.Entry root key) ≡ false
    not_entry root key = elim (one_or_other name (names.Entry root key)) [
      | inl same ↦ absurd (false≢true (sym entry ∙ ap is_entry same))
      | inr apart_ ↦ apart_
    ]

    here : may_write (disk_of h) me name ≡ false → IsLeft (disk_of h) new name
    here not_mine = record {
      bytes = λ f e. absurd (none_is_no_file f (sym absent ∙ e));
      comes = λ kind f e. elim may [ inl mine ↦ absurd (false≢true (sym not_mine ∙ mine)) | inr free ↦ absurd (false≢true (sym free ∙ kind)) ];
      stays = λ kind. elim may [ inl mine ↦ absurd (false≢true (sym not_mine ∙ mine)) | inr free ↦ absurd (guarded_temporary name free kind) ];
    }

    left : (other : Name) → may_write (disk_of h) me other ≡ false → IsLeft (disk_of h) new other
    left other not_mine = elim (one_or_other name other) [
      | inl same ↦ subst (IsLeft (disk_of h) new) same (here (ap (may_write (disk_of h) me) same ∙ not_mine))
      | inr apart_ ↦ left_as_before (disk_of h) new other (as_before other apart_)
    ]

pub making_keeps : MakingKeeps
making_keeps h x me name o earned still entry foreign may = by_file ((disk_of h).names name) refl still
  where
    by_file : (file : Option ℕ) → (disk_of h).names name ≡ file → IsStill (made_at file (disk_of h) name) (applied (disk_of h) x) → Conforms h x me
    by_file None e still = making_new h x me name o earned e still entry foreign may
    by_file (Some f) e still = still_keeps h x me o earned still

-- ---- a file is written

pub writing_keeps : WritingKeeps
writing_keeps h x me name file change o earned named still unsettled may = unsettling_conforms h x me o earned (record {
  left = left;
  entries = λ root key. record { named = still.names (names.Entry root key); bytes = λ f e. others f (λ same. not_settled (names.Entry root key) f e same refl) };
  lasting = λ other kind f e. still.names other ∙ e;
  foreign = λ other kind. still.names other;
  settled = λ other f kind had. others f (λ same. absurd (false≢true (sym unsettled ∙ ap is_settled (o.settled other f had kind name (named ∙ ap (λ (n : ℕ). Some n) same)) ∙ kind)));
})
  where
    new : Disk
    new = applied (disk_of h) x

    others : (f : ℕ) → (file ≡ f → ⊥) → new.files f ≡ (disk_of h).files f
    others f other = still.files f ∙ rw (apart file f other) refl

    not_settled : (other : Name) (f : ℕ) → (disk_of h).names other ≡ Some f → file ≡ f → is_settled other ≡ true → ⊥
    not_settled other f e same kind = false≢true (sym unsettled ∙ ap is_settled ((tidy h).apart name other f (named ∙ ap (λ (n : ℕ). Some n) same) e) ∙ kind)

    left : (other : Name) → may_write (disk_of h) me other ≡ false → IsLeft (disk_of h) new other
    left other not_mine = left_as_before (disk_of h) new other (record {
      named = still.names other;
      bytes = λ f e. others f (λ same. false≢true (sym not_mine ∙ ap (may_write (disk_of h) me) (sym ((tidy h).apart name other f (named ∙ ap (λ (n : ℕ). Some n) same) e)) ∙ may));
    })

-- ---- a whole item is put in its entry's place

temp_entry : (root r : ℕ) (key k : Key) → same_name (names.Temp root key) (names.Entry r k) ≡ false
unfolding name_code
temp_entry root r key k = refl

entry_temp : (root r : ℕ) (key k : Key) → same_name (names.Entry root key) (names.Temp r k) ≡ false
unfolding name_code
entry_temp root r key k = refl

root_is : (root r : ℕ) (key k : Key) → names.Entry root key ≡ names.Entry r k → r ≡ root
root_is root r key k e = cc

key_is : (root r : ℕ) (key k : Key) → names.Entry root key ≡ names.Entry r k → k ≡ key
key_is root r key k e = cc

has_mine : (d : Disk) (me : Who) (root byte : ℕ) → HasFolder d me root byte → has_lock d me (names.FolderLock root byte) ≡ true
has_mine d me root byte h = rw (h.named, h.taken, seat_self me) refl

pub installing_keeps : InstallingKeeps
installing_keeps h me root key file o named has whole_item evicting = conforms_of h item me (record {
  whole = whole;
  written = left;
  renamed = λ r k. elim (one_or_other entry (names.Entry r k)) [
    | inl same ↦ record {
      held = λ other. absurd (false≢true (sym other ∙ mine_at r k same));
      renamed = λ not_so. absurd (false≢true (sym not_so ∙ is_rename_at r k same));
      stays = λ moved. absurd (false≢true (sym (temp_entry root r key k) ∙ moved));
      bytes = λ f had. ap (λ (d : Disk). d.files f) now;
    }
    | inr other ↦ let a = as_before (names.Entry r k) other (temp_entry root r key k) in record {
      held = λ not_mine. a.named;
      renamed = λ not_so f e. sym a.named ∙ e;
      stays = λ moved. a.named;
      bytes = λ f had. ap (λ (d : Disk). d.files f) now;
    }
  ];
  stay = λ name. elim (one_or_other entry name) [
    | inl same ↦ subst (StaysSo) same (record { lasting = λ kind. absurd (false≢true kind); foreign = λ kind. absurd (false≢true kind); bytes = λ kind f had. ap (λ (d : Disk). d.files f) now })
    | inr other ↦ elim (one_or_other temp name) [
      | inl same ↦ subst (StaysSo) same (record { lasting = λ kind. absurd (false≢true kind); foreign = λ kind. absurd (false≢true kind); bytes = λ kind f had. ap (λ (d : Disk). d.files f) now })
      | inr another ↦ let a = as_before name other another in record { lasting = λ kind f e. a.named ∙ e; foreign = λ kind. a.named; bytes = λ kind f had. ap (λ (d : Disk). d.files f) now }
    ]
  ];
  kept = kept;
  earned = tt;
})
  where
    entry : Name
    entry = names.Entry root key

    temp : Name
    temp = names.Temp root key

    item : LogItem
    item = items.Did me (calls.Rename (names.Temp root key) (names.Entry root key)) Done

    new : Disk
    new = applied (disk_of h) item

    moved : Disk
    moved = renamed (disk_of h) (Some file) temp entry

    StaysSo : Name → Type 0
    StaysSo name = Stays h name new

    now : new ≡ moved
    now = ap (λ (f : Option ℕ). renamed (disk_of h) f temp entry) named

    as_before : (name : Name) → same_name entry name ≡ false → same_name temp name ≡ false → IsAsBefore (disk_of h) new name
    as_before name e t = record { named = ap (λ (d : Disk). d.names name) now ∙ rw (e, t) refl; bytes = λ f named. ap (λ (d : Disk). d.files f) now }

    entry_now : file_of new entry ≡ Some ((disk_of h).files file)
    entry_now = ap (λ (d : Disk). file_of d entry) now ∙ rw (same_self entry) refl

    mine : has_lock (disk_of h) me (names.FolderLock root (folder_byte key)) ≡ true
    mine = has_mine (disk_of h) me root (folder_byte key) has

    mine_at : (r : ℕ) (k : Key) → entry ≡ names.Entry r k → has_lock (disk_of h) me (names.FolderLock r (folder_byte k)) ≡ true
    mine_at r k same = ap (λ (x : ℕ). has_lock (disk_of h) me (names.FolderLock x (folder_byte k))) (root_is root r key k same) ∙ ap (λ (x : Key). has_lock (disk_of h) me (names.FolderLock root (folder_byte x))) (key_is root r key k same) ∙ mine

    is_rename_at : (r : ℕ) (k : Key) → entry ≡ names.Entry r k → is_rename (names.Temp r k) (names.Entry r k) item ≡ true
    is_rename_at r k same =
        ap (λ (x : ℕ). is_rename (names.Temp x k) (names.Entry x k) item) (root_is root r key k same)
        ∙ ap (λ (x : Key). is_rename (names.Temp root x) (names.Entry root x) item) (key_is root r key k same)
        ∙ rw (same_self temp, same_self entry) refl

    other_entry : (r : ℕ) (k : Key) → same_name entry (names.Entry r k) ≡ false → file_of new (names.Entry r k) ≡ file_of (disk_of h) (names.Entry r k)
    other_entry r k other = let a = as_before (names.Entry r k) other (temp_entry root r key k) in file_same (disk_of h) new (names.Entry r k) a.named a.bytes

    grown : (r : ℕ) (k : Key) (bytes : List ℕ) → IsPutItem h.log r k bytes → IsPutItem (h.log ++ item ∷ []) r k bytes
    grown r k bytes i = record { driver = i.driver; blob = i.blob; reads = i.reads; put = put_goes_on h.log (item ∷ []) (folder_of r) i.driver k i.blob i.put }

    whole : EntriesAreWhole (with_item h item)
    whole r k bytes e = elim (one_or_other entry (names.Entry r k)) [
      | inl same ↦
          let bytes_are : (disk_of h).files file ≡ bytes = bytes_is ((disk_of h).files file) bytes (sym entry_now ∙ ap (file_of new) same ∙ sym (ap (λ (d : Disk). file_of d (names.Entry r k)) (disk_then h item)) ∙ e) in
          subst (IsPutItem (h.log ++ item ∷ []) r k) bytes_are (grown r k ((disk_of h).files file)
          (subst (λ (x : Key). IsPutItem h.log r x ((disk_of h).files file)) (sym (key_is root r key k same)) (subst (λ (x : ℕ). IsPutItem h.log x key ((disk_of h).files file)) (sym (root_is root r key k same)) whole_item)))
      | inr other ↦ grown r k bytes (o.whole r k bytes (sym (other_entry r k other) ∙ sym (ap (λ (d : Disk). file_of d (names.Entry r k)) (disk_then h item)) ∙ e))
    ]
      where
        bytes_is : (a b : List ℕ) → Some a ≡ Some b → a ≡ b
        bytes_is a b e = cc

    left : (name : Name) → may_write (disk_of h) me name ≡ false → IsLeft (disk_of h) new name
    left name not_mine = elim (one_or_other entry name) [
      | inl same ↦ subst (IsLeft (disk_of h) new) same (record { bytes = λ f e. ap (λ (d : Disk). d.files f) now; comes = λ kind. absurd (false≢true kind); stays = λ kind. absurd (false≢true kind) })
      | inr other ↦ elim (one_or_other temp name) [
        | inl same ↦ absurd (false≢true (sym not_mine ∙ ap (may_write (disk_of h) me) (sym same) ∙ mine))
        | inr another ↦ left_as_before (disk_of h) new name (as_before name other another)
      ]
    ]

    kept : NothingIsLost h item me
    kept calm at driver held = elim (one_or_other entry (names.Entry at.store.root at.key)) [
      | inl same ↦ inr (evicting at (root_is root at.store.root key at.key same) (key_is root at.store.root key at.key same) driver held)
      | inr other ↦ inl (held_same (disk_of h) new at (other_entry at.store.root at.key other) held)
    ]
