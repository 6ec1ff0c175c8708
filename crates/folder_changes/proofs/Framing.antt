-- What another's item leaves to a seat that has a folder's lock.
use Rattle.std.proofs.Common.{◌≡◌, ℕ, ◌<◌, Bool, true, false, List, Option, Some, None, refl, sym, ap, ◌∙◌, arith}
use Rattle.std.proofs.lemmas.Bool.{false≢true}
use Rattle.cache_types.specs.Names.{same_name, name_code}
use Rattle.cache_types.specs.Seats.{same_seat}
use Rattle.cache_types.specs.declared.name.Name.{Name}
use Rattle.cache_types.specs.declared.name.Name.TheVariants as names
use Rattle.cache_types.specs.declared.seat.Who.{Who}
use Rattle.cache_types.specs.declared.store.Layout.TheVariants.{Folder}
use Rattle.disk_laws.proofs.Slots.{other_slots}
use Rattle.disk_laws.proofs.Tidiness.{tidy}
use Rattle.file_log.specs.Disk.{Disk, created, listed}
use Rattle.file_log.specs.Effect.{applied}
use Rattle.file_log.specs.Log.{History, seat_of, is_seat, is_own, is_stop}
use Rattle.file_log.specs.State.{disk_of}
use Rattle.file_log.specs.declared.item.LogItem.{LogItem}
use Rattle.file_log.specs.declared.item.LogItem.TheVariants as items
use Rattle.seat_rules.specs.Changes.{has_lock}
use Rattle.seat_rules.specs.Kinds.{folder_byte}
use Rattle.layout_rules.specs.Rules.{Conforms}
use Rattle.seat_rules.proofs.Unseated.{apart}
use Rattle.folder_changes.specs.Frame.{HasFolder, Leaves, OthersLeave}
use Rattle.folder_changes.specs.Order.{InOrder}
use Rattle.folder_changes.proofs.Changing.{file_same}
use Rattle.folder_changes.proofs.Locking.{other_locks}

-- ---- another seat's items

-- another seat has no lock that this one has
has_not : (d : Disk) (me who : Who) (root byte : ℕ) → HasFolder d me root byte → same_seat me who ≡ false → has_lock d who (names.FolderLock root byte) ≡ false
has_not d me who root byte h other = rw (h.named, h.taken, other) refl

other_seat : (x : LogItem) (me who : Who) → seat_of x ≡ Some who → is_own me x ≡ false → same_seat me who ≡ false
other_seat x me who seat other = ap (is_seat me) (sym seat) ∙ other

by_rule : (h : History) (x : LogItem) (me who : Who) → same_seat me who ≡ false → is_own me x ≡ false → is_stop me.process x ≡ false → Conforms h x who → Leaves h me (applied (disk_of h) x)
by_rule h x me who apart_ other goes c = record {
  slots = λ slot. other_slots me (disk_of h) x slot other goes;
  locks = λ file slot e. other_locks (disk_of h) me x file slot other goes e;
  lock_names = λ root byte file e. (c.shared.stay (names.FolderLock root byte)).lasting refl file e;
  entry_bytes = λ root key file had. ((c.kept Folder).renamed root key).bytes file had;
  entries = λ root key has. ((c.kept Folder).renamed root key).held (has_not (disk_of h) me who root (folder_byte key) has apart_);
  temporary = λ root key has. (c.shared.written (names.Temp root key) (has_not (disk_of h) me who root (folder_byte key) has apart_)).stays refl;
  temporary_bytes = λ root key has.
      let left = c.shared.written (names.Temp root key) (has_not (disk_of h) me who root (folder_byte key) has apart_) in
      file_same (disk_of h) (applied (disk_of h) x) (names.Temp root key) (left.stays refl) left.bytes;
}

-- ---- items of no seat

-- a name of a folder store's
abbrev is_folders : Name → Bool
is_folders (names.FolderLock root byte) = true
is_folders (names.Temp root key) = true
is_folders (names.Entry root key) = true
is_folders name = false

-- these names have their files, and the files that are there their bytes
record Spares (d d' : Disk) : Type 0 where
  names : (name : Name) → is_folders name ≡ true → d'.names name ≡ d.names name
  files : (f : ℕ) → f < d.count → d'.files f ≡ d.files f
  count : (f : ℕ) → f < d.count → f < d'.count

spares_created : (d : Disk) (new : Name) (bytes : List ℕ) → ((name : Name) → is_folders name ≡ true → same_name new name ≡ false) → Spares d (created d new bytes)
spares_created d new bytes other = record {
  names = λ name e. rw (other name e) refl;
  files = λ f less. rw (apart d.count f (λ e. absurd (omega (arith, less, e)))) refl;
  count = λ f less. omega (arith, less);
}

spares_then : (d e f : Disk) → Spares d e → Spares e f → Spares d f
spares_then d e f p q = record {
  names = λ name k. q.names name k ∙ p.names name k;
  files = λ g less. q.files g (p.count g less) ∙ p.files g less;
  count = λ g less. q.count g (p.count g less);
}

ro_other : (root : ℕ) (base : List ℕ) (name : Name) → is_folders name ≡ true → same_name (names.Ro root base) name ≡ false
unfolding name_code
ro_other root base (names.FolderLock r byte) e = refl
ro_other root base (names.Temp r key) e = refl
ro_other root base (names.Entry r key) e = refl
ro_other root base name e = absurd (false≢true e)

rows_other : (root : ℕ) (base : List ℕ) (name : Name) → is_folders name ≡ true → same_name (names.RoIdx root base) name ≡ false
unfolding name_code
rows_other root base (names.FolderLock r byte) e = refl
rows_other root base (names.Temp r key) e = refl
rows_other root base (names.Entry r key) e = refl
rows_other root base name e = absurd (false≢true e)

list_other : (name : Name) → is_folders name ≡ true → same_name names.List name ≡ false
unfolding name_code
list_other (names.FolderLock r byte) e = refl
list_other (names.Temp r key) e = refl
list_other (names.Entry r key) e = refl
list_other name e = absurd (false≢true e)

spares_listed : (d : Disk) (text : Option (List ℕ)) → Spares d (listed d text)
spares_listed d None = record { names = λ name e. rw (list_other name e) refl; files = λ f less. refl; count = λ f less. less }
spares_listed d (Some text) = spares_created d names.List text list_other

spares_unseated : (d : Disk) (x : LogItem) → seat_of x ≡ None → Spares d (applied d x)
spares_unseated d (items.Queued process ticket request) none = record { names = λ name e. refl; files = λ f less. refl; count = λ f less. less }
spares_unseated d (items.Stop process) none = record { names = λ name e. refl; files = λ f less. refl; count = λ f less. less }
spares_unseated d (items.Install root base main index) none =
    let first = created d (names.Ro root base) main in
    spares_then d first (created first (names.RoIdx root base) index) (spares_created d (names.Ro root base) main (ro_other root base)) (spares_created first (names.RoIdx root base) index (rows_other root base))
spares_unseated d (items.SetList text) none = spares_listed d text
spares_unseated d (items.Taken who ticket) none = absurd cc
spares_unseated d (items.Begin who request) none = absurd cc
spares_unseated d (items.Did who call reply) none = absurd cc
spares_unseated d (items.Byte who slot at value) none = absurd cc
spares_unseated d (items.Failed who memory) none = absurd cc
spares_unseated d (items.Evict who store driver key) none = absurd cc
spares_unseated d (items.End who answer) none = absurd cc

by_none : (h : History) (x : LogItem) (me : Who) → InOrder h → is_own me x ≡ false → is_stop me.process x ≡ false → Spares (disk_of h) (applied (disk_of h) x) → Leaves h me (applied (disk_of h) x)
by_none h x me o other goes s = record {
  slots = λ slot. other_slots me (disk_of h) x slot other goes;
  locks = λ file slot e. other_locks (disk_of h) me x file slot other goes e;
  lock_names = λ root byte file e. s.names (names.FolderLock root byte) refl ∙ e;
  entry_bytes = λ root key file had. s.files file (o.below (names.Entry root key) file had);
  entries = λ root key has. s.names (names.Entry root key) refl;
  temporary = λ root key has. s.names (names.Temp root key) refl;
  temporary_bytes = λ root key has. file_same (disk_of h) (applied (disk_of h) x) (names.Temp root key) (s.names (names.Temp root key) refl) (λ f e. s.files f ((tidy h).there (names.Temp root key) f e));
}

pub others_leave : OthersLeave
others_leave h x me o other goes keeps = by_seat (seat_of x) refl
  where
    by_seat : (seat : Option Who) → seat_of x ≡ seat → Leaves h me (applied (disk_of h) x)
    by_seat (Some who) e = by_rule h x me who (other_seat x me who e other) other goes (keeps who e)
    by_seat None e = by_none h x me o other goes (spares_unseated (disk_of h) x e)
