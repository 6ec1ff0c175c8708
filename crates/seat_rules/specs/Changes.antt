-- Who may change a name's file, and what an item does to names.
use Rattle.std.specs.Prelude.{◌≡◌, ℕ, Bool, true, false, ◌&&◌, List, [], ◌∷◌, ◌++◌, Option, Some, None}
use Rattle.cache_types.specs.declared.name.Name.{Name}
use Rattle.cache_types.specs.declared.seat.Who.{Who}
use Rattle.cache_types.specs.Names.{same_name}
use Rattle.cache_types.specs.Seats.{same_seat}
use Rattle.file_log.specs.declared.call.Call.TheVariants.{Rename}
use Rattle.file_log.specs.declared.item.LogItem.{LogItem}
use Rattle.file_log.specs.declared.item.LogItem.TheVariants.{Did}
use Rattle.file_log.specs.declared.reply.Reply.TheVariants.{Done}
use Rattle.file_log.specs.Disk.{Disk, Lock, lock_in}
use Rattle.file_log.specs.Log.{History, with_items}
use Rattle.file_log.specs.State.{disk_of}
use Rattle.seat_rules.specs.Kinds.{guard_of}

-- a history with one item more
abbrev pub with_item : History → LogItem → History
with_item h item = with_items h (item ∷ [])

-- the disk after a first part of a history's items
abbrev pub disk_at : History → List LogItem → Disk
disk_at h before = disk_of (record { start = h.start; log = before })

-- ---- locks

-- the lock is the seat's
abbrev pub is_whose : Who → Option Lock → Bool
is_whose who None = false
is_whose who (Some lock) = same_seat lock.who who

-- the seat has the lock of a name's file
abbrev pub has_lock : Disk → Who → Name → Bool
has_lock d who name = is_whose who (lock_in d (d.names name))

-- the same, where a lock is asked for
abbrev pub has_guard : Disk → Who → Option Name → Bool
has_guard d who None = true
has_guard d who (Some name) = has_lock d who name

-- the seat has the lock that guards a name's file, if one does
abbrev pub may_write : Disk → Who → Name → Bool
may_write d who name = has_guard d who (guard_of name)

-- ---- names

-- the name has the file, or had it at an earlier place
pub record HasHad (h : History) (name : Name) (file : ℕ) : Type 0 where
  pub before : List LogItem
  pub later : List LogItem
  pub log_is : h.log ≡ before ++ later
  pub named : (disk_of (record { start = h.start; log = before })).names name ≡ Some file

-- the item gives the file of one name to the other
abbrev pub is_rename : Name → Name → LogItem → Bool
is_rename from to (Did who (Rename old new) Done) = same_name old from && same_name new to
is_rename from to item = false

-- the item gives the file of this name to another
abbrev pub is_rename_of : Name → LogItem → Bool
is_rename_of name (Did who (Rename old new) Done) = same_name old name
is_rename_of name item = false
