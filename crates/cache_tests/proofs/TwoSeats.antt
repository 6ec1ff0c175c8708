-- The definitions of logs at small values: two seats, one file, its lock, and a stop.
use Rattle.std.proofs.Common.{◌≡◌, ◌<◌, ℕ, true, false, List, [], ◌∷◌, fold, Option, Some, None, refl, sym, ◌∙◌, arith}
use Rattle.cache_types.specs.declared.name.Name.{Name}
use Rattle.cache_types.specs.declared.name.Name.TheVariants.{Db}
use Rattle.cache_types.specs.declared.seat.Who.{Who}
use Rattle.cache_types.specs.Names.{name_code}
use Rattle.file_log.specs.declared.call.Call.TheVariants as calls
use Rattle.file_log.specs.declared.item.LogItem.{LogItem}
use Rattle.file_log.specs.declared.item.LogItem.TheVariants as items
use Rattle.file_log.specs.declared.reply.Reply.TheVariants as replies
use Rattle.file_log.specs.Disk.{Disk, Lock, file_of}
use Rattle.file_log.specs.Legal.{Legal, IsFree, IsOpen}
use Rattle.file_log.specs.Log.{History, own}
use Rattle.file_log.specs.State.{State, first, after, disk_of}

abbrev one : Who
one = record { process = 0; seat = 0 }

abbrev two : Who
two = record { process = 1; seat = 0 }

-- both open the file, the first takes its lock, writes a byte at place 2 and is stopped; the second waits, reads and takes the lock
abbrev pub log : List LogItem
log =
    items.Did one (calls.OpenNew 0 (Db 0)) replies.Done
    ∷ items.Did two (calls.OpenNew 3 (Db 0)) replies.Done
    ∷ items.Did one (calls.TryLock 0) replies.Done
    ∷ items.Did two (calls.TryLock 3) replies.Held
    ∷ items.Byte one 0 2 7
    ∷ items.Did two (calls.ReadAt 3 1 9) (replies.Got (0 ∷ 7 ∷ []))
    ∷ items.Stop 0
    ∷ items.Did two (calls.TryLock 3) replies.Done
    ∷ []

abbrev past : History
past = record { start = []; log = log }

-- a gap before a byte becomes zero bytes
pub file_after : file_of (disk_of past) (Db 0) ≡ Some (0 ∷ 0 ∷ 7 ∷ [])
unfolding name_code
file_after = refl

-- the stop freed the lock
pub lock_after : (disk_of past).locks 0 ≡ Some (record { who = two; slot = 3 })
unfolding name_code
lock_after = refl

-- and emptied the slot
pub slot_after : (disk_of past).slots one 0 ≡ None
unfolding name_code
slot_after = refl

-- it can be
pub legal : Legal (first []) log
unfolding name_code
legal = (
  (refl, (record { small = omega arith; empty = refl }, tt)),
  (
    (refl, (record { small = omega arith; empty = refl }, tt)),
    (
      (refl, ((record { small = omega arith; filled = refl }, refl), tt)),
      (
        (refl, ((record { small = omega arith; filled = refl }, refl), tt)),
        (
          (refl, record { is_open = record { small = omega arith; filled = refl }; byte = omega arith }),
          (
            (refl, ((record { small = omega arith; filled = refl }, refl), tt)),
            ((tt, tt), ((refl, ((record { small = omega arith; filled = refl }, refl), tt)), tt)),
          ),
        ),
      ),
    ),
  ),
)

-- but a lock has one holder: with both tries answered Done it can't
abbrev pub both : List LogItem
both =
    items.Did one (calls.OpenNew 0 (Db 0)) replies.Done
    ∷ items.Did two (calls.OpenNew 0 (Db 0)) replies.Done
    ∷ items.Did one (calls.TryLock 0) replies.Done
    ∷ items.Did two (calls.TryLock 0) replies.Done
    ∷ []

pub one_holder : Legal (first []) both → ⊥
unfolding name_code
one_holder l = let clash : true ≡ false = l.1.1.1.0.1.0.1 in cc

-- a seat of a stopped process has no item
pub stopped_is_still : Legal (first []) (items.Stop 0 ∷ items.Did one calls.Pause replies.Done ∷ []) → ⊥
stopped_is_still l = let clash : true ≡ false = l.1.0.0 in cc
