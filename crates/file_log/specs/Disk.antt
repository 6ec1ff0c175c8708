-- Files under names, in slots and under locks, and the ways in which they change.
use Rattle.std.specs.Prelude.{ℕ, ◌+◌, nat_eq, Bool, true, false, ◌&&◌, List, [], ◌∷◌, length, map, get_or, Option, Some, None, if◌then◌else◌}
use Rattle.cache_types.specs.declared.seat.Who.{Who}
use Rattle.cache_types.specs.declared.name.Name.{Name}
use Rattle.cache_types.specs.declared.name.Name.TheVariants as names
use Rattle.cache_types.specs.Names.{same_name}
use Rattle.cache_types.specs.Seats.{same_seat}

-- a lock belongs to a slot of a seat
pub record Lock : Type 0 where
  pub who : Who
  pub slot : ℕ

-- the file that each name has, how many files there ever were, the bytes of each file by its number,
-- the file in each slot of each seat, and the slot that took each file's lock
pub record Disk : Type 0 where
  pub names : Name → Option ℕ
  pub count : ℕ
  pub files : ℕ → List ℕ
  pub slots : Who → ℕ → Option ℕ
  pub locks : ℕ → Option Lock

-- ---- the disk at first

-- the names and files that were there at first
abbrev pub Start : Type 0
Start = List (Name × List ℕ)

-- the number of the first file with this name, where the first of all has the number k
abbrev pub number_from : ℕ → Start → Name → Option ℕ
number_from k [] n = None
number_from k (file ∷ start) n = if same_name file.0 n then Some k else number_from (k + 1) start n

-- the files of the start, numbered in their order; no slot is filled and no lock taken
abbrev pub opening : Start → Disk
opening start = record { names = number_from 0 start; count = length start; files = λ f. get_or (map (λ file. file.1) start) f []; slots = λ who slot. None; locks = λ f. None }

-- ---- what stands on it

-- the bytes of the file with this number
abbrev pub bytes_in : (ℕ → List ℕ) → Option ℕ → Option (List ℕ)
bytes_in files None = None
bytes_in files (Some f) = Some (files f)

-- the bytes of the file that a name has
abbrev pub file_of : Disk → Name → Option (List ℕ)
file_of d name = bytes_in d.files (d.names name)

-- the bytes of the file in a slot of a seat
abbrev pub bytes_at : Disk → Who → ℕ → Option (List ℕ)
bytes_at d who slot = bytes_in d.files (d.slots who slot)

-- the lock of the file with this number
abbrev pub lock_in : Disk → Option ℕ → Option Lock
lock_in d None = None
lock_in d (Some f) = d.locks f

-- ---- how it changes

-- a slot of a seat gets a file, or none
abbrev pub with_slot : Disk → Who → ℕ → Option ℕ → Disk
with_slot d who slot file = record d { slots = λ other at. if same_seat other who && nat_eq slot at then file else d.slots other at }

-- a name gets a file, or none
abbrev pub named : Disk → Name → Option ℕ → Disk
named d name file = record d { names = λ n. if same_name name n then file else d.names n }

-- a name gets a new file with these bytes
abbrev pub created : Disk → Name → List ℕ → Disk
created d name bytes = named (record d { count = d.count + 1; files = λ f. if nat_eq d.count f then bytes else d.files f }) name (Some d.count)

-- a name without a file gets an empty one
abbrev pub made_at : Option ℕ → Disk → Name → Disk
made_at None d name = created d name []
made_at (Some f) d name = d

abbrev pub made : Disk → Name → Disk
made d name = made_at (d.names name) d name

-- the bytes of a file change
abbrev pub rewritten : Disk → Option ℕ → (List ℕ → List ℕ) → Disk
rewritten d None change = d
rewritten d (Some f) change = record d { files = λ g. if nat_eq f g then change (d.files f) else d.files g }

-- a name's file goes to another name, unless it has none
abbrev pub renamed : Disk → Option ℕ → Name → Name → Disk
renamed d None from to = d
renamed d (Some f) from to = named (named d from None) to (Some f)

-- a lock that nobody has is this slot's
abbrev pub lock_taken : Option Lock → Lock → Option Lock
lock_taken None lock = Some lock
lock_taken (Some other) lock = Some other

-- the file with this number is locked through a slot
abbrev pub locked : Disk → Who → ℕ → Option ℕ → Disk
locked d who slot None = d
locked d who slot (Some f) = record d { locks = λ g. if nat_eq f g then lock_taken (d.locks f) (record { who = who; slot = slot }) else d.locks g }

abbrev pub is_slot : Option Lock → Who → ℕ → Bool
is_slot None who at = false
is_slot (Some lock) who at = same_seat lock.who who && nat_eq at lock.slot

-- the lock that was taken through the slot is free
abbrev pub freed : Disk → Who → ℕ → Disk
freed d who slot = record d { locks = λ f. if is_slot (d.locks f) who slot then None else d.locks f }

abbrev pub is_process : ℕ → Option Lock → Bool
is_process process None = false
is_process process (Some lock) = nat_eq lock.who.process process

-- a process has no slot and no lock any more
abbrev pub stopped : Disk → ℕ → Disk
stopped d process = record d {
  slots = λ who at. if nat_eq who.process process then None else d.slots who at;
  locks = λ f. if is_process process (d.locks f) then None else d.locks f;
}

-- the list of read-only databases is a new file, or absent
abbrev pub listed : Disk → Option (List ℕ) → Disk
listed d None = named d names.List None
listed d (Some text) = created d names.List text
