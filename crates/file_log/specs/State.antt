-- What the log says at a place: the disk, the stopped processes, and their queues.
use Rattle.std.specs.Prelude.{ℕ, nat_eq, Bool, true, false, ◌||◌, List, [], ◌∷◌, ◌++◌, drop, fold, if◌then◌else◌}
use Rattle.file_log.specs.declared.ticket.Ticket.{Ticket}
use Rattle.file_log.specs.declared.item.LogItem.{LogItem}
use Rattle.file_log.specs.declared.item.LogItem.TheVariants as items
use Rattle.file_log.specs.Disk.{Disk, Start, opening}
use Rattle.file_log.specs.Effect.{applied}
use Rattle.file_log.specs.Log.{History}

-- the disk, the processes that were stopped, the jobs that wait in each process's queue, and the tickets that it used
pub record State : Type 0 where
  pub disk : Disk
  pub halted : ℕ → Bool
  pub waiting : ℕ → List Ticket
  pub used : ℕ → List Ticket

-- before any item
abbrev pub first : Start → State
first start = record { disk = opening start; halted = λ p. false; waiting = λ p. []; used = λ p. [] }

abbrev pub halted_after : (ℕ → Bool) → LogItem → ℕ → Bool
halted_after halted (items.Stop process) p = nat_eq process p || halted p
halted_after halted item p = halted p

-- a job is put at the end of its process's queue, and taken from the front
abbrev pub waiting_after : (ℕ → List Ticket) → LogItem → ℕ → List Ticket
waiting_after waiting (items.Queued process ticket request) p = if nat_eq process p then waiting p ++ ticket ∷ [] else waiting p
waiting_after waiting (items.Taken who ticket) p = if nat_eq who.process p then drop 1 (waiting p) else waiting p
waiting_after waiting item p = waiting p

abbrev pub used_after : (ℕ → List Ticket) → LogItem → ℕ → List Ticket
used_after used (items.Queued process ticket request) p = if nat_eq process p then ticket ∷ used p else used p
used_after used item p = used p

-- after one item more
abbrev pub after : State → LogItem → State
after s item = record {
  disk = applied s.disk item;
  halted = halted_after s.halted item;
  waiting = waiting_after s.waiting item;
  used = used_after s.used item;
}

-- after a whole history
abbrev pub state_of : History → State
state_of h = fold after (first h.start) h.log

abbrev pub disk_of : History → Disk
disk_of h = (state_of h).disk
