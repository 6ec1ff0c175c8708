-- The queues of all processes: the tickets that wait in each, and those that it has had.
use Rattle.std.specs.Prelude.{◌≡◌, ◌↔◌, ℕ, Bool, IsTrue, List, [], Option, Some, None, nat_eq, ◌&&◌}
use Rattle.std.specs.HashMap.{get}
use Rattle.std.specs.HashSet.{contains_by}
use Rattle.std.specs.List.{Contains}
use Rattle.std.specs.Global.{Vec}
use Rattle.file_log.specs.declared.ticket.Ticket.{Ticket}
use Rattle.file_log.specs.State.{State}
use Rattle.file_model.specs.declared.queues.Queues.{Queues}
use Rattle.file_model.specs.declared.queues.UsedTicket.{UsedTicket}

abbrev pub items_of : Option (Vec Ticket) → List Ticket
items_of None = []
items_of (Some tickets) = tickets.items

-- the tickets that wait in a process's queue
abbrev pub waiting_in : Queues → ℕ → List Ticket
waiting_in queues process = items_of (get nat_eq queues.waiting process)

abbrev pub is_of : ℕ → Ticket → UsedTicket → Bool
is_of process ticket used = nat_eq process used.process && (nat_eq ticket.side used.side && nat_eq ticket.number used.number)

-- a process's queue has had the ticket
abbrev pub is_used : Queues → ℕ → Ticket → Bool
is_used queues process ticket = contains_by (is_of process ticket) queues.used

-- the tickets that wait and those that were used are what the log says
pub record AreQueues (queues : Queues) (s : State) : Type 0 where
  pub waiting : (process : ℕ) → s.waiting process ≡ waiting_in queues process
  pub used : (process : ℕ) (ticket : Ticket) → IsTrue (is_used queues process ticket) ↔ Contains (s.used process) ticket
