-- What a log's summary says of the log.
use Rattle.std.specs.Prelude.{◌≡◌, ◌⊎◌, ℕ, ◌+◌, Bool, true, false, List, [], ◌∷◌, fold, Option, Some, None, if◌then◌else◌}
use Rattle.std.specs.Bool.{Decides}
use Rattle.std.specs.List.{list_any}
use Rattle.cache_types.specs.declared.name.Name.{Name}
use Rattle.cache_types.specs.declared.request.Request.{Request}
use Rattle.cache_types.specs.declared.seat.Who.{Who}
use Rattle.file_log.specs.Log.{WasPut, own, Quiet}
use Rattle.file_log.specs.Operation.{is_fault}
use Rattle.file_log.specs.State.{state_of, disk_of}
use Rattle.file_log.specs.declared.item.LogItem.{LogItem}
use Rattle.file_log.specs.declared.item.LogItem.TheVariants as items
use Rattle.file_log.specs.declared.reply.Reply.{Reply}
use Rattle.seat_rules.specs.Answers.{root_of}
use Rattle.seat_rules.specs.Changes.{HasHad}
use Rattle.seat_rules.specs.Address.{Address}
use Rattle.seat_rules.specs.Operations.{IsInside, AfterOne, EvictIsOpen, tries, WasHeldOff}
use Rattle.seat_rules.specs.Places.{past}
use Rattle.log_summary.specs.Summary.{BegunPut, OpenEvict, Operation, Summary, summary_of, given_for, is_held_reply}

-- a member of a list
abbrev pub In : {A : Type 0} → List A → A → Type 0
In [] x = ⊥
In (y ∷ ys) x = (y ≡ x) ⊎ In ys x

-- ---- the past

-- the list has each name with each file that it has had, and no other
pub record ListsFiles (log : List LogItem) (had : List (Name × ℕ)) : Type 0 where
  pub right : (name : Name) (f : ℕ) → In had (name, f) → HasHad (past log) name f
  pub all : (name : Name) (f : ℕ) → HasHad (past log) name f → In had (name, f)

-- the list has each put that began, and no other
pub record ListsPuts (log : List LogItem) (puts : List BegunPut) : Type 0 where
  pub right : (p : BegunPut) → In puts p → WasPut log p.at.store p.at.driver p.at.key p.blob
  pub all : (at : Address) (blob : List ℕ) → WasPut log at.store at.driver at.key blob → In puts (record { at = at; blob = blob })

-- the list has each Evict that is open, and no other
pub record ListsEvicts (log : List LogItem) (evicting : List OpenEvict) : Type 0 where
  pub right : (e : OpenEvict) → In evicting e → EvictIsOpen log e.who e.at
  pub all : (who : Who) (at : Address) → EvictIsOpen log who at → In evicting (record { who = who; at = at })

-- it says whether no process was stopped and no call failed
abbrev pub TellsCalm : List LogItem → Bool → Type 0
TellsCalm log rough = (rough ≡ false → Quiet log) × (Quiet log → rough ≡ false)

-- ---- operations

-- how many Held in a row, after one reply more
abbrev pub counted : ℕ → Reply → ℕ
counted n reply = if is_held_reply reply then n + 1 else 0

-- how many of the last replies are Held, in a row
abbrev pub streak : List Reply → ℕ
streak replies = fold counted 0 replies

-- the seat is in the operation, and what is carried of it is so of its items
pub record TellsOperation (log : List LogItem) (who : Who) (o : Operation) : Type 0 where
  pub at : IsInside log who o.request
  pub gave : (test : Option (List ℕ) → Bool) → Decides (list_any test o.gave) (AfterOne who (λ d. test (given_for d o.request) ≡ true) (disk_of (past at.before)) (items.Begin who o.request ∷ at.since))
  pub failed : o.failed ≡ list_any is_fault (own who (items.Begin who o.request ∷ at.since))
  pub row : (f : ℕ) → o.row f ≡ streak (tries who f (disk_of (past at.before)) (items.Begin who o.request ∷ at.since))
  pub held_off : Decides o.held_off (WasHeldOff who (root_of o.request) (disk_of (past at.before)) (items.Begin who o.request ∷ at.since))

-- what is carried of each seat is so
abbrev pub TellsInside : List LogItem → Who → Option Operation → Type 0
TellsInside log who None = (request : Request) → IsInside log who request → ⊥
TellsInside log who (Some o) = TellsOperation log who o

-- ---- the whole

-- all that a summary says of a log is so
pub record Tells (log : List LogItem) (s : Summary) : Type 0 where
  pub state : state_of (past log) ≡ s.state
  pub files : ListsFiles log s.had
  pub puts : ListsPuts log s.puts
  pub evicts : ListsEvicts log s.evicting
  pub calm : TellsCalm log s.rough
  pub inside : (who : Who) → TellsInside log who (s.inside who)

-- the summary of each log does so
abbrev pub SummariesTell : Type 0
SummariesTell = (log : List LogItem) → Tells log (summary_of log)
