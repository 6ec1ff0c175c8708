-- What a seat has done since its Begin, as its own items say it: the calls by which its machine came to where it is.
use Rattle.std.specs.Prelude.{◌≡◌, ℕ, true, List, [], ◌∷◌, ◌++◌}
use Rattle.cache_types.specs.declared.answer.Answer.{Answer}
use Rattle.cache_types.specs.declared.request.Request.{Request}
use Rattle.cache_types.specs.declared.seat.Who.{Who}
use Rattle.file_log.specs.declared.call.Call.{Call}
use Rattle.file_log.specs.declared.item.LogItem.{LogItem}
use Rattle.file_log.specs.Exchange.{Answers, Makes, Exchange, items_before}
use Rattle.file_log.specs.Log.{own}
use Rattle.files_api.specs.declared.machine.Step.TheVariants.{Ask}
use Rattle.files_api.specs.Drive.{items_of_all}
use Rattle.seat_rules.specs.Operations.{IsInside}
use Rattle.op_machine.specs.declared.op.Op.{Op}
use Rattle.op_machine.specs.Machine.{asks, asked, Fed}
use Rattle.op_machine.specs.Requests.{IsOpOf}
use Rattle.seat_order.specs.Places.{Where}
use Rattle.seat_order.specs.Operating.{AreFew, EndsFor, IsInNone}

-- the seat is in an operation, and its request and the seat's own items since its Begin are so
pub record IsInOne (me : Who) (log : List LogItem) (AreSo : Request → List LogItem → Type 0) : Type 0 where
  pub request : Request
  pub inside : IsInside log me request
  pub so : AreSo request (own me inside.since)

-- ---- its machine

-- a machine may make these calls, with these replies and items, and then be the other
abbrev pub RunsTo : Who → Op → List Exchange → Op → Type 0
RunsTo me m [] n = m ≡ n
RunsTo me m (x ∷ xs) n = (asks m ≡ Ask x.call) × Answers true x.call x.reply × Makes me true x.call x.reply x.items × ((next : Op) × Fed (asked m) x.reply next × RunsTo me next xs n)

-- the request's machine has come to this one by calls that made these items
pub record HasCome (me : Who) (request : Request) (m : Op) (made : List LogItem) : Type 0 where
  pub first : Op
  pub is_of : IsOpOf request first
  pub exchanges : List Exchange
  pub runs : RunsTo me first exchanges m
  pub made_are : made ≡ items_of_all exchanges

-- it has come to where it asked for this call, and the call has made so many items
pub record IsAmid (me : Who) (n : Op) (call : Call) (done : ℕ) (request : Request) (made : List LogItem) : Type 0 where
  pub m : Op
  pub asked_is : asked m ≡ n
  pub asks_so : asks m ≡ Ask call
  pub before : List LogItem
  pub come : HasCome me request m before
  pub made_are : made ≡ before ++ items_before me call done

-- few calls were made, and what its machine gave may be the answer
pub record IsDone (given : Answer) (request : Request) (made : List LogItem) : Type 0 where
  pub few : AreFew request made
  pub ends : EndsFor request given made

-- ---- where it is

-- what was done in the operation that it is in there
abbrev pub HasDone : Who → Where → List LogItem → Type 0
HasDone me Where.Outside log = IsInNone me log
HasDone me (Where.Begun request) log = IsInOne me log (λ asked made. (asked ≡ request) × (made ≡ []))
HasDone me (Where.Between m) log = IsInOne me log (λ request made. HasCome me request m made)
HasDone me (Where.Within n call done) log = IsInOne me log (IsAmid me n call done)
HasDone me (Where.Ending given) log = IsInOne me log (IsDone given)
