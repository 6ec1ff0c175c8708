-- Where a seat stands between two items of the log among seats that keep the rules.
use Rattle.std.specs.Prelude.{◌≡◌, ℕ, true, false, List, ◌++◌}
use Rattle.cache_types.specs.declared.answer.Answer.{Answer}
use Rattle.cache_types.specs.declared.request.Request.{Request}
use Rattle.cache_types.specs.declared.seat.Who.{Who}
use Rattle.file_log.specs.declared.call.Call.{Call}
use Rattle.file_log.specs.declared.item.LogItem.{LogItem}
use Rattle.file_log.specs.declared.reply.Reply.{Reply}
use Rattle.file_log.specs.Exchange.{Answers, Makes, items_before}
use Rattle.file_log.specs.Fits.{RequestFits}
use Rattle.file_log.specs.Log.{History}
use Rattle.file_model.specs.Steps.{IsPlace}
use Rattle.files_api.specs.declared.machine.Step.TheVariants.{Ask, Done}
use Rattle.folder_store.proofs.Keeping.{IsIn, IsOut}
use Rattle.op_machine.specs.declared.op.Op.{Op}
use Rattle.op_machine.specs.Machine.{asks, asked}
use Rattle.op_machine.proofs.Known as known
use Rattle.seat_order.specs.Places.{Where}
use Rattle.seat_order.specs.Slots.{HasSlots, HasNone, HasThose}

module _ (me : Who) where
  -- so many items of a call were made, whatever its reply will be and whatever it makes until then
  pub record IsMaking (request : Request) (m : Op) (call : Call) (done : ℕ) (h : History) : Type 0 where
    pub asks_so : asks m ≡ Ask call
    pub goes : (reply : Reply) (made rest : List LogItem) → Answers true call reply → Makes me true call reply made → made ≡ items_before me call done ++ rest → known.During me request m call reply rest h

  -- in an operation of the request
  pub record IsWithin (n : Op) (call : Call) (done : ℕ) (h : History) : Type 0 where
    pub request : Request
    pub m : Op
    pub asked_is : asked m ≡ n
    pub inside : IsIn me request h
    pub making : IsMaking request m call done h
    pub place : IsPlace call done
    pub seen : HasThose me m h

  -- what its machine gave may end it
  pub record IsEnding (given : Answer) (h : History) : Type 0 where
    pub request : Request
    pub m : Op
    pub gives : asks m ≡ Done given
    pub knows : known.Between me request m h
    pub seen : HasSlots me (λ at. false) true h

  -- the request that was begun can be, and the seat is in its operation
  pub record HasBegun (request : Request) (h : History) : Type 0 where
    pub fits : RequestFits request
    pub inside : IsIn me request h
    pub seen : HasSlots me (λ at. false) false h

  -- the seat stands there
  abbrev pub Stands : Where → History → Type 0
  Stands Where.Outside h = IsOut me h × HasNone me h
  Stands (Where.Begun request) h = HasBegun request h
  Stands (Where.Between m) h = (request : Request) × known.Between me request m h × HasThose me m h
  Stands (Where.Within n call done) h = IsWithin n call done h
  Stands (Where.Ending given) h = IsEnding given h
