-- What is known of a seat by its own items alone, whatever other seats do: its slots, its operation, and what its machine asks for.
use Rattle.std.specs.Prelude.{◌≡◌, ℕ, false, true}
use Rattle.cache_types.specs.declared.seat.Who.{Who}
use Rattle.file_log.specs.declared.call.Call.{Call}
use Rattle.file_log.specs.Log.{History}
use Rattle.file_model.specs.Steps.{IsPlace}
use Rattle.files_api.specs.declared.machine.Step.TheVariants.{Ask}
use Rattle.op_machine.specs.declared.op.Op.{Op}
use Rattle.op_machine.specs.Machine.{asks, asked}
use Rattle.seat_order.specs.Places.{Where}
use Rattle.seat_order.specs.Slots.{HasSlots, HasNone, HasThose}

module _ (me : Who) where
  -- its machine asked for the call, and the item that comes next is one of the call's
  pub record IsCalling (n : Op) (call : Call) (done : ℕ) (h : History) : Type 0 where
    pub m : Op
    pub asked_is : asked m ≡ n
    pub asks_so : asks m ≡ Ask call
    pub place : IsPlace call done
    pub seen : HasThose me m h

  -- its slots and its operation are as its place says
  abbrev pub IsReady : Where → History → Type 0
  IsReady Where.Outside h = HasNone me h
  IsReady (Where.Begun request) h = HasSlots me (λ at. false) false h
  IsReady (Where.Between m) h = HasThose me m h
  IsReady (Where.Within n call done) h = IsCalling n call done h
  IsReady (Where.Ending given) h = HasSlots me (λ at. false) true h
