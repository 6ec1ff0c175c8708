-- What is told of a log that goes on, where it is told.
use Rattle.std.specs.Prelude.{◌≡◌, ◌+◌, ◌-◌, ◌≤◌, ◌^◌, ℕ, min, Bool, List, [], ◌∷◌, ◌++◌, Option, Some, None}
use Rattle.cache_types.specs.declared.seat.Who.{Who}
use Rattle.file_log.specs.declared.call.Call.{Call}
use Rattle.file_log.specs.declared.item.LogItem.{LogItem}
use Rattle.file_log.specs.declared.reply.Reply.{Reply}
use Rattle.file_log.specs.declared.reply.Reply.TheVariants.{Failed}
use Rattle.file_log.specs.Exchange.{Makes}
use Rattle.file_log.specs.Legal.{Legal}
use Rattle.file_log.specs.Log.{History, with_items, own, NoStop, EndsOwn}
use Rattle.file_log.specs.Seat.{Seen, IsTold}
use Rattle.file_log.specs.State.{state_of}

-- a history that is told stays told and goes on by these items
abbrev pub Grows : Option History → Option History → (History → List LogItem → Type 0) → Type 0
Grows None new P = Unit {0}
Grows (Some h) new P = (news : List LogItem) × (new ≡ Some (with_items h news)) × P h news

-- of the new items, which can come, a seat made these; others may stand between them, and its process went on
pub record Owns (me : Who) (made : List LogItem) (h : History) (news : List LogItem) : Type 0 where
  pub own_items : own me news ≡ made
  pub legal : Legal (state_of h) news
  pub goes_on : NoStop me.process news

abbrev pub IsSomeItem : List LogItem → Type 0
IsSomeItem [] = ⊥
IsSomeItem (item ∷ log) = Unit {0}

-- and nothing stands after the last of them
pub record OwnsToEnd (me : Who) (made : List LogItem) (h : History) (news : List LogItem) : Type 0 where
  pub owns : Owns me made h news
  pub ends : IsSomeItem made → EndsOwn me news

-- a call was made and answered so, with these items
pub record Called (me : Who) (inside : Bool) (call : Call) (reply : Reply) (old new : Option History) : Type 0 where
  pub items : List LogItem
  pub makes : Makes me inside call reply items
  pub told : Grows old new (OwnsToEnd me items)

-- what a seat has seen is what a told log says
abbrev pub IsToldBy : Who → Seen → Option History → Type 0
IsToldBy me seen None = Unit {0}
IsToldBy me seen (Some h) = IsTold me seen h

-- a count rose, or stands at its end
abbrev pub Rose : ℕ → ℕ → Type 0
Rose before now = min (before + 1) (2 ^ 64 - 1) ≤ now

-- a count of faults never falls, and `Failed` is answered only where it rose in this call
pub record HasCause (before now : ℕ) (reply : Reply) : Type 0 where
  pub later : before ≤ now
  pub failed : reply ≡ Failed → Rose before now
