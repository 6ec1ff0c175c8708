-- What a world is that a schedule was played on.
use Rattle.std.specs.Prelude.{◌≡◌, List, []}
use Rattle.cache_types.specs.declared.seat.Who.{Who}
use Rattle.file_log.specs.Legal.{Legal}
use Rattle.file_log.specs.Log.{History}
use Rattle.file_log.specs.State.{first}
use Rattle.layout_rules.specs.Places.{Cooperating}
use Rattle.seat_order.specs.Operating.{Operates}
use Rattle.sim_world.specs.declared.turn.Turn.{Turn}
use Rattle.sim_world.specs.Played.{Played}

-- It began empty, its log can be and follows the schedule, and no place of it breaks a rule among seats. Each operation in it makes at
-- most so many calls as its request may, all in its store's root, and ends with an answer of its request whose cause is among its own items.
pub record IsPlayed (schedule : List Turn) (h : History) : Type 0 where
  pub start : h.start ≡ []
  pub legal : Legal (first []) h.log
  pub played : Played schedule h.log
  pub cooperating : Cooperating h.log
  pub operations : (who : Who) → Operates who h.log
