-- What files that others use too show.
use Rattle.std.specs.Prelude.{◌≡◌, Some}
use Rattle.cache_types.specs.declared.seat.Who.{Who}
use Rattle.file_model.specs.Held.{Held}
use Rattle.sim_files.specs.declared.files.SimFiles.TheInside.{Inside}
use Rattle.sim_files.specs.Seats.{GoesOn}
use Rattle.sim_world.specs.Stages.{InOrder}

-- the world, and the seat that calls
pub record Shown : Type 0 where
  pub world : Held
  pub me : Who

abbrev pub view_of : Inside → Shown
view_of f = record { world = f.stage.world; me = f.me }

-- all seats but this one follow the schedule by their machines, and its process goes on
pub record IsKept (f : Inside) : Type 0 where
  pub order : InOrder f.stage
  pub outsider : f.stage.outsider ≡ Some f.me
  pub goes_on : GoesOn f.me f.stage.world.past
