-- Turns that are played one after another.
use Rattle.std.proofs.Common.{◌≡◌, [], Some, refl, ◌∙◌}
use Rattle.cache_types.specs.declared.seat.Who.{Who}
use Rattle.file_log.specs.Told.{Grows, Owns}
use Rattle.file_log.proofs.Logs.{nothing_yet, grows_then}
use Rattle.sim_world.specs.declared.stage.Stage.{Stage}
use Rattle.sim_world.specs.Stages.{InOrder}

-- all is in order still, and the outsider has no new item
pub record Plays (old new : Stage) : Type 0 where
  pub order : InOrder new
  pub outsider : new.outsider ≡ old.outsider
  pub grows : (me : Who) → old.outsider ≡ Some me → Grows (Some old.world.past) (Some new.world.past) (Owns me [])

pub plays_none : (s : Stage) → InOrder s → Plays s s
plays_none s order = record { order = order; outsider = refl; grows = λ me out. nothing_yet me (Some s.world.past) }

pub plays_on : (old mid new : Stage) → Plays old mid → InOrder new → new.outsider ≡ mid.outsider → ((me : Who) → mid.outsider ≡ Some me → Grows (Some mid.world.past) (Some new.world.past) (Owns me [])) → Plays old new
plays_on old mid new p order outsider grows = record {
  order = order;
  outsider = outsider ∙ p.outsider;
  grows = λ me out. grows_then me (Some old.world.past) (Some mid.world.past) (Some new.world.past) [] [] (p.grows me out) (grows me (p.outsider ∙ out));
}
