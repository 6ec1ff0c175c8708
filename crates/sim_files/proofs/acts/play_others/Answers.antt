use Rattle.sim_files.proofs.Playing.{plays_on}
use Rattle.sim_files.proofs.acts.play_others.Goals as goal

pub turns-preserved : goal.turns-preserved
turns-preserved c = plays_on c.args.stage.now c.turns.stage c.turn-played.new.self c.turns.invariant c.turn-played.ensures.order c.turn-played.ensures.outsider c.turn-played.ensures.grows
