use Rattle.sim_files.proofs.Playing.{Plays}
use Rattle.sim_files.proofs.acts.play_others.Given as goal

abbrev pub invariant-turns : goal.invariant-turns
invariant-turns l = Plays l.fn.stage l.stage
