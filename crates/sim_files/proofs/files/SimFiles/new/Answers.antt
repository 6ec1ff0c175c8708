use Rattle.sim_files.proofs.Keeping.{idle_at_first}
use Rattle.sim_files.proofs.files.SimFiles.new.Goals as goal

pub returns-clause-idle : goal.returns-clause-idle
returns-clause-idle c = idle_at_first c.args.me c.new.result.world c.new.ensures.world
