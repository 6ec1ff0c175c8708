use Rattle.host_files.proofs.Untold.{called}
use Rattle.host_files.proofs.host_files.HostFilesFiles.call.Goals as goal

pub returns-clause-told : goal.returns-clause-told
returns-clause-told g c = called c.args.self.now.seat.me c.args.self.now.seat.inside c.args.c c.made.result
