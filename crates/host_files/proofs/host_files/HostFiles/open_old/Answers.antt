use Rattle.host_files.proofs.host_files.HostFiles.open_old.Goals as goal

pub returns-in-Some-clause-went : goal.returns-in-Some-clause-went
returns-in-Some-clause-went g c = (c.fill.ensures.old c.args.name.now, tt)
