use Rattle.host_files.proofs.host_files.HostFiles.open_new.Goals as goal

pub returns-clause-went : goal.returns-clause-went
returns-clause-went g c = (c.fill.ensures.new c.args.name.now, tt)
