use Rattle.std.proofs.Common.{sym}
use Rattle.memory_files.proofs.Planned.{tell_memory}
use Rattle.memory_files.proofs.files.MemFiles.make.Goals as goal

pub refuse-requires-clause-tell : goal.refuse-requires-clause-tell
refuse-requires-clause-tell c = λ told. tell_memory c.args.self.now.plan c.args.call c.in-Some.fault (sym c.in-Some.ensures.fault) told
