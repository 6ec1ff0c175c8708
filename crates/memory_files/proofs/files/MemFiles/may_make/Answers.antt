use Rattle.memory_files.proofs.Deciding.{allowed_is}
use Rattle.memory_files.proofs.files.MemFiles.may_make.Goals as goal

pub returns : goal.returns
returns c = rw c.is_allowed.ensures (allowed_is c.args.self.now.me c.args.self.now.world.past c.args.call.now)
