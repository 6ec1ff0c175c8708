use Rattle.std.proofs.Common.{refl}
use Rattle.folder_store.proofs.put_replies.fronted.Goals as goal

pub returns-in-None : goal.returns-in-None
returns-in-None c = c.in-None.ensures.none.0 refl
