use Rattle.std.proofs.Common.{rules}
use Rattle.std.proofs.lemmas.Bool.Decides.{same_from_decides}
use Rattle.cache_types.proofs.Names.{same_name_decides}
use Rattle.cache_types.proofs.name.Name.is.Goals as goal

pub returns : goal.returns
returns c = same_from_decides _ _ (search rules) (same_name_decides c.args.self.now c.args.other.now)
