use Rattle.std.proofs.lemmas.List.Sorted.{All-permutation}
use Rattle.host_files.specs.Names.{StartsWith}
use Rattle.host_files.proofs.system.list.Goals as goal

pub returns-clause-folder : goal.returns-clause-folder
returns-clause-folder g c = rw c.from_vec.ensures (All-permutation (StartsWith c.args.byte) _ _ c.sort_unstable.ensures.permutation c.in_ok-add_keys.ensures)
