use Rattle.std.proofs.Common.{rules, not}
use Rattle.std.proofs.lemmas.Fn.{filter_same}
use Rattle.cache_types.specs.Names.{same_name}
use Rattle.world_tables.proofs.Finds.{number_of-forgotten}
use Rattle.world_tables.proofs.find.forget.Goals as goal

pub returns : goal.returns
returns c = λ n.
    let e = filter_same _ (λ x. not (same_name x.name c.args.name.now)) _ (λ x b f h. search rules) _ _ c.retain.ensures.filtered in
    rw e (number_of-forgotten c.args.name.now _ n)
