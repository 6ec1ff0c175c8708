use Rattle.std.proofs.Common.{rules}
use Rattle.std.proofs.lemmas.Fn.{filter_same}
use Rattle.world_tables.specs.declared.parts.OpenSlot.{OpenSlot}
use Rattle.world_tables.proofs.Finds.{goes_on, file_in-stopped, lighter}
use Rattle.world_tables.proofs.find.empty_all.Goals as goal

pub returns-clause-slots : goal.returns-clause-slots
returns-clause-slots c = λ w a.
    let e = filter_same _ (goes_on c.args.process) _ (λ x b f h. search rules) _ _ c.retain.ensures.filtered in
    rw e (file_in-stopped c.args.process _ w a)

pub returns-clause-no_more : goal.returns-clause-no_more
returns-clause-no_more c =
    let e = filter_same _ (goes_on c.args.process) _ (λ x b f h. search rules) _ _ c.retain.ensures.filtered in
    rw e (lighter (λ (x : OpenSlot). 1) (goes_on c.args.process) _)
