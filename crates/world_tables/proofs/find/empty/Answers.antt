use Rattle.std.proofs.Common.{rules}
use Rattle.std.proofs.lemmas.Fn.{filter_same}
use Rattle.world_tables.specs.declared.parts.OpenSlot.{OpenSlot}
use Rattle.world_tables.proofs.Finds.{is_other, file_in-emptied, slots-fewer, lighter}
use Rattle.world_tables.proofs.find.empty.Goals as goal

pub returns-clause-slots : goal.returns-clause-slots
returns-clause-slots c = λ w a.
    let e = filter_same _ (is_other c.args.who c.args.at) _ (λ x b f h. search rules) _ _ c.retain.ensures.filtered in
    rw e (file_in-emptied c.args.who c.args.at _ w a)

pub returns-clause-fewer : goal.returns-clause-fewer
returns-clause-fewer c = λ some.
    let e = filter_same _ (is_other c.args.who c.args.at) _ (λ x b f h. search rules) _ _ c.retain.ensures.filtered in
    rw e (slots-fewer c.args.who c.args.at _ some)

pub returns-clause-no_more : goal.returns-clause-no_more
returns-clause-no_more c =
    let e = filter_same _ (is_other c.args.who c.args.at) _ (λ x b f h. search rules) _ _ c.retain.ensures.filtered in
    rw e (lighter (λ (x : OpenSlot). 1) (is_other c.args.who c.args.at) _)
