use Rattle.op_union.proofs.Among.{built_asks, keeps_own, misses_truly, answers_as_read}
use Rattle.op_union.proofs.operation.run_op.Goals as goal

pub returns-then-is_put-clause-keeps : goal.returns-then-is_put-clause-keeps
returns-then-is_put-clause-keeps g c =
    let f = g.F.Files in
    keeps_own (f.me c.args.files.now) _ _ _ _ _ c.args.request (built_asks c.args.request c.requires.built) c.put_in_folder.ensures.done

pub returns-then-is_put-clause-misses : goal.returns-then-is_put-clause-misses
returns-then-is_put-clause-misses g c =
    let f = g.F.Files in
    misses_truly (f.me c.args.files.now) _ _ _ _ _ c.args.request (built_asks c.args.request c.requires.built) c.put_in_folder.ensures.done

pub returns-else-is_put-clause-keeps : goal.returns-else-is_put-clause-keeps
returns-else-is_put-clause-keeps g c =
    let f = g.F.Files in
    keeps_own (f.me c.args.files.now) _ _ _ _ _ c.args.request (built_asks c.args.request c.requires.built) c.get_from_folder.ensures.done

pub returns-else-is_put-clause-misses : goal.returns-else-is_put-clause-misses
returns-else-is_put-clause-misses g c =
    let f = g.F.Files in
    misses_truly (f.me c.args.files.now) _ _ _ _ _ c.args.request (built_asks c.args.request c.requires.built) c.get_from_folder.ensures.done

pub returns-then-is_put-clause-rests : goal.returns-then-is_put-clause-rests
returns-then-is_put-clause-rests g c =
    let f = g.F.Files in
    answers_as_read (f.me c.args.files.now) _ _ _ _ _ c.args.request c.put_in_folder.ensures.done

pub returns-else-is_put-clause-rests : goal.returns-else-is_put-clause-rests
returns-else-is_put-clause-rests g c =
    let f = g.F.Files in
    answers_as_read (f.me c.args.files.now) _ _ _ _ _ c.args.request c.get_from_folder.ensures.done
