use Rattle.std.proofs.Common.{◌∙◌, ◌++◌, ◌<◌, ◌≤◌, List, map, drop, length, false, ap, arith}
use Rattle.std.specs.Prelude.{slice_index_or, slice_set}
use Rattle.std.proofs.lemmas.List.{get_or_default, take_all, drop_all, append-nil}
use Rattle.std.proofs.lemmas.List.Edits.{map_over_more}
use Rattle.memory_files.specs.declared.plan.Fault.{Fault}
use Rattle.memory_files.specs.Plans.{put_off}
use Rattle.memory_files.proofs.plan.put_off_all.Goals as goal

pub loop-fault-preserved : goal.loop-fault-preserved
loop-fault-preserved c =
    let i = c.loop-fault.fault-index in
    let xs = c.args.faults.now in
    let ys = c.loop-fault.faults in
    let none : Fault = record { call = 0; after = 0; memory = false } in
    let x : Fault = slice_index_or ys i none in
    let here : i < length ys = omega (arith, c.loop-fault-test.true, c.loop-fault.auto.faults) in
    ap (slice_set ys i) c.put_off.ensures ∙ map_over_more (put_off c.args.number) xs ys i x c.loop-fault-test.true c.loop-fault.invariant (get_or_default ys i none x here)

pub returns : goal.returns
returns c =
    let i = c.loop-fault.fault-index in
    let xs = c.args.faults.now in
    let f = put_off c.args.number in
    let end : length xs ≤ i = c.loop-fault-test.false in
    c.loop-fault.invariant
    ∙ ap (λ (ys : List Fault). map f ys ++ drop i xs) (take_all i xs end)
    ∙ ap (λ (ys : List Fault). map f xs ++ ys) (drop_all i xs end)
    ∙ append-nil (map f xs)
