use Rattle.std.proofs.Common.{◌∙◌, ◌+◌, ◌++◌, ◌∷◌, [], List, ℕ, get_or, take, ap, sym, refl, append_assoc, arith, length}
use Rattle.file_log.specs.declared.item.LogItem.{LogItem}
use Rattle.file_log.specs.declared.item.LogItem.TheVariants.{Byte}
use Rattle.file_log.specs.Exchange.{byte_items}
use Rattle.world_tables.proofs.Runs.{byte_items-next}
use Rattle.world_tables.proofs.book.copy_run.Goals as goal

pub loop-index-preserved : goal.loop-index-preserved
loop-index-preserved c =
    let run = c.args.run.now in
    let i = c.loop-index.index in
    let old = c.args.items.now.items in
    let before : List LogItem = byte_items run.who run.slot run.at (take i run.bytes) in
    let item : ℕ → List LogItem = λ value. Byte run.who run.slot (run.at + i) value ∷ [] in
    c.in_ok-push.ensures.items
    ∙ ap (λ (values : List ℕ). c.loop-index.items.items ++ item (get_or values i 0)) c.as_slice-value-items.ensures
    ∙ ap (λ (items : List LogItem). items ++ item (get_or run.bytes i 0)) c.loop-index.invariant
    ∙ append_assoc old before (item (get_or run.bytes i 0))
    ∙ ap (λ (items : List LogItem). old ++ items) (sym (byte_items-next run.who run.slot run.at i (i + 1) run.bytes (omega (arith, c.loop-index-test.true, ap length c.as_slice-value-items.ensures)) refl))
