use Rattle.std.proofs.Common.{◌≡◌, ◌∙◌, ◌++◌, ◌∷◌, [], List, Option, ap, sym, append_assoc, ℕ}
use Rattle.cache_types.specs.declared.seat.Who.{Who}
use Rattle.file_log.specs.declared.item.LogItem.{LogItem}
use Rattle.file_log.specs.declared.item.LogItem.TheVariants.{Byte}
use Rattle.file_log.specs.Exchange.{byte_items}
use Rattle.world_tables.specs.declared.piece.Run.{Run}
use Rattle.world_tables.specs.Told.{Told, with_news}
use Rattle.world_tables.specs.Pieces.{items_of_pieces, items_grown}
use Rattle.world_tables.proofs.Runs.{byte_items-more}
use Rattle.world_tables.proofs.book.Book.put_byte.Goals as goal

pub returns-then-goes_on-clause-ok : goal.returns-then-goes_on-clause-ok
returns-then-goes_on-clause-ok c =
    let run = c.in-Some.run' in
    let all = items_of_pieces c.self.inside.pieces.items in
    let room = c.self.inside.room in
    let value = c.args.value in
    let g = c.goes_on.ensures c.if-goes_on.true in
    let last : List LogItem = Byte c.args.who c.args.slot c.args.at value ∷ [] in
    let grown : byte_items run.who run.slot run.at c.push.new.self ≡ byte_items run.who run.slot run.at run.bytes ++ last =
    ap (λ (bytes : List ℕ). byte_items run.who run.slot run.at bytes) c.in_ok-push.ensures.ok
    ∙ byte_items-more run.who run.slot run.at c.args.at run.bytes value g.2
    ∙ ap (λ (w : Who). byte_items run.who run.slot run.at run.bytes ++ Byte w run.slot c.args.at value ∷ []) g.0
    ∙ ap (λ (s : ℕ). byte_items run.who run.slot run.at run.bytes ++ Byte c.args.who s c.args.at value ∷ []) g.1 in
    let whole : all ++ byte_items run.who run.slot run.at c.push.new.self ≡ (all ++ items_grown c.self.inside.growing) ++ last =
    ap (λ (xs : List LogItem). all ++ xs) grown ∙ sym (append_assoc all (byte_items run.who run.slot run.at run.bytes) last)
    ∙ ap (λ (o : Option Run). (all ++ items_grown o) ++ last) (sym c.in-Some.is) in
    let told : List LogItem → Told = λ items. record { items = items; room = room } in
    ap told whole ∙ ap (λ (t : Told). with_news t last) c.self.view_is
