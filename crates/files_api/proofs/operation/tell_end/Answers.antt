use Rattle.std.proofs.Common.{Bool, [], ◌∷◌, sym, subst}
use Rattle.cache_types.specs.declared.answer.Answer.{Answer}
use Rattle.cache_types.specs.declared.seat.Who.{Who}
use Rattle.file_log.specs.declared.item.LogItem.TheVariants.{End}
use Rattle.file_log.specs.declared.note.Note.TheVariants as notes
use Rattle.file_log.specs.Told.{Grows, OwnsToEnd}
use Rattle.file_log.proofs.Logs.{grows_to_end, but_the_end}
use Rattle.files_api.specs.Notes.{items_told}
use Rattle.files_api.proofs.operation.tell_end.Goals as goal

pub returns-clause-told : goal.returns-clause-told
returns-clause-told g c =
    let f = g.F.Files in
    let old = c.args.files.now in
    let mid = c.end.new.self in
    let new = c.give_up.new.files in
    let first = subst (λ (b : Bool). Grows (f.history old) (f.history mid) (OwnsToEnd (f.me old) (items_told (f.me old) (notes.End c.args.answer) b))) c.if-end.false c.end.ensures.told in
    let second = subst (λ (w : Who). Grows (f.history mid) (f.history new) (OwnsToEnd w (End w c.give_up.result ∷ []))) c.end.ensures.me (subst (λ (a : Answer). Grows (f.history mid) (f.history new) (OwnsToEnd (f.me mid) (End (f.me mid) a ∷ []))) (sym c.give_up.ensures.result) c.give_up.ensures.told) in
    grows_to_end (f.me old) (f.history old) (f.history mid) (f.history new) [] (End (f.me old) c.give_up.result ∷ []) tt (but_the_end (f.me old) (f.history old) (f.history mid) [] first) second
