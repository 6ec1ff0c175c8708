use Rattle.std.proofs.Common.{Bool, [], ◌∷◌, ◌++◌, subst, sym, inl, inr, ◌∙◌}
use Rattle.cache_types.specs.declared.answer.Answer.TheVariants.{NoMemory}
use Rattle.cache_types.specs.declared.seat.Who.{Who}
use Rattle.file_log.specs.declared.item.LogItem.TheVariants.{Begin, End}
use Rattle.file_log.specs.declared.note.Note.TheVariants as notes
use Rattle.file_log.specs.Told.{Grows, Owns, OwnsToEnd}
use Rattle.file_log.proofs.Logs.{grows_to_end, but_the_end, some_last}
use Rattle.files_api.specs.Drive.{items_of_all, Runs}
use Rattle.files_api.specs.Notes.{items_told}
use Rattle.files_api.proofs.Driving.{counts_within}
use Rattle.files_api.proofs.operation.operate.Goals as goal

pub returns-in_default-clause-ended : goal.returns-in_default-clause-ended
returns-in_default-clause-ended g c =
    let f = g.F.Files in
    let old = c.args.files.now in
    let begun = c.begin.new.self in
    let new = c.give_up.new.files in
    let me = f.me old in
    let first = subst (λ (b : Bool). Grows (f.history old) (f.history begun) (OwnsToEnd me (items_told me (notes.Begin c.args.request) b))) c.if-not-begin.false c.begin.ensures.told in
    let second = subst (λ (w : Who). Grows (f.history begun) (f.history new) (OwnsToEnd w (End w NoMemory ∷ []))) c.begin.ensures.me c.give_up.ensures.told in
    inr (inl (record {
      answer_is = c.give_up.ensures.result;
      told = grows_to_end me (f.history old) (f.history begun) (f.history new) (Begin me c.args.request ∷ []) (End me NoMemory ∷ []) tt (but_the_end me (f.history old) (f.history begun) (Begin me c.args.request ∷ []) first) second;
    }))

pub returns-clause-ended : goal.returns-clause-ended
returns-clause-ended g c =
    let f = g.F.Files in
    let m = g.M.Machine in
    let old = c.args.files.now in
    let begun = c.begin.new.self in
    let driven = c.drive-answer.new.files in
    let new = c.tell_end.new.files in
    let me = f.me old in
    let r = c.drive-answer.ensures.run in
    let first = subst (λ (b : Bool). Grows (f.history old) (f.history begun) (OwnsToEnd me (items_told me (notes.Begin c.args.request) b))) c.if-not-begin.false c.begin.ensures.told in
    let second = subst (λ (w : Who). Grows (f.history begun) (f.history driven) (Owns w (items_of_all r.exchanges))) c.begin.ensures.me r.told in
    let third = subst (λ (w : Who). Grows (f.history driven) (f.history new) (OwnsToEnd w (End w c.tell_end.result ∷ []))) (c.drive-answer.ensures.me ∙ c.begin.ensures.me) c.tell_end.ensures.told in
    let rest = grows_to_end me (f.history begun) (f.history driven) (f.history new) (items_of_all r.exchanges) (End me c.tell_end.result ∷ []) tt second third in
    inr (inr (record {
      first = c.in-Ok.made;
      last = c.drive-answer.new.machine;
      made = c.in-Ok.ensures;
      given = c.drive-answer.result;
      exchanges = r.exchanges;
      runs = subst (λ (w : Who). Runs m.asks m.asked m.fed w c.in-Ok.made r.exchanges c.drive-answer.result c.drive-answer.new.machine) c.begin.ensures.me r.runs;
      within = r.within;
      counts = counts_within (f.faults old) (f.faults begun) (f.faults driven) (f.faults new) r.exchanges c.begin.ensures.faults r.counts c.tell_end.ensures.faults;
      answer_is = c.tell_end.ensures.result;
      told = grows_to_end me (f.history old) (f.history begun) (f.history new) (Begin me c.args.request ∷ []) (items_of_all r.exchanges ++ End me c.tell_end.result ∷ []) (some_last (items_of_all r.exchanges) (End me c.tell_end.result)) (but_the_end me (f.history old) (f.history begun) (Begin me c.args.request ∷ []) first) rest;
    }))
