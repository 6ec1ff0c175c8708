use Rattle.std.proofs.Common.{◌≡◌, [], ◌∷◌, ◌++◌, subst}
use Rattle.std.proofs.lemmas.Result.{on_ok_weaker}
use Rattle.settings_read.specs.Seen.{IsSeen}
use Rattle.settings_read.proofs.SeenNames.{added}
use Rattle.settings_read.proofs.names.add_name.Goals as goal

pub returns-clause-seen : goal.returns-clause-seen
returns-clause-seen c =
    let seen = added c.args.seen.now c.insert.new.self c.args.names.now c.args.piece.now c.requires c.in_ok-insert.ensures.updates in
    let name : c.in_ok-of.field-0 ≡ c.args.piece.now = cc (c.in_ok-of.ensures, c.text_of.ensures) in
    on_ok_weaker c.push.result (λ (pushed : c.push.new.self ≡ c.args.names.now ++ c.in_ok-of.field-0 ∷ []). let whole : c.args.names.now ++ c.args.piece.now ∷ [] ≡ c.push.new.self = cc in subst (IsSeen c.insert.new.self) whole seen) c.push.ensures.ok
