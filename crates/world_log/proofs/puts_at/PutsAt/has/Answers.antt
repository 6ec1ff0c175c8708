use Rattle.std.proofs.Common.{◌≡◌, ◌∙◌, nat_eq, reverse, rules}
use Rattle.std.specs.Cmp.Lexicographic.{pointwise}
use Rattle.std.specs.List.{list_any}
use Rattle.world_log.proofs.Grouping.{is_later, is_first}
use Rattle.world_log.proofs.puts_at.PutsAt.has.Goals as goal

pub returns-then-is_among : goal.returns-then-is_among
returns-then-is_among c =
    let r = c.args.self.now in
    let is : c.is_among.result ≡ list_any (pointwise nat_eq c.args.blob.now) (reverse r.later.items) = search rules in
    is_later (pointwise nat_eq c.args.blob.now) r.first r.later.items c.is_among.result is c.if-is_among.true

pub returns-else-is_among : goal.returns-else-is_among
returns-else-is_among c =
    let r = c.args.self.now in
    let is : c.is_among.result ≡ list_any (pointwise nat_eq c.args.blob.now) (reverse r.later.items) = search rules in
    let same : c.eq.result ≡ pointwise nat_eq c.args.blob.now r.first = search rules in
    same ∙ is_first (pointwise nat_eq c.args.blob.now) r.first r.later.items c.is_among.result is c.if-is_among.false
