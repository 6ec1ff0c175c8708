use Rattle.std.proofs.Common.{◌≡◌, ◌∷◌, [], refl, rules}
use Rattle.world_tables.specs.Tables.{disk_at}
use Rattle.operation_ledger.proofs.Going.{begun_holds}
use Rattle.operation_ledger.proofs.operation.OpenOperation.begin.Goals as goal

pub returns : goal.returns
returns c = λ had listed.
    let gave : c.push.new.self.items ≡ c.in_ok-given.given ∷ [] = search rules in
    begun_holds had (disk_at c.args.tables.now) _ c.args.request.now c.in_ok-given.given c.in_ok-copy.ensures gave c.in_ok-given.ensures c.entry_of-entry.ensures refl c.new.ensures.items refl listed
