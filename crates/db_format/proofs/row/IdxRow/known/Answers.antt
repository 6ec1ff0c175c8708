use Rattle.std.proofs.Common.{rules}
use Rattle.db_format.proofs.row.IdxRow.known.Goals as goal

pub returns : goal.returns
returns c = record { hash = search rules; size = search rules; access = search rules; place = search rules }
