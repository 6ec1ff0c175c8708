use Rattle.std.proofs.Common.{rules}
use Rattle.db_format.proofs.row.write_row.Goals as goal

pub returns-clause-reads : goal.returns-clause-reads
returns-clause-reads c = record { fits = c.known.ensures; whole = search rules }
