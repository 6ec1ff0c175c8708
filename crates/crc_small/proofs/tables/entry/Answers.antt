use Rattle.std.proofs.Common.{arith}
use Rattle.crc_small.proofs.Entries.{entry_is}
use Rattle.crc_small.proofs.tables.entry.Goals as goal

pub returns : goal.returns
returns c = entry_is c.args.table c.args.byte c.requires (omega arith)
