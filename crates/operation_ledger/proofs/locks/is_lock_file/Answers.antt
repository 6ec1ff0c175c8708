use Rattle.std.proofs.Common.{ap, ◌∙◌, ◌&&◌, List}
use Rattle.std.specs.List.{list_any}
use Rattle.cache_types.specs.declared.name.Name.{Name}
use Rattle.seat_rules.specs.Kinds.{is_lock_of}
use Rattle.seat_rules.specs.Operations.{is_file}
use Rattle.world_tables.specs.Tables.{disk_at}
use Rattle.operation_ledger.proofs.Listing.{lock_file_same}
use Rattle.operation_ledger.proofs.locks.is_lock_file.Goals as goal

pub returns : goal.returns
returns c = λ had is listed.
    c.has_lock.ensures
    ∙ ap (λ (names : List Name). list_any (λ name. is_lock_of c.args.root name && is_file c.args.file ((disk_at c.args.tables.now).names name)) names) (c.names_of.ensures had is)
    ∙ lock_file_same had (disk_at c.args.tables.now) c.args.root c.args.file listed
