use Rattle.std.proofs.Common.{◌≡◌, length}
use Rattle.std.specs.List.{list_all}
use Rattle.file_log.specs.Disk.{bytes_in}
use Rattle.world_log.specs.Ledgers.{keeps_at}
use Rattle.world_tables.specs.Tables.{disk_at}
use Rattle.world_log.proofs.ledger.Ledger.keeps_all.Given as goal

abbrev pub invariant-loop-rest : goal.invariant-loop-rest
invariant-loop-rest l =
    let keeps = keeps_at l.self.evicting.items l.who l.entry.root l.entry.key (bytes_in (disk_at l.tables).files l.entry.old) (bytes_in (disk_at l.tables).files l.entry.new) in
    list_all (λ r. keeps r.at) l.rest ≡ list_all (λ r. keeps r.at) l.records

abbrev pub decreases-loop-rest : goal.decreases-loop-rest
decreases-loop-rest l = length l.rest
