use Rattle.std.proofs.Common.{List, ap, ◌∙◌}
use Rattle.std.specs.List.{list_all}
use Rattle.file_log.specs.Disk.{bytes_in}
use Rattle.world_log.specs.Ledgers.{keeps_at}
use Rattle.world_log.specs.declared.puts_at.PutsAt.{PutsAt}
use Rattle.world_log.proofs.Grouping.{all_kept}
use Rattle.world_tables.specs.Tables.{disk_at}
use Rattle.world_log.proofs.ledger.Ledger.keeps_each.Goals as goal

pub returns : goal.returns
returns c = λ puts is.
    let ledger = c.args.self.now in
    let entry = c.args.entry.now in
    let files = (disk_at c.args.tables.now).files in
    let keeps = keeps_at ledger.evicting.items c.args.who entry.root entry.key (bytes_in files entry.old) (bytes_in files entry.new) in
    c.keeps_all.ensures
    ∙ ap (λ (l : List PutsAt). list_all (λ r. keeps r.at) l) c.under.ensures
    ∙ all_kept ledger.puts ledger.evicting.items c.args.who entry.root entry.key (bytes_in files entry.old) (bytes_in files entry.new) puts is
