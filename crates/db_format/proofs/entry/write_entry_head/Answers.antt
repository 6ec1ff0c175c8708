use Rattle.std.proofs.Common.{rules, sym, ap, ◌∙◌, length, List, ℕ}
use Rattle.db_format.proofs.EntryLaws.{entry_written}
use Rattle.db_format.proofs.entry.write_entry_head.Goals as goal

pub returns-clause-reads : goal.returns-clause-reads
returns-clause-reads c =
    let whole = sym (ap (λ (x : List ℕ). length x) c.copy_from_slice.ensures.after) ∙ c.copy_from_slice.ensures.len in
    entry_written _ (record { key = c.args.key.now; sum = c.args.sum; size = c.args.size }) whole c.ranges.size.fits (search rules)
