use Rattle.std.proofs.Common.{rules, sym, ◌∙◌}
use Rattle.db_format.proofs.RowLaws.{row_exact}
use Rattle.db_format.proofs.row.read_row.Goals as goal

pub returns-clause-read : goal.returns-clause-read
returns-clause-read c = λ row.
    let exact = row_exact c.args.bytes.now row (search rules) (search rules) in
    (λ e. exact.0 (sym c.fields_of.ensures ∙ e), λ r. c.fields_of.ensures ∙ exact.1 r)
