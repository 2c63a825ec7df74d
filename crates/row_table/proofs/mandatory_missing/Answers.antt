-- `row_table::mandatory_missing`: all eleven rows are the table, so `missing_before` answers for it.
use Rattle.model.specs.Rows.{mandatory_missing, missing_from, row_table}
use Rattle.row_table.proofs.mandatory_missing.Goals as goal

pub returns : goal.returns
unfolding mandatory_missing missing_from row_table
returns c = c.missing_before.ensures
